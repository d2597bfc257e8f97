-- What the tests of a program find, and what its graph has then.
use Rattle.std.proofs.Common.{◌≡◌, ℕ, zero, suc, ◌*◌, ◌<◌, Bool, true, false, T, eqb, ltb, leb, List, length, get_or}
use Rattle.std.proofs.Common.{sym, refl, ap, ◌∙◌, subst, ⊎_elim, le→leb, lt→ltb, leb→le}
use lib.Dec.{eqb_refl}
use Rattle.std.proofs.lemmas.List.{length-map}
use Rattle.std.proofs.lemmas.Bool.{cases_Bool}
use Rattle.program.specs.declared.Stage.{Stage}
use Rattle.program.specs.declared.Move.{Move}
use Rattle.program.specs.Meaning.{Prog, prog, no_move}
use Rattle.program.specs.Graphs.{timed_stage, timed_move, graph_of}
use Rattle.tally.specs.Rounds.{Within}
use Rattle.tctl.specs.Graph as timed
use Rattle.tctl.specs.Runs.{Sound}
use Rattle.tctl.specs.Checker.{non, at, table, endless, still, any_move, into, all_below, ◌and◌}
use Rattle.tctl.proofs.Basics.{and_l, and_r, and_i, table_e, table_i}
use Rattle.tctl.proofs.Endless.{into_i, in_step, in_set, in_pull, fixed}
use Rattle.tctl.proofs.Tested.{all_i, test_right_lem}
use Rattle.sheet.proofs.Sets.{timed_move_at}
use Rattle.checker.specs.Outcomes.{Memory, Enough, AllOnward, Cycle}
use Rattle.checker.specs.Found.{both, enough?, ahead, steps}
use Rattle.checker.proofs.Cycles.{goes_round, stays, steps_same, cycle_next, has_place}

-- The test of the memory.
module _ (n : ℕ) (m : Memory) where
  abbrev a : Bool
  a = leb n (length m.sheet)

  abbrev b : Bool
  b = leb (4 * n) (length m.reached)

  abbrev c : Bool
  c = leb (4 * n) (length m.shortest)

  abbrev d : Bool
  d = leb (4 * n) (length m.longest)

  pub enough_if : enough? n m ≡ true → Enough n m
  enough_if e =
      let t = subst (λ (x : Bool). T x) (sym e) tt in
      let u = and_r a (both b (both c d)) t in
      let v = and_r b (both c d) u in (
        leb→le n (length m.sheet) (and_l a (both b (both c d)) t),
        leb→le (4 * n) (length m.reached)
            (and_l b (both c d) u),
        leb→le (4 * n) (length m.shortest) (and_l c d v),
        leb→le (4 * n) (length m.longest) (and_r c d v),
      )

  pub short_if : enough? n m ≡ false → Enough n m → ⊥
  short_if f e =
      subst (λ (x : Bool). T x) f
      (and_i a (both b (both c d)) (le→leb n (length m.sheet) e.0)
      (and_i b (both c d) (le→leb (4 * n) (length m.reached) e.1)
      (and_i c d (le→leb (4 * n) (length m.shortest) e.2) (le→leb (4 * n) (length m.longest) e.3))))

module _ (stages : List Stage) (moves : List Move) (within : Within (length stages) moves) where
  abbrev P : Prog
  P = prog stages moves

  abbrev p : timed.Graph
  p = graph_of stages moves

  abbrev n : ℕ
  n = timed.size p

  as_many : n ≡ length stages
  as_many = length-map stages timed_stage

  as_many_moves : timed.count p ≡ length moves
  as_many_moves = length-map moves timed_move

  -- what holds of a move of the program holds of that of its graph, and the other way round
  into_graph : (X : timed.Move → Type 0) (k : ℕ) → k < length moves → X (timed_move (get_or moves k no_move))
      → X (timed.move_at p k)
  into_graph X k h x = subst X (sym (timed_move_at moves k h)) x

  from_graph : (X : timed.Move → Type 0) (k : ℕ) → k < length moves → X (timed.move_at p k)
      → X (timed_move (get_or moves k no_move))
  from_graph X k h x = subst X (timed_move_at moves k h) x

  in_program : (k : ℕ) → k < timed.count p → k < length moves
  in_program k h = subst (λ x. k < x) as_many_moves h

  in_graph : (k : ℕ) → k < length moves → k < timed.count p
  in_graph k h = subst (λ x. k < x) (sym as_many_moves) h

  leaves : (k : ℕ) → k < timed.count p → (timed.move_at p k).leaves < n
  leaves k h =
      let l = in_program k h in
      into_graph (λ m. m.leaves < n) k l (subst (λ x. (get_or moves k no_move).leaves < x) (sym as_many) (within k l).0)

  enters : (k : ℕ) → k < timed.count p → (timed.move_at p k).enters < n
  enters k h =
      let l = in_program k h in
      into_graph (λ m. m.enters < n) k l (subst (λ x. (get_or moves k no_move).enters < x) (sym as_many) (within k l).1)

  abbrev every : List Bool
  every = table n (λ s. true)

  every_fits : (s : ℕ) → T (at every s) → s < n
  every_fits s t = (table_e (λ y. true) n s t).0

  -- the stages from which one can go on for ever without any time
  abbrev pub rests : ℕ → Bool
  rests = at (endless p still every n)

  fits : (s : ℕ) → T (rests s) → s < n
  fits s t = every_fits s (in_set p leaves still every n s t)

  -- each stage of the part has a 0-minute move into it
  rests_step : (s : ℕ) → T (rests s)
      → (k : ℕ) × (k < timed.count p) × ((timed.move_at p k).leaves ≡ s) × T (still (timed.move_at p k))
      × T (rests (timed.move_at p k).enters)
  rests_step s t = in_step p leaves still every n s (fixed p leaves still every every_fits s t)

  -- after as many steps as there are stages, from a stage of the part, one is on a cycle
  pub cycle_if : (S : ℕ → Bool) → ((t : ℕ) → t < length stages → S t ≡ rests t) → (s : ℕ) → s < length stages → S s
      ≡ true
      → (r : ℕ) → r ≡ steps (ahead moves S) (length stages) s → (r < length stages) × Cycle P r
  cycle_if S e s l t r d =
      let k = length stages in
      let start : T (rests s) = subst (λ (b : Bool). T b) (sym (sym (e s l) ∙ t)) tt in
      let below : (x : ℕ) → T (rests x) → x < k = λ x u. subst (λ y. x < y) as_many (fits x u) in
      let on : (x : ℕ) → T (rests x)
      → (j : ℕ) × (j < length moves)
      × T (both (eqb (get_or moves j no_move).leaves x) (both (still (timed_move (get_or moves j no_move)))
      (rests (get_or moves j no_move).enters))) = λ x u.
      let o = rests_step x u in
      let h = in_program o.0 o.1 in (
        o.0,
        h,
        from_graph (λ m. T (both (eqb m.leaves x) (both (still m) (rests m.enters)))) o.0 h
            (and_i (eqb (timed.move_at p o.0).leaves x) (both (still (timed.move_at p o.0))
            (rests (timed.move_at p o.0).enters))
            (subst (λ y. T (eqb (timed.move_at p o.0).leaves y)) o.2 (eqb_refl (timed.move_at p o.0).leaves))
            (and_i (still (timed.move_at p o.0)) (rests (timed.move_at p o.0).enters) o.3 o.4)),
      ) in
      let same : steps (ahead moves rests) k s ≡ r = sym (d ∙ steps_same k S rests e moves within k s) in
      let round = goes_round rests k moves below on s start in
      let lands = below (steps (ahead moves rests) k s) (stays rests k moves below on s start k) in
      (subst (λ x. x < k) same lands, subst (Cycle P) same round)

  -- the move of a cycle out of one of its stages
  pub cycle_move : (s : ℕ) → Cycle P s
      → (k : ℕ) × (k < length moves) × ((get_or moves k no_move).leaves ≡ s) × ((get_or moves k no_move).minutes ≡ 0)
      × Cycle P (get_or moves k no_move).enters
  cycle_move s c =
      let o = cycle_next P s c in
      let place = has_place moves o.0 o.1 in
      let same = place.2 in (
        place.0,
        place.1,
        ap (λ (x : Move). x.leaves) same ∙ o.2,
        ap (λ (x : Move). x.minutes) same ∙ o.3,
        subst (λ (x : Move). Cycle P x.enters) (sym same) o.4,
      )

  cycle_stage : (s : ℕ) → Cycle P s → s < length stages
  cycle_stage s c = let o = cycle_move s c in subst (λ x. x < length stages) o.2 (within o.0 o.1).0

  cycle_every : (s : ℕ) → Cycle P s → T (at every s)
  cycle_every s c = table_i (λ y. true) n s (subst (λ x. s < x) (sym as_many) (cycle_stage s c)) tt

  -- no stage of a cycle is removed
  cycle_stays : (i s : ℕ) → Cycle P s → T (at (endless p still every i) s)
  cycle_stays zero s c = cycle_every s c
  cycle_stays (suc i) s c =
      let o = cycle_move s c in
      let k = o.0 in
      let h = o.1 in
      let X : timed.Move → Type 0 = λ m. T (at (endless p still every i) m.enters) in
      in_pull p leaves still every i s (cycle_every s c) (
        k,
        in_graph k h,
        into_graph (λ m. m.leaves ≡ s) k h o.2,
        into_graph (λ m. T (still m)) k h (subst (λ x. T (eqb x 0)) (sym o.3) tt),
        into_graph X k h (cycle_stays i (get_or moves k no_move).enters o.4),
      )

  pub no_cycle : ((s : ℕ) → s < length stages → rests s ≡ false) → (s : ℕ) → Cycle P s → ⊥
  no_cycle none s c = subst (λ (b : Bool). T b) (none s (cycle_stage s c)) (cycle_stays n s c)

  -- the graph of a program that can be checked
  pub sound_if : AllOnward P → ((s : ℕ) → Cycle P s → ⊥) → Sound p
  sound_if onward moving =
      let ends : ℕ → Bool = λ m. ltb (timed.move_at p m).leaves n and ltb (timed.move_at p m).enters n in
      let goes : ℕ → Bool = λ s. into any_move p.moves every s in
      let passes : ℕ → Bool = λ s. non (rests s) in
      (test_right_lem p).0
      (and_i (all_below (timed.count p) ends) (all_below n goes and all_below n passes)
      (all_i ends (timed.count p)
      (λ m l.
      and_i (ltb (timed.move_at p m).leaves n) (ltb (timed.move_at p m).enters n)
      (lt→ltb (timed.move_at p m).leaves n (leaves m l))
      (lt→ltb (timed.move_at p m).enters n (enters m l))))
      (and_i (all_below n goes) (all_below n passes)
      (all_i goes n
      (λ s l.
      let o = onward s (subst (λ x. s < x) as_many l) in
      let h = in_graph o.0 o.1 in
      into_i any_move every s p.moves o.0 h (into_graph (λ m. m.leaves ≡ s) o.0 o.1 o.2) tt
      (table_i (λ x. true) n (timed.move_at p o.0).enters (enters o.0 h) tt)))
      (all_i passes n
      (λ s l.
      ⊎_elim
      (λ t.
      absurd
      (moving (steps (ahead moves rests) (length stages) s)
      (cycle_if rests (λ x h. refl) s (subst (λ x. s < x) as_many l) t (steps (ahead moves rests) (length stages) s)
      refl).1))
      (λ f. subst (λ (b : Bool). T (non b)) (sym f) tt)
      (cases_Bool (rests s))))))
