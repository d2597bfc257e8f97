-- When as many rounds as there are stages say all: for reach and shortest always, and for longest where no walk can go
-- on for ever.
use Rattle.std.proofs.Common.{◌≡◌, ℕ, ◌<◌, Bool, false, T, List, [], ◌∷◌, length, sym, refl, ap, ◌∙◌, subst}
use Rattle.std.proofs.lemmas.List.{length-map}
use Rattle.tctl.specs.Graph as timed
use Rattle.tctl.specs.Checker.{non, table, at, any_move, endless, ◌and◌}
use Rattle.tctl.proofs.Basics.{and_l, and_r, and_i, non_e, table_at, table_e, table_i}
use Rattle.tctl.proofs.Endless.{in_set}
use Rattle.program.specs.declared.Move.{Move}
use Rattle.program.specs.Meaning.{prog}
use Rattle.program.specs.Graphs.{timed_stage, timed_move}
use Rattle.tally.specs.declared.Reach.{Reach}
use Rattle.tally.specs.Algebras.{reach_algebra, shortest_algebra, longest_algebra}
use Rattle.tally.specs.Walks.{Leads, said, tallied, walks}
use Rattle.tally.specs.Rounds.{rounds}
use Rattle.tally.specs.Sweeps.{OfAll}
use Rattle.tally.proofs.Laws.{reach_laws}
use Rattle.tally.proofs.Rounds.{rounds_tally}
use Rattle.tally.proofs.Walked.{all_walks_lem}
use Rattle.tally.proofs.Sweeps.{has_within, chosen_of_all_lem}
use Rattle.tally.proofs.Settling.{reach_settles, short_settles, long_settles, outside_few}
use Rattle.sheet.specs.declared.paths.Paths.{Paths}
use Rattle.settle.specs.Tended.{Settles}
use Rattle.sheet.specs.Sets.{stage_count, timed}
use Rattle.sheet.specs.Told.{reaches}
use Rattle.sheet.proofs.Sets.{timed_move_at}

said_reach : (w : List Move) → said reach_algebra w ≡ reach_algebra.start
said_reach [] = refl
said_reach (m ∷ w) = said_reach w

module _ (paths : Paths) where
  abbrev n : ℕ
  n = stage_count paths

  abbrev moves : List Move
  moves = paths.moves.now

  pub reach_settled : (pass goals : ℕ → Bool) → Settles reach_algebra n moves pass goals
  reach_settled = reach_settles n moves paths.within

  pub short_settled : (pass goals : ℕ → Bool) → Settles shortest_algebra n moves pass goals
  short_settled = short_settles n moves paths.within

  -- Where a walk leads to a goal, the tally says so.
  reach_has : (pass goals : ℕ → Bool) (s : ℕ) → s < n → (w : List Move) → Leads moves pass goals s w
      → T (reaches 0 (tallied reach_algebra moves pass goals n s))
  reach_has pass goals s l w h =
      let all : OfAll reach_algebra n moves pass goals (rounds reach_algebra moves pass goals n) =
      (chosen_of_all_lem reach_algebra reach_laws n moves paths.within pass goals).by_round
      (rounds reach_algebra moves pass goals n)
      (λ t _. record {
        ways = walks moves pass goals n t;
        lead = λ v i. ((all_walks_lem moves pass goals n t v).0 i).0;
        sums = sym (rounds_tally reach_algebra reach_laws moves pass goals n t);
      })
      (reach_settled pass goals) in
      let e =
      rounds_tally reach_algebra reach_laws moves pass goals n s ∙ sym (all.has s l w h)
      ∙ ap (λ x. reach_algebra.choice x (rounds reach_algebra moves pass goals n s)) (said_reach w) in
      subst (λ (x : Reach). T x.0) (sym e) tt

  -- The moves leave stages of the graph.
  from : (k : ℕ) → k < timed.count (timed paths)
      → (timed.move_at (timed paths) k).leaves < timed.size (timed paths)
  from k h =
      let l : k < length moves = subst (λ n. k < n) (length-map moves timed_move) h in
      subst (λ i. (timed.move_at (timed paths) k).leaves < i)
      (sym (length-map paths.stages.now timed_stage))
      (subst (λ (m : timed.Move). m.leaves < n) (sym (timed_move_at moves k l))
      (paths.within k l).0)

  module _ (set ever rest goals : ℕ → Bool) (left : table n ever ≡ endless (timed paths) any_move (table n set) n)
    where
      -- What is passed by a walk is in the set, and not in the part that need not be left.
      outside_settled : ((s : ℕ) (m : Move) (w : List Move) → Leads moves rest goals s (m ∷ w) → T (set s))
          → ((s : ℕ) → s < n → T (rest s) → T (non (ever s)))
          → Settles longest_algebra n moves rest goals
      outside_settled inside out =
          long_settles n moves paths.within rest goals
          (outside_few (prog paths.stages.now moves) from (table n set) rest goals
          (λ s m w h. table_i set n s
          (subst (λ x. x < n) h.1 (has_within n moves paths.within m h.0).0) (inside s m w h))
          n
          (λ s t i.
          let l = (table_e set n s (in_set (timed paths) from any_move (table n set) n s i)).0 in
          non_e (ever s) (out s l t)
          (subst (λ b. T b) (table_at ever false n s l)
          (subst (λ (x : List Bool). T (at x s)) (sym left) i))))

      module _ (pass : ℕ → Bool) (apart : (s : ℕ) → s < n → rest s ≡ (pass s and non (ever s))) where
        not_ever : (s : ℕ) → s < n → T (rest s) → T (non (ever s))
        not_ever s l t = and_r (pass s) (non (ever s)) (subst (λ b. T b) (apart s l) t)

        passed : (s : ℕ) → s < n → T (rest s) → T (pass s)
        passed s l t = and_l (pass s) (non (ever s)) (subst (λ b. T b) (apart s l) t)

        among_stages : (s : ℕ) (m : Move) (w : List Move) → Leads moves rest goals s (m ∷ w) → s < n
        among_stages s m w h = subst (λ x. x < n) h.1 (has_within n moves paths.within m h.0).0

        wider : (s : ℕ) (w : List Move) → Leads moves rest goals s w → Leads moves pass goals s w
        wider s [] h = h
        wider s (m ∷ w) h = (h.0, h.1, passed s (among_stages s m w h) h.2, wider m.enters w h.3)

        -- The part that need not be left is that of the set that was passed.
        pub long_settled : ((s : ℕ) → s < n → set s ≡ pass s) → Settles longest_algebra n moves rest goals
        long_settled same =
            outside_settled
            (λ s m w h. let l = among_stages s m w h in subst (λ b. T b) (sym (same s l)) (passed s l h.2)) not_ever

        -- It is that of the stages of the set from which a walk leads to a goal.
        pub led_settled : (reached : ℕ → Bool)
            → ((s : ℕ) → s < n → reached s ≡ reaches 0 (tallied reach_algebra moves pass goals n s))
            → ((s : ℕ) → s < n → set s ≡ (pass s and reached s))
            → Settles longest_algebra n moves rest goals
        led_settled reached told led =
            outside_settled
            (λ s m w h.
            let l = among_stages s m w h in
            subst (λ b. T b) (sym (led s l))
            (and_i (pass s) (reached s) (passed s l h.2)
            (subst (λ b. T b) (sym (told s l)) (reach_has pass goals s l (m ∷ w) (wider s (m ∷ w) h)))))
            not_ever
