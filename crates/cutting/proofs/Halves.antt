-- A program in which one move of another is made by two refines it: a cut refines, and a join read backwards.
use Rattle.std.proofs.Common.{◌≡◌, ℕ, zero, suc, ◌<◌, ◌≤◌, Bool, true, false, T, eqb, ◌↔◌, List, [], ◌∷◌, ◌++◌, map}
use Rattle.std.proofs.Common.{length, get_or, sym, refl, ap, ◌∙◌, subst, ⊎_elim, arith}
use Rattle.std.proofs.Math.ListN.{get_or-map}
use Rattle.std.proofs.lemmas.List.{length-map, map-append, get_or_push}
use Rattle.std.proofs.lemmas.Bool.{eqb-true, eqb-false, eq-eqb}
use Rattle.tctl.specs.Graph as timed
use Rattle.tctl.specs.Runs.{Ends, Sound}
use Rattle.tctl.specs.Refine.{Refines, span}
use Rattle.tctl.proofs.Common.{open_fits}
use Rattle.tctl.proofs.Refined.{sound_up, sound_down}
use Rattle.program.specs.declared.Kind.{Kind}
use Rattle.program.specs.declared.Kind.TheVariants.{Silent}
use Rattle.program.specs.declared.Stage.{Stage}
use Rattle.program.specs.Meaning.{Prog, no_move, move_at}
use Rattle.program.specs.Edits.{is_open, with_cut, with_join}
use Rattle.program.specs.Graphs.{timed_stage, timed_move, graph}
use Rattle.program.specs.Tidy.{Tidy}
use Rattle.program.proofs.Splits.{Split, size, count, split_size, sort, leaves_up, enters_up, minutes_up, only_out}
use Rattle.program.proofs.Splits.{split_from, split_to}
use Rattle.program.proofs.Cuts.{cut_splits, join_splits}
use Rattle.cutting.specs.Minute.{silent_one}
use Rattle.cutting.specs.Theorems.{Agree, CutRefines, JoinRefines}
use Rattle.cutting.proofs.Alikes.{refined_alike_lem}

-- The graph of a program

pub graph_size : (p : Prog) → timed.size (graph p) ≡ size p
graph_size p = length-map p.stages timed_stage

pub graph_count : (p : Prog) → timed.count (graph p) ≡ count p
graph_count p = length-map p.moves timed_move

pub graph_move : (p : Prog) (m : ℕ) → timed.move_at (graph p) m ≡ timed_move (move_at p m)
graph_move p m = get_or-map timed_move p.moves m no_move

module _ (p : Prog) (m : ℕ) where
  pub graph_leaves : (timed.move_at (graph p) m).leaves ≡ (move_at p m).leaves
  graph_leaves = ap (λ (x : timed.Move). x.leaves) (graph_move p m)

  pub graph_enters : (timed.move_at (graph p) m).enters ≡ (move_at p m).enters
  graph_enters = ap (λ (x : timed.Move). x.enters) (graph_move p m)

  pub graph_minutes : (timed.move_at (graph p) m).minutes ≡ (move_at p m).minutes
  graph_minutes = ap (λ (x : timed.Move). x.minutes) (graph_move p m)

pub graph_ends : (p : Prog) → ((m : ℕ) → m < count p → (move_at p m).leaves < size p)
    → ((m : ℕ) → m < count p → (move_at p m).enters < size p) → Ends (graph p)
graph_ends p from to =
    let n = graph_size p in
    let c = graph_count p in
    record {
      from = λ m l. let e = graph_leaves p m in let h = from m (omega arith) in omega arith;
      to = λ m l. let e = graph_enters p m in let h = to m (omega arith) in omega arith;
    }

pub tidy_ends : (p : Prog) → Tidy p → Ends (graph p)
tidy_ends p t = graph_ends p (λ m l. (t.ends m l).0) (λ m l. (t.ends m l).1)

silent_shut : (k : Kind) → k ≡ Silent → is_open k ≡ false
silent_shut k e = ap is_open e

module _ (q p : Prog) (S : Split q p) where
  abbrev G : timed.Graph
  G = graph q

  abbrev H : timed.Graph
  H = graph p

  abbrev k : ℕ
  k = S.k

  abbrev out : ℕ
  out = S.out

  abbrev up : ℕ → ℕ
  up m = S.up m

  real : (m : ℕ) → m < timed.count G → m < count q
  real m l = let e = graph_count q in omega arith

  links_into : (m : ℕ) → m < count p → m < timed.count H
  links_into m l = let e = graph_count p in omega arith

  -- the moves of p by which a move of q is made
  abbrev links : Bool → ℕ → List ℕ
  links true m = up m ∷ out ∷ []
  links false m = up m ∷ []

  abbrev chain : ℕ → List ℕ
  chain m = links (eqb m k) m

  links_some : (b : Bool) (m : ℕ) → 0 < length (links b m)
  links_some true m = omega arith
  links_some false m = omega arith

  links_first : (b : Bool) (m : ℕ) → get_or (links b m) 0 0 ≡ up m
  links_first true m = refl
  links_first false m = refl

  links_real : (b : Bool) (m i : ℕ) → m < count q → i < length (links b m) → get_or (links b m) i 0 < count p
  links_real true m zero lm l = S.real_up m lm
  links_real true m (suc zero) lm l = S.real_out
  links_real true m (suc (suc i)) lm l = absurd (omega arith)
  links_real false m zero lm l = S.real_up m lm
  links_real false m (suc i) lm l = absurd (omega arith)

  links_last : (b : Bool) (m i : ℕ) → eqb m k ≡ b → m < count q → suc i ≡ length (links b m)
      → (move_at p (get_or (links b m) i 0)).enters ≡ (move_at q m).enters
  links_last true m zero e lm l = absurd (omega arith)
  links_last true m (suc zero) e lm l = S.out_enters ∙ ap (λ x. (move_at q x).enters) (sym (eqb-true m k e))
  links_last true m (suc (suc i)) e lm l = absurd (omega arith)
  links_last false m zero e lm l = enters_up q p S m lm (eqb-false m k e)
  links_last false m (suc i) e lm l = absurd (omega arith)

  links_minutes : (b : Bool) (m : ℕ) → eqb m k ≡ b → m < count q → span H (links b m) ≡ (move_at q m).minutes
  links_minutes true m e lm =
      let a = graph_minutes p (up m) in
      let a' = graph_minutes p out in
      let z : (move_at p (up m)).minutes ≡ (move_at p (up k)).minutes =
      ap (λ x. (move_at p (up x)).minutes) (eqb-true m k e) in
      let z' : (move_at q m).minutes ≡ (move_at q k).minutes = ap (λ x. (move_at q x).minutes) (eqb-true m k e) in
      let h = S.sum in
      omega arith
  links_minutes false m e lm =
      let a = graph_minutes p (up m) in
      let h = minutes_up q p S m lm (eqb-false m k e) in
      omega arith

  links_enters : (b : Bool) (m i : ℕ) → eqb m k ≡ b → suc i < length (links b m)
      → (move_at p (get_or (links b m) i 0)).enters ≡ size q
  links_enters true m zero e l = ap (λ x. (move_at p (up x)).enters) (eqb-true m k e) ∙ S.in_enters
  links_enters true m (suc i) e l = absurd (omega arith)
  links_enters false m i e l = absurd (omega arith)

  links_leaves : (b : Bool) (m i : ℕ) → suc i < length (links b m)
      → (move_at p (get_or (links b m) (suc i) 0)).leaves ≡ size q
  links_leaves true m zero l = S.out_leaves
  links_leaves true m (suc i) l = absurd (omega arith)
  links_leaves false m i l = absurd (omega arith)

  links_out : (b : Bool) → b ≡ true → (1 < length (links b k)) × (get_or (links b k) 1 0 ≡ out)
  links_out true e = (omega arith, refl)
  links_out false e = let z : ◌≡◌ {A = ℕ} 0 1 = cc in absurd (omega arith)

  graph_stages : H.stages ≡ G.stages ++ (timed_stage S.extra ∷ [])
  graph_stages =
      ap (λ (xs : List Stage). map timed_stage xs) S.stages
      ∙ map-append timed_stage q.stages (S.extra ∷ [])

  last_shut : timed.Open H (timed.size G) → ⊥
  last_shut o =
      let e = ap (λ (xs : List timed.Stage). get_or xs (timed.size G) silent_one) graph_stages
      ∙ get_or_push G.stages (timed_stage S.extra) silent_one (timed.size G) refl in
      let h : (timed.stage_at H (timed.size G)).shown ≡ false =
      ap (λ (x : timed.Stage). x.shown) e ∙ silent_shut S.extra.kind S.hushed in
      subst (λ b. T b) h o

  only_out_of : (x : ℕ) → x < timed.count H → timed.size G ≤ (timed.move_at H x).leaves → x ≡ out
  only_out_of x l h =
      let c = graph_count p in
      let n = graph_size q in
      let e = graph_leaves p x in
      only_out q p S x (omega arith) (omega arith)

  pub split_refines : Refines (graph q) (graph p)
  split_refines =
      record {
        chains =
            record {
              extra = timed_stage S.extra ∷ [];
              stages = graph_stages;
              silent = λ s l o.
                  let h = open_fits H s o in
                  let e = split_size q p S in
                  let n = graph_size q in
                  let n' = graph_size p in
                  last_shut (subst (λ x. timed.Open H x) (let z : s ≡ timed.size G = omega arith in z) o);
              chain = chain;
              some = λ m l. links_some (eqb m k) m;
              real = λ m i lm l. links_into (get_or (chain m) i 0) (links_real (eqb m k) m i (real m lm) l);
              first = λ m l.
                  graph_leaves p (get_or (chain m) 0 0) ∙ ap (λ x. (move_at p x).leaves) (links_first (eqb m k) m)
                  ∙ leaves_up q p S m (real m l) ∙ sym (graph_leaves q m);
              last = λ m i lm l.
                  graph_enters p (get_or (chain m) i 0) ∙ links_last (eqb m k) m i refl (real m lm) l
                  ∙ sym (graph_enters q m);
              minutes = λ m l. links_minutes (eqb m k) m refl (real m l) ∙ sym (graph_minutes q m);
              through = λ m i lm l.
                  let e = links_enters (eqb m k) m i refl l in
                  let h = graph_enters p (get_or (chain m) i 0) in
                  let n = graph_size q in
                  omega arith;
              joined = λ m i lm l.
                  graph_leaves p (get_or (chain m) (suc i) 0) ∙ links_leaves (eqb m k) m i l
                  ∙ sym (links_enters (eqb m k) m i refl l) ∙ sym (graph_enters p (get_or (chain m) i 0));
            };
        all = λ a l.
            let c = graph_count p in
            let c' = graph_count q in
            ⊎_elim
            (λ e.
            let h = links_out (eqb k k) (eq-eqb k k refl) in
            let r = S.real_k in
            (k, 1, omega arith, h.0, h.1 ∙ sym e))
            (λ o.
            let r = o.1 in
            (o.0, 0, omega arith, links_some (eqb o.0 k) o.0, links_first (eqb o.0 k) o.0 ∙ o.2))
            (sort q p S a (omega arith));
        one_out = λ a b la lb h e.
            only_out_of a la h ∙ sym (only_out_of b lb (subst (λ x. timed.size G ≤ x) e h));
      }

  split_ends : Ends (graph q)
  split_ends = graph_ends q S.from S.to

  split_sound : Sound (graph q) ↔ Sound (graph p)
  split_sound = (
    (λ h.
        sound_up G H split_ends split_refines h (graph_ends p (split_from q p S) (split_to q p S))
        (λ s l u.
        let e = split_size q p S in
        let n = graph_size q in
        let n' = graph_size p in
        let z : size q ≡ s = omega arith in
        (out, links_into out S.real_out, graph_leaves p out ∙ S.out_leaves ∙ z))),
    sound_down G H split_ends split_refines,
  )

  pub split_agree : Agree (graph q) (graph p)
  split_agree = record { alike = refined_alike_lem G H split_ends split_refines; sound = split_sound }

pub cut_refines_lem : CutRefines
cut_refines_lem p ok k a lk la =
    let n = graph_size p in
    let c = graph_count p in
    let from : (m : ℕ) → m < count p → (move_at p m).leaves < size p =
    λ m l. (let h = ok.from m (omega arith) in let e = graph_leaves p m in omega arith) in
    let to : (m : ℕ) → m < count p → (move_at p m).enters < size p =
    λ m l. (let h = ok.to m (omega arith) in let e = graph_enters p m in omega arith) in
    split_refines p (with_cut p k a) (cut_splits p from to k a lk la)

pub join_refines_lem : JoinRefines
join_refines_lem p t si = split_refines (with_join p) p (join_splits p t si)
