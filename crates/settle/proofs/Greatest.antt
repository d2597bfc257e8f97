-- What is left, once each stage watches a move into what is left, is the endless part of the set.
use Rattle.std.proofs.Common.{◌≡◌, ℕ, zero, suc, ◌<◌, Bool, true, false, T, List, length, get_or, sym, refl, ap}
use Rattle.std.proofs.Common.{◌∙◌, subst, ⊎_elim, arith}
use Rattle.std.proofs.lemmas.List.{get_or-map, length-map, ext_get_or}
use Rattle.program.specs.declared.Stage.{Stage}
use Rattle.program.specs.declared.Move.{Move}
use Rattle.program.specs.Meaning.{no_move}
use Rattle.program.specs.Graphs.{timed_stage, timed_move}
use Rattle.tally.specs.Walks.{among}
use Rattle.tally.specs.Rounds.{Within}
use Rattle.tctl.specs.Graph as timed
use Rattle.tctl.specs.Graph.{Graph, size, count, move_at}
use Rattle.tctl.specs.Runs.{Ends}
use Rattle.tctl.specs.Checker.{tab_from, at, endless}
use Rattle.tctl.specs.Greatest as greatest
use Rattle.tctl.proofs.Basics.{table_e, table_i}
use Rattle.tctl.proofs.Greatest.{endless_is_greatest_lem}
use Rattle.program.specs.declared.End.TheVariants.{Enters}
use Rattle.settle.specs.declared.endless.Sort.{Sort}
use Rattle.settle.specs.declared.removal.Removal.{Removal}
use Rattle.settle.specs.Chains.{end_at}
use Rattle.program.specs.Graphs.{graph_of}
use Rattle.settle.specs.Rows.{row, sort_of}
use Rattle.settle.specs.Removals.{Leads, WatchingBelow, Shrinks}

-- Tests that pass together are one.
same_bool : (a b : Bool) → (T a → T b) → (T b → T a) → a ≡ b
same_bool true true f g = refl
same_bool true false f g = absurd (f tt)
same_bool false true f g = absurd (g tt)
same_bool false false f g = refl

length_tab : {A : Type 0} (f : ℕ → A) (n i : ℕ) → length (tab_from f n i) ≡ n
length_tab f zero i = refl
length_tab f (suc n) i = ap suc (length_tab f n (suc i))

length_endless : (p : Graph) (sort : timed.Move → Bool) (set : List Bool) → length set ≡ size p → (i : ℕ)
    → length (endless p sort set i) ≡ size p
length_endless p sort set e zero = e
length_endless p sort set e (suc i) = length_tab _ (size p) 0

module _ (stages : List Stage) (moves : List Move) (within : Within (length stages) moves) (sort : Sort) where
  abbrev p : Graph
  p = graph_of stages moves

  abbrev n : ℕ
  n = length stages

  sizes : size p ≡ n
  sizes = length-map stages timed_stage

  counts : count p ≡ length moves
  counts = length-map moves timed_move

  moves_at : (k : ℕ) → k < length moves → move_at p k ≡ timed_move (get_or moves k no_move)
  moves_at k l = get_or-map timed_move moves k no_move _ l

  real : (k : ℕ) → k < count p → k < length moves
  real k l = subst (λ x. k < x) counts l

  ends : Ends p
  ends = record {
    from = λ k l.
        subst (λ (m : timed.Move). m.leaves < size p) (sym (moves_at k (real k l)))
        (subst (λ x. (get_or moves k no_move).leaves < x) (sym sizes) (within k (real k l)).0);
    to = λ k l.
        subst (λ (m : timed.Move). m.enters < size p) (sym (moves_at k (real k l)))
        (subst (λ x. (get_or moves k no_move).enters < x) (sym sizes) (within k (real k l)).1);
  }

  -- A move that leads, as the graph has it and as the list.
  leads_graph : (part : ℕ → Bool) (s k : ℕ) → Leads sort moves part s k → greatest.Leads p (sort_of sort) part s
  leads_graph part s k l =
      let e = sym (moves_at k l.real) in
      record {
        by = k;
        real = subst (λ x. k < x) (sym counts) l.real;
        leaves = subst (λ (m : timed.Move). m.leaves ≡ s) e l.leaves;
        sorted = subst (λ (m : timed.Move). T (sort_of sort m)) e l.counts;
        enters = subst (λ (m : timed.Move). T (part m.enters)) e l.enters;
      }

  graph_leads : (part : ℕ → Bool) (s : ℕ) → greatest.Leads p (sort_of sort) part s → (k : ℕ) × Leads sort moves part s k
  graph_leads part s l =
      let k = l.by in
      let e = moves_at k (real k l.real) in (
        k,
        record {
          real = real k l.real;
          leaves = subst (λ (m : timed.Move). m.leaves ≡ s) e l.leaves;
          counts = subst (λ (m : timed.Move). T (sort_of sort m)) e l.sorted;
          enters = subst (λ (m : timed.Move). T (part m.enters)) e l.enters;
        },
      )

  module _ (was after : List ℕ) (r : Removal) (shrinks : Shrinks sort moves (among was) (among after))
      (watching : WatchingBelow n sort moves (among after) (λ k. ⊥) r) where
    abbrev left : List Bool
    left = endless p (sort_of sort) (row n was) (size p)

    length_was : length (row n was) ≡ size p
    length_was = length_tab (among was) n 0 ∙ sym sizes

    great : greatest.Greatest p (sort_of sort) (row n was) left
    great = endless_is_greatest_lem p ends (sort_of sort) (row n was) (let e = length_was in omega arith)

    -- Each stage of the endless part is left, as it lasts.
    all_left : (s : ℕ) → T (at left s) → T (at (row n after) s)
    all_left s t =
        let inside = λ (x : ℕ) (h : T (at left x)). table_e (among was) n x (great.kept.inside x h) in
        table_i (among after) n s (inside s t).0
        (shrinks.lasts (at left) (λ x h. graph_leads (at left) x (great.kept.onward x h)) (λ x h. (inside x h).1) s t)

    -- What is left lasts, so that it is in the endless part.
    only_left : (s : ℕ) → T (at (row n after) s) → T (at left s)
    only_left =
        great.most (at (row n after)) (record {
          inside = λ s t.
              let o = table_e (among after) n s t in
              table_i (among was) n s o.0 (shrinks.inside s o.1);
          onward = λ s t.
              let o = table_e (among after) n s t in
              let w = watching s o.0 o.1 in
              let k = w.by in
              leads_graph (at (row n after)) s k (record {
                real = w.real;
                leaves = w.leaves;
                counts = w.counts;
                enters = table_i (among after) n (end_at Enters moves k) (within k w.real).1
                    (⊎_elim (λ t. t) (λ f. absurd f) w.enters);
              });
        })

    pub endless_left : row n after ≡ endless p (sort_of sort) (row n was) n
    endless_left =
        ext_get_or false (row n after) left
        (length_tab (among after) n 0 ∙ sym sizes
        ∙ sym (length_endless p (sort_of sort) (row n was) length_was (size p)))
        (λ s l. same_bool (at (row n after) s) (at left s) (only_left s) (all_left s))
        ∙ ap (endless p (sort_of sort) (row n was)) sizes
