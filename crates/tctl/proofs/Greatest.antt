-- What is left of a set after as many turns as there are stages is its greatest part that can be kept.
use Rattle.std.proofs.Common.{ℕ, zero, suc, ◌<◌, Bool, T, List, [], ◌∷◌, length, subst, arith}
use Rattle.tctl.specs.Graph.{Graph, Move, size, move_at}
use Rattle.tctl.specs.Runs.{Ends}
use Rattle.tctl.specs.Checker.{at, endless}
use Rattle.tctl.specs.Greatest.{Leads, Kept, Stays}
use Rattle.tctl.specs.Theorems.{EndlessIsGreatest}
use Rattle.tctl.proofs.Runs.{rest}
use Rattle.tctl.proofs.Endless.{In, in_step, in_i, in_set, in_pull, fixed, stay}

-- A list tells of no stage past its end.
pub at_fits : (set : List Bool) (s : ℕ) → T (at set s) → s < length set
at_fits [] s t = absurd t
at_fits (b ∷ set) zero t = omega arith
at_fits (b ∷ set) (suc s) t = let h = at_fits set s t in omega arith

module _ (p : Graph) (ok : Ends p) (sort : Move → Bool) (set : List Bool) where
  -- A part that can be kept is never removed.
  kept_in : (part : ℕ → Bool) → Kept p sort (at set) part → (i s : ℕ) → T (part s) → In p ok.from sort set i s
  kept_in part k zero s t = k.inside s t
  kept_in part k (suc i) s t =
      let o = k.onward s t in
      in_i p ok.from sort set i s (kept_in part k i s t)
      (o.by, o.real, o.leaves, o.sorted, kept_in part k i (move_at p o.by).enters o.enters)

  -- Nor is a stage from which an endless walk stays in the set.
  stays_in : (i s : ℕ) → Stays p sort (at set) s → In p ok.from sort set i s
  stays_in zero s w = subst (λ x. T (at set x)) w.run.starts (w.inside 0)
  stays_in (suc i) s w =
      let m = w.run.way 0 in
      in_pull p ok.from sort set i s (subst (λ x. T (at set x)) w.run.starts (w.inside 0)) (
        m,
        w.run.real 0,
        w.run.starts,
        w.sorted 0,
        stays_in i (move_at p m).enters
            (record { run = rest p s w.run; sorted = λ j. w.sorted (suc j); inside = λ j. w.inside (suc j) }),
      )

  module _ (fits : (s : ℕ) → T (at set s) → s < size p) where
    abbrev left : ℕ → Bool
    left = at (endless p sort set (size p))

    left_onward : (s : ℕ) → T (left s) → Leads p sort left s
    left_onward s t =
        let o = in_step p ok.from sort set (size p) s (fixed p ok.from sort set fits s t) in
        record { by = o.0; real = o.1; leaves = o.2; sorted = o.3; enters = o.4 }

    left_stays : (s : ℕ) → T (left s) → Stays p sort (at set) s
    left_stays s t =
        let o = stay p ok.from sort set fits s t in
        record {
          run = o.0;
          sorted = λ i. (o.1 i).1;
          inside = λ i. in_set p ok.from sort set (size p) _ (o.1 i).0;
        }

pub endless_is_greatest_lem : EndlessIsGreatest
endless_is_greatest_lem p ok sort set l =
    let fits : (s : ℕ) → T (at set s) → s < size p = λ s t. let h = at_fits set s t in omega arith in
    record {
      kept = record { inside = in_set p ok.from sort set (size p); onward = left_onward p ok sort set fits };
      most = λ other k. kept_in p ok sort set other k (size p);
      walks = λ s. (left_stays p ok sort set fits s, stays_in p ok sort set (size p) s);
    }
