-- What the proofs of the four untils share.
use mathlib.Core.Path.{subst}
use mathlib.Core.List.{List, [], ◌∷◌}
use mathlib.Core.Bool.{Bool, false}
use mathlib.Core.Logic.{inl, inr}
use Prim.Native.Nat.{ℕ, zero, suc, ◌+◌, ◌≤◌, ◌<◌}
use native.Mathlib.Nat.{zero-add, add_assoc}
use native.Mathlib.Omega.{arith}
use lib.ListN.{length, get_or}
use lib.Dec.{T, leb→le, le→leb}
use Rattle.tctl.specs.Graph.{Graph, Stage, Move, Open, size, move_at}
use Rattle.tctl.specs.Runs.{Run, stage_on, time_on, Sound}
use Rattle.tctl.specs.Checker.{Entry, none, sum, shortest, longest, at, endless, any_move, ◌and◌, non}
use Rattle.tctl.specs.Checker.{some?, most?, least?}
use Rattle.tctl.proofs.Basics.{and_i, non_i}
use Rattle.tctl.proofs.Sums.{sum_mono}
use Rattle.tctl.proofs.Reach.{Reach, widen}
use Rattle.tctl.proofs.Tally.{Shows, Closed}
use Rattle.tctl.proofs.Runs.{rest, next}
use Rattle.tctl.proofs.Endless.{In, in_before, in_pull}

-- The list has the stages at which S holds, which are open.
pub record Tells (p : Graph) (F : List Bool) (S : ℕ → Type 0) : Type 0 where
  pub sound : (s : ℕ) → T (at F s) → S s
  pub full : (s : ℕ) → S s → T (at F s)
  pub opens : (s : ℕ) → S s → Open p s

shown_fits : (xs : List Stage) (s : ℕ) → T (get_or xs s (record { marks = 0; shown = false })).shown → s < length xs
shown_fits [] s t = absurd t
shown_fits (x ∷ xs) zero t = omega arith
shown_fits (x ∷ xs) (suc s) t = let h = shown_fits xs s t in omega arith

pub open_fits : (p : Graph) (s : ℕ) → Open p s → s < size p
open_fits p s t = shown_fits p.stages s t

pub run_fits : (p : Graph) → Sound p → (s : ℕ) (r : Run p s) (j : ℕ) → stage_on p r.way j < size p
run_fits p ok s r j = ok.from (r.way j) (r.real j)

pub start_fits : (p : Graph) → Sound p → (s : ℕ) (r : Run p s) → s < size p
start_fits p ok s r = subst (λ x. x < size p) r.starts (run_fits p ok s r 0)

-- What the tests on an entry say
pub some_e : (e : Entry) → T (some? e) → Shows e (λ x. Unit {0})
some_e none t = t
some_e (sum a) t = tt

pub some_i : (e : Entry) → Shows e (λ x. Unit {0}) → T (some? e)
some_i none t = t
some_i (sum a) t = tt

pub most_e : (c : ℕ) (e : Entry) → T (most? c e) → Shows e (λ x. x ≤ c)
most_e c none t = t
most_e c (sum a) t = leb→le a c t

pub most_i : (c : ℕ) (e : Entry) → Shows e (λ x. x ≤ c) → T (most? c e)
most_i c none t = t
most_i c (sum a) t = le→leb a c t

pub least_e : (c : ℕ) (e : Entry) → T (least? c e) → Shows e (λ x. c ≤ x)
least_e c none t = t
least_e c (sum a) t = leb→le c a t

pub least_i : (c : ℕ) (e : Entry) → Shows e (λ x. c ≤ x) → T (least? c e)
least_i c none t = t
least_i c (sum a) t = le→leb c a t

pub time_mono : (p : Graph) (j i : ℕ) (w : ℕ → ℕ) → j ≤ i → time_on p j w ≤ time_on p i w
time_mono = sum_mono (λ (m : Move). m.minutes)

-- A walk that goes on from where a run is after i moves.
pub join : (p : Graph) (P G : ℕ → Bool) (k i s : ℕ) (r : Run p s) (Q : ℕ → Type 0)
    → ((j : ℕ) → j < i → T (P (stage_on p r.way j)))
    → Reach p P G k (stage_on p r.way i) (λ x. Q (time_on p i r.way + x)) → (n : ℕ) × Reach p P G n s Q
join p P G k zero s r Q h w = (
  k,
  widen p P P G G (λ x u. u) (λ x u. u) k s _ _ (λ x q. subst Q (zero-add x) q)
      (subst (λ y. Reach p P G k y (λ x. Q (0 + x))) r.starts w),
)
join p P G k (suc i) s r Q h w =
    let o =
    join p P G k i (move_at p (r.way 0)).enters (rest p s r) (λ x. Q ((move_at p (r.way 0)).minutes + x))
    (λ j l. h (suc j) (omega arith))
    (widen p P P G G (λ x u. u) (λ x u. u) k _ _ _
    (λ x q. subst Q (add_assoc (move_at p (r.way 0)).minutes (time_on p i (next r.way)) x) q) w) in
    (suc o.0, inr (r.way 0, r.real 0, r.starts, subst (λ x. T (P x)) r.starts (h 0 (omega arith)), o.1))

-- A walk in a set, from a stage that need leave it, stays out of the stages that need not.
pub avoid : (p : Graph) (ok : Sound p) (set : List Bool) → ((s : ℕ) → T (at set s) → s < size p)
    → (G : ℕ → Bool) (k s : ℕ) (Q : ℕ → Type 0) → (In p ok.from any_move set (size p) s → ⊥)
    → Reach p (at set) G k s Q → Reach p (λ x. at set x and non (at (endless p any_move set (size p)) x)) G k s Q
avoid p ok set fits G zero s Q d w = w
avoid p ok set fits G (suc k) s Q d (inl w) = inl w
avoid p ok set fits G (suc k) s Q d (inr w) =
    inr (
      w.0,
      w.1,
      w.2,
      and_i (at set s) (non (at (endless p any_move set (size p)) s)) w.3
          (non_i (at (endless p any_move set (size p)) s) d),
      avoid p ok set fits G k (move_at p w.0).enters _
          (λ t. d (in_before p ok.from any_move set (size p) s
          (in_pull p ok.from any_move set (size p) s w.3 (w.0, w.1, w.2, tt, t)))) w.4,
    )

pub most_closed : (c : ℕ) → Closed shortest (λ x. x ≤ c)
most_closed c = λ a b l q. omega arith

pub least_closed : (c : ℕ) → Closed longest (λ x. c ≤ x)
least_closed c = λ a b l q. omega arith

-- the minutes of a walk
pub reach_some : (p : Graph) (P G : ℕ → Bool) (k s : ℕ) (Q : ℕ → Type 0) → Reach p P G k s Q → (x : ℕ) × Q x
reach_some p P G zero s Q w = (0, w.1)
reach_some p P G (suc k) s Q (inl w) = (0, w.1)
reach_some p P G (suc k) s Q (inr w) =
    let o = reach_some p P G k (move_at p w.0).enters _ w.4 in ((move_at p w.0).minutes + o.0, o.1)
