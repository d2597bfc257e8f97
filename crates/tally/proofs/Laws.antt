-- The three tallies keep the laws.
use Rattle.std.proofs.Common.{rules, ◌≡◌, ℕ, Bool, true, false, refl, ap, Option, Some, None, arith}
use Rattle.tally.specs.declared.Minutes.{Minutes}
use Rattle.tally.specs.Algebras.{Laws, reach_algebra, minutes_algebra, either_minutes, after}

pub reach_laws : Laws reach_algebra
reach_laws = search rules

minutes_assoc : (longest : Bool) (a b c : Option ℕ)
    → either_minutes longest (either_minutes longest a b) c ≡ either_minutes longest a (either_minutes longest b c)
minutes_assoc longest None b c = refl
minutes_assoc longest (Some a) None c = refl
minutes_assoc longest (Some a) (Some b) None = refl
minutes_assoc true (Some a) (Some b) (Some c) = ap Some (omega arith)
minutes_assoc false (Some a) (Some b) (Some c) = ap Some (omega arith)

minutes_comm : (longest : Bool) (a b : Option ℕ) → either_minutes longest a b ≡ either_minutes longest b a
minutes_comm longest None None = refl
minutes_comm longest None (Some b) = refl
minutes_comm longest (Some a) None = refl
minutes_comm true (Some a) (Some b) = ap Some (omega arith)
minutes_comm false (Some a) (Some b) = ap Some (omega arith)

minutes_idem : (longest : Bool) (a : Option ℕ) → either_minutes longest a a ≡ a
minutes_idem longest None = refl
minutes_idem true (Some a) = ap Some (omega arith)
minutes_idem false (Some a) = ap Some (omega arith)

minutes_spread : (longest : Bool) (d : ℕ) (a b : Option ℕ)
    → after d (either_minutes longest a b) ≡ either_minutes longest (after d a) (after d b)
minutes_spread longest d None b = refl
minutes_spread longest d (Some a) None = refl
minutes_spread true d (Some a) (Some b) = ap Some (omega arith)
minutes_spread false d (Some a) (Some b) = ap Some (omega arith)

pub minutes_laws : {n : ℕ} → (longest : Bool) → Laws {A = Minutes n} (minutes_algebra longest)
minutes_laws longest = record {
  associative = λ a b c. ap (λ x. record { 0 = x }) (minutes_assoc longest a.0 b.0 c.0);
  commutative = λ a b. ap (λ x. record { 0 = x }) (minutes_comm longest a.0 b.0);
  idempotent = λ a. ap (λ x. record { 0 = x }) (minutes_idem longest a.0);
  neutral = λ a. refl;
  before_choice = λ d a b. ap (λ x. record { 0 = x }) (minutes_spread longest d a.0 b.0);
  before_none = λ d. refl;
}
