-- What holds of a choice holds of both sides, each under its test.
use Rattle.std.proofs.Common.{◌≡◌, Bool, true, false, cond, refl}

pub by_cond : {A : Type 0} (P : A → Type 0) (x : Bool) (a b : A) → (x ≡ true → P a) → (x ≡ false → P b)
    → P (cond x a b)
by_cond P true a b f g = f refl
by_cond P false a b f g = g refl

pub both_cond : {A B : Type 0} (P : A → B → Type 0) (x : Bool) (a b : A) (c d : B) → (x ≡ true → P a c)
    → (x ≡ false → P b d) → P (cond x a b) (cond x c d)
both_cond P true a b c d f g = f refl
both_cond P false a b c d f g = g refl
