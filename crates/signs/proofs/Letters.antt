-- A letter that is read is one of the sixteen from a to p.
use Rattle.std.proofs.Common.{◌≡◌, ℕ, zero, suc, ◌-◌, ◌<◌, Bool, true, false, cond, eqb, leb, List, [], ◌∷◌, refl}
use Rattle.std.proofs.Common.{arith, leb-true}
use Rattle.std.specs.List.{AllByRecursion}
use Rattle.signs.specs.declared.Sign.{Sign}
use Rattle.signs.specs.declared.Sign.TheVariants.{Open, Close, OpenSquare, CloseSquare, Bang, Amp, Bar, Each, Until}
use Rattle.signs.specs.declared.Sign.TheVariants.{UntilAtMost, UntilAtLeast, Letter, Number, Bad}
use Rattle.signs.proofs.Conds.{by_cond}
use Rattle.signs.specs.Signs.{digit, run, pair, plain_sign, sign, more, signs_after, signs}

abbrev pub Fair : Sign → Type 0
Fair Open = Unit {0}
Fair Close = Unit {0}
Fair OpenSquare = Unit {0}
Fair CloseSquare = Unit {0}
Fair Bang = Unit {0}
Fair Amp = Unit {0}
Fair Bar = Unit {0}
Fair (Each q) = Unit {0}
Fair Until = Unit {0}
Fair UntilAtMost = Unit {0}
Fair UntilAtLeast = Unit {0}
Fair (Letter k) = k < 16
Fair (Number n) = Unit {0}
Fair Bad = Unit {0}

between_fair : (b : ℕ) (x y : Bool) → leb 97 b ≡ x → leb b 112 ≡ y → Fair (cond (cond x y false) (Letter (b - 97)) Bad)
between_fair b true true p q = omega (arith, leb-true 97 b p, leb-true b 112 q)
between_fair b true false p q = tt
between_fair b false y p q = tt

plain_fair : (b : ℕ) → Fair (plain_sign b)
plain_fair b =
    by_cond Fair (eqb b 40) _ _ (λ _. tt) (λ _. by_cond Fair (eqb b 41) _ _ (λ _. tt)
    (λ _. by_cond Fair (eqb b 91) _ _ (λ _. tt)
    (λ _. by_cond Fair (eqb b 93) _ _ (λ _. tt) (λ _. by_cond Fair (eqb b 33) _ _ (λ _. tt)
    (λ _. by_cond Fair (eqb b 38) _ _ (λ _. tt)
    (λ _. by_cond Fair (eqb b 124) _ _ (λ _. tt) (λ _. by_cond Fair (eqb b 69) _ _ (λ _. tt)
    (λ _. by_cond Fair (eqb b 65) _ _ (λ _. tt)
    (λ _. between_fair b (leb 97 b) (leb b 112) refl refl)))))))))

sign_fair : (b : ℕ) (bs : List ℕ) → Fair (sign b bs)
unfolding sign
sign_fair b bs =
    by_cond Fair (eqb b 85) _ _
    (λ _. by_cond Fair (pair 60 61 bs) _ _ (λ _. tt) (λ _. by_cond Fair (pair 62 61 bs) _ _ (λ _. tt) (λ _. tt)))
    (λ _. by_cond Fair (eqb b 48) _ _ (λ _. by_cond Fair (eqb (run bs) 0) _ _ (λ _. tt) (λ _. tt))
    (λ _. by_cond Fair (digit b) _ _ (λ _. tt) (λ _. plain_fair b)))

fair_after : (k : ℕ) (text : List ℕ) → AllByRecursion Fair (signs_after k text)
unfolding signs_after
fair_after k [] = elim k as (λ n. AllByRecursion Fair (signs_after n [])) [ zero ↦ tt | suc n ↦ tt ]
fair_after zero (b ∷ bs) =
    by_cond (AllByRecursion Fair) (eqb b 32) _ _ (λ _. fair_after zero bs)
    (λ _. (sign_fair b bs, fair_after (more b bs) bs))
fair_after (suc k) (b ∷ bs) = fair_after k bs

pub signs_fair : (text : List ℕ) → AllByRecursion Fair (signs text)
signs_fair text = fair_after 0 text
