-- A sign that is no number is told as it is, and a number that is told as a small one is that number.
use Rattle.std.proofs.Common.{◌≡◌, ℕ, List, sym, refl, ◌∙◌, subst}
use Rattle.signs.specs.declared.Sign.{Sign}
use Rattle.signs.specs.declared.Sign.TheVariants.{Open, Close, OpenSquare, CloseSquare, Bang, Amp, Bar, Each, Until}
use Rattle.signs.specs.declared.Sign.TheVariants.{UntilAtMost, UntilAtLeast, Letter, Number, Bad}
use Rattle.signs.specs.Signs.{told, cap}
use Rattle.signs.specs.First.{Begins, Told}

-- a sign that is no number
abbrev pub Plain : Sign → Type 0
Plain Open = Unit {0}
Plain Close = Unit {0}
Plain OpenSquare = Unit {0}
Plain CloseSquare = Unit {0}
Plain Bang = Unit {0}
Plain Amp = Unit {0}
Plain Bar = Unit {0}
Plain (Each q) = Unit {0}
Plain Until = Unit {0}
Plain UntilAtMost = Unit {0}
Plain UntilAtLeast = Unit {0}
Plain (Letter k) = Unit {0}
Plain (Number n) = ⊥
Plain Bad = Unit {0}

untold : (s t : Sign) → s ≡ told t → Plain s → t ≡ s
untold s Open e p = sym e
untold s Close e p = sym e
untold s OpenSquare e p = sym e
untold s CloseSquare e p = sym e
untold s Bang e p = sym e
untold s Amp e p = sym e
untold s Bar e p = sym e
untold s (Each q) e p = sym e
untold s Until e p = sym e
untold s UntilAtMost e p = sym e
untold s UntilAtLeast e p = sym e
untold s (Letter k) e p = sym e
untold s (Number n) e p = absurd (subst Plain e p)
untold s Bad e p = sym e

pub exactly : {text rest : List ℕ} {s u : Sign} → s ≡ u → Plain u → Told text s rest → Begins text u rest
exactly {text} {rest} {s} {u} e p (t, x, b) = subst (λ z. Begins text z rest) (untold u t (sym e ∙ x) p) b

-- the number that is told as n
pub number_told : (n : ℕ) (t : Sign) → Number n ≡ told t → (m : ℕ) × (t ≡ Number m) × (n ≡ cap m)
number_told n (Number m) e = (m, refl, cc)
number_told n Open e = cc
number_told n Close e = cc
number_told n OpenSquare e = cc
number_told n CloseSquare e = cc
number_told n Bang e = cc
number_told n Amp e = cc
number_told n Bar e = cc
number_told n (Each q) e = cc
number_told n Until e = cc
number_told n UntilAtMost e = cc
number_told n UntilAtLeast e = cc
number_told n (Letter k) e = cc
number_told n Bad e = cc

pub number_begins : {text rest : List ℕ} {s : Sign} {n : ℕ} → s ≡ Number n → Told text s rest
    → (m : ℕ) × (n ≡ cap m) × Begins text (Number m) rest
number_begins {text} {rest} {s} {n} e (t, x, b) =
    let k = number_told n t (sym e ∙ x) in (k.0, k.2, subst (λ z. Begins text z rest) k.1 b)
