-- The signs of a text, as a function that computes.
use Rattle.std.specs.Prelude.{ℕ, zero, suc, ◌+◌, ◌-◌, ◌*◌, min, Bool, false, cond, List, [], ◌∷◌, ◌==◌, nat_le}
use Rattle.rules.specs.declared.line.Quantifier.TheVariants.{Some, All}
use Rattle.signs.specs.declared.Sign.{Sign}
use Rattle.signs.specs.declared.Sign.TheVariants.{Open, Close, OpenSquare, CloseSquare, Bang, Amp, Bar, Each, Until}
use Rattle.signs.specs.declared.Sign.TheVariants.{UntilAtMost, UntilAtLeast, Letter, Number, Bad}

abbrev pub between : ℕ → ℕ → ℕ → Bool
between low high b = cond (nat_le low b) (nat_le b high) false

abbrev pub digit : ℕ → Bool
digit b = between 48 57 b

-- How many digits a text begins with.
abbrev pub run : List ℕ → ℕ
run [] = 0
run (b ∷ bs) = cond (digit b) (suc (run bs)) 0

-- The number that the digits at the front write after v.
abbrev pub value : ℕ → List ℕ → ℕ
value v [] = v
value v (b ∷ bs) = cond (digit b) (value (v * 10 + (b - 48)) bs) v

-- The bytes begin with x and then y.
abbrev pub pair : ℕ → ℕ → List ℕ → Bool
pair x y [] = false
pair x y (a ∷ []) = false
pair x y (a ∷ b ∷ bs) = cond (a == x) (b == y) false

-- The sign of one byte that is no digit and no U.
abbrev pub plain_sign : ℕ → Sign
plain_sign b =
    cond (b == 40) Open
    (cond (b == 41) Close
    (cond (b == 91) OpenSquare
    (cond (b == 93) CloseSquare
    (cond (b == 33) Bang
    (cond (b == 38) Amp
    (cond (b == 124) Bar
    (cond (b == 69) (Each Some)
    (cond (b == 65) (Each All)
    (cond (between 97 112 b) (Letter (b - 97)) Bad)))))))))

-- The sign of a 0, which is bad before a digit.
abbrev pub zero_sign : List ℕ → Sign
zero_sign bs = cond (run bs == 0) (Number 0) Bad

-- The first sign of a text that begins with b, no space, and how many bytes it takes besides b.
unfoldable pub sign : ℕ → List ℕ → Sign
sign b bs =
    cond (b == 85) (cond (pair 60 61 bs) UntilAtMost (cond (pair 62 61 bs) UntilAtLeast Until))
    (cond (b == 48) (zero_sign bs) (cond (digit b) (Number (value 0 (b ∷ bs))) (plain_sign b)))

unfoldable pub more : ℕ → List ℕ → ℕ
more b bs =
    cond (b == 85) (cond (pair 60 61 bs) 2 (cond (pair 62 61 bs) 2 0))
    (cond (b == 48) 0 (cond (digit b) (run bs) 0))

-- The signs of what is left of a text after its first k bytes.
unfoldable pub signs_after : ℕ → List ℕ → List Sign
signs_after k [] = []
signs_after zero (b ∷ bs) = cond (b == 32) (signs_after zero bs) (sign b bs ∷ signs_after (more b bs) bs)
signs_after (suc k) (b ∷ bs) = signs_after k bs

abbrev pub signs : List ℕ → List Sign
signs text = signs_after 0 text

-- A number as the code tells it: all above 1,000,000 as 1,000,001.
abbrev pub cap : ℕ → ℕ
cap n = min n 1000001

abbrev pub told : Sign → Sign
told Open = Open
told Close = Close
told OpenSquare = OpenSquare
told CloseSquare = CloseSquare
told Bang = Bang
told Amp = Amp
told Bar = Bar
told (Each q) = Each q
told Until = Until
told UntilAtMost = UntilAtMost
told UntilAtLeast = UntilAtLeast
told (Letter k) = Letter k
told (Number n) = Number (cap n)
told Bad = Bad
