-- What a text writes: signs, with spaces before, between and after them.
use Rattle.std.specs.Prelude.{◌≡◌, ℕ, ◌+◌, ◌-◌, ◌*◌, ◌<◌, ◌≤◌, ◌↔◌, List, [], ◌∷◌, ◌++◌, length, codes, slice_index_or}
use Rattle.std.specs.List.{AllByRecursion}
use Rattle.rules.specs.declared.line.Quantifier.TheVariants as quantifier
use Rattle.signs.specs.declared.Sign.{Sign}
use Rattle.signs.specs.declared.Sign.TheVariants.{Open, Close, OpenSquare, CloseSquare, Bang, Amp, Bar, Each, Until}
use Rattle.signs.specs.declared.Sign.TheVariants.{UntilAtMost, UntilAtLeast, Letter, Number, Bad}
use Rattle.signs.specs.Signs.{signs}

abbrev pub Digit : ℕ → Type 0
Digit b = (48 ≤ b) × (b ≤ 57)

-- What digits are worth after others that are worth v.
abbrev pub worth : ℕ → List ℕ → ℕ
worth v [] = v
worth v (b ∷ bs) = worth (v * 10 + (b - 48)) bs

-- The bytes write the number n: digits, which begin with 0 only if they are `0`.
pub record Numeral (bs : List ℕ) (n : ℕ) : Type 0 where
  pub digits : AllByRecursion Digit bs
  pub some : 0 < length bs
  pub lead : slice_index_or bs 0 0 ≡ 48 → bs ≡ codes "0"
  pub value : worth 0 bs ≡ n

-- The bytes of a sign.
abbrev pub Spells : List ℕ → Sign → Type 0
Spells bs Open = bs ≡ codes "("
Spells bs Close = bs ≡ codes ")"
Spells bs OpenSquare = bs ≡ codes "["
Spells bs CloseSquare = bs ≡ codes "]"
Spells bs Bang = bs ≡ codes "!"
Spells bs Amp = bs ≡ codes "&"
Spells bs Bar = bs ≡ codes "|"
Spells bs (Each quantifier.Some) = bs ≡ codes "E"
Spells bs (Each quantifier.All) = bs ≡ codes "A"
Spells bs Until = bs ≡ codes "U"
Spells bs UntilAtMost = bs ≡ codes "U<="
Spells bs UntilAtLeast = bs ≡ codes "U>="
Spells bs (Letter k) = (k < 16) × (bs ≡ (97 + k) ∷ [])
Spells bs (Number n) = Numeral bs n
Spells bs Bad = ⊥

-- The bytes begin with others.
abbrev pub Starts : List ℕ → List ℕ → Type 0
Starts bs front = (rest : List ℕ) × (bs ≡ front ++ rest)

-- What may not follow a sign directly: a digit after a number, which is all digits that follow each other, and `<=` or
-- `>=` after `U`, with which they make another sign.
abbrev pub Apart : Sign → List ℕ → Type 0
Apart Open bs = Unit {0}
Apart Close bs = Unit {0}
Apart OpenSquare bs = Unit {0}
Apart CloseSquare bs = Unit {0}
Apart Bang bs = Unit {0}
Apart Amp bs = Unit {0}
Apart Bar bs = Unit {0}
Apart (Each q) bs = Unit {0}
Apart Until bs = (Starts bs (codes "<=") → ⊥) × (Starts bs (codes ">=") → ⊥)
Apart UntilAtMost bs = Unit {0}
Apart UntilAtLeast bs = Unit {0}
Apart (Letter k) bs = Unit {0}
Apart (Number n) bs = (b : ℕ) → Digit b → Starts bs (b ∷ []) → ⊥
Apart Bad bs = Unit {0}

abbrev pub Space : ℕ → Type 0
Space b = b ≡ 32

-- Spaces, the bytes of a sign, and then what Rest says.
pub record SignThen (text : List ℕ) (s : Sign) (Rest : List ℕ → Type 0) : Type 0 where
  pub spaces : List ℕ
  pub bytes : List ℕ
  pub rest : List ℕ
  pub splits : text ≡ spaces ++ (bytes ++ rest)
  pub blank : AllByRecursion Space spaces
  pub spelled : Spells bytes s
  pub apart : Apart s rest
  pub goes_on : Rest rest

-- The text writes the signs.
abbrev pub Writes : List ℕ → List Sign → Type 0
Writes text [] = AllByRecursion Space text
Writes text (s ∷ ss) = SignThen text s (λ rest. Writes rest ss)

abbrev pub Good : Sign → Type 0
Good s = s ≡ Bad → ⊥

-- The function `signs` gives the signs that a text writes, and a bad one among them where it writes none.
abbrev pub SignsRight : Type 0
SignsRight = (text : List ℕ) (ss : List Sign) → Writes text ss ↔ ((signs text ≡ ss) × AllByRecursion Good ss)
