-- What the sign readers answer: the first sign of a text, as it is told, and what follows it.
use Rattle.std.specs.Prelude.{◌≡◌, ℕ, ◌<◌, ◌≤◌, List, [], ◌∷◌, length, drop, Option, ◌≢◌}
use Rattle.std.specs.Borrow.{Bor}
use Rattle.std.specs.declared.option.Option.TheVariants as option
use Rattle.signs.specs.declared.Sign.{Sign}
use Rattle.signs.specs.declared.Sign.TheVariants.{Number}
use Rattle.signs.specs.Signs.{sign, more, signs, told}

abbrev pub NoSpace : List ℕ → Type 0
NoSpace [] = Unit {0}
NoSpace (b ∷ bs) = b ≡ 32 → ⊥

-- The text without the spaces in front.
pub record Skipped (text rest : List ℕ) : Type 0 where
  pub same : signs rest ≡ signs text
  pub shorter : length rest ≤ length text
  pub stops : NoSpace rest

-- The sign that begins with b before bs, as it is told, and what follows it.
pub record Takes (b : ℕ) (bs : List ℕ) (s : Sign) (rest : List ℕ) : Type 0 where
  pub first : s ≡ told (sign b bs)
  pub left : rest ≡ drop (more b bs) bs

-- The text is a sign, and then rest.
pub record Begins (text : List ℕ) (s : Sign) (rest : List ℕ) : Type 0 where
  pub splits : signs text ≡ s ∷ signs rest
  pub shorter : length rest < length text

-- The same, of a sign as it is told.
abbrev pub Told : List ℕ → Sign → List ℕ → Type 0
Told text s rest = (t : Sign) × (s ≡ told t) × Begins text t rest

abbrev pub First : List ℕ → Option (Sign × Bor (List ℕ)) → Type 0
First text option.None = signs text ≡ []
First text (option.Some p) = Told text p.0 p.1.now

abbrev pub After : List ℕ → Sign → Option (Bor (List ℕ)) → Type 0
After text s option.None = (t : Sign) (ss : List Sign) → signs text ≡ t ∷ ss → s ≢ told t
After text s (option.Some rest) = Told text s rest.now

abbrev pub FirstNumber : List ℕ → Option (ℕ × Bor (List ℕ)) → Type 0
FirstNumber text option.None = (n : ℕ) (ss : List Sign) → signs text ≢ Number n ∷ ss
FirstNumber text (option.Some p) = Told text (Number p.0) p.1.now
