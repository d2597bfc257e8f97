-- Numbers in decimal digits.
use Rattle.std.specs.Prelude.{◌≡◌, ℕ, ◌+◌, ◌-◌, ◌*◌, ◌^◌, ◌<◌, ◌≤◌, List, [], ◌∷◌, length, decimal, slice_index}

-- The largest number of a page: five digits.
abbrev pub Small : ℕ → Type 0
Small n = n ≤ 99999

-- What digits are worth after the number n.
abbrev pub worth_after : ℕ → List ℕ → ℕ
worth_after n [] = n
worth_after n (b ∷ bs) = worth_after (n * 10 + (b - 48)) bs

-- A 0 in front of other bytes is needless.
abbrev pub Plain : List ℕ → Type 0
Plain bytes = (0 < length bytes) × (slice_index bytes 0 ≡ 48 → length bytes ≡ 1)

-- The bytes write the number n: digits, no needless 0 among them, worth n.
pub record Writes (bytes : List ℕ) (n : ℕ) : Type 0 where
  pub plain : Plain bytes
  pub digits : (i : ℕ) → i < length bytes → (48 ≤ slice_index bytes i) × (slice_index bytes i ≤ 57)
  pub worth : worth_after 0 bytes ≡ n

-- Each number is written in one way.
abbrev pub OneWayToWrite : Type 0
OneWayToWrite =
    (n : ℕ) → n < 2 ^ 64 → Writes (decimal n) n × ((bytes : List ℕ) → Writes bytes n → bytes ≡ decimal n)

-- From one to five bytes, and no needless 0.
abbrev pub Shaped : List ℕ → Type 0
Shaped bytes = Plain bytes × (length bytes ≤ 5)
