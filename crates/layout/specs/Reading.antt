-- What it is to read back what was written.
use Rattle.std.specs.Prelude.{◌≡◌, ℕ, List, Some, None, Option, ◌≢◌}

-- The answer of a reader: a fitting thing that is written so, if there is one.
abbrev pub Reads : {A : Type 0} → (A → List ℕ) → (A → Type 0) → List ℕ → Option A → Type 0
Reads write Fits bytes (Some x) = Fits x × (bytes ≡ write x)
Reads {A} write Fits bytes None = (x : A) → Fits x → bytes ≢ write x

-- No bytes are written for two of the fitting things.
abbrev pub OneReading : {A : Type 0} → (A → List ℕ) → (A → Type 0) → Type 0
OneReading {A} write Fits = (x y : A) → Fits x → Fits y → write x ≡ write y → x ≡ y
