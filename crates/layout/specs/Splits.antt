-- Bytes cut in two at a mark.
use Rattle.std.specs.Prelude.{◌≡◌, ℕ, ◌<◌, List, ◌∷◌, ◌++◌, length, Some, None, Option, ◌≢◌, slice_index}
use Rattle.std.specs.Borrow.{Bor}

-- The mark does not stand among the bytes.
abbrev pub Lacks : ℕ → List ℕ → Type 0
Lacks mark bytes = (i : ℕ) → i < length bytes → slice_index bytes i ≢ mark

abbrev pub Splits : List ℕ → ℕ → Option (Bor (List ℕ) × Bor (List ℕ)) → Type 0
Splits bytes mark (Some p) = (bytes ≡ p.0.now ++ mark ∷ p.1.now) × Lacks mark p.0.now
Splits bytes mark None = Lacks mark bytes
