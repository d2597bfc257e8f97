-- Which moves have a stage at an end: at the one that they leave, or at the one that they enter.
use Rattle.std.specs.Prelude.{◌≡◌, ℕ, ◌<◌, ◌≤◌, length, ◌≢◌}
use Rattle.program.specs.declared.Move.{Move}
use Rattle.program.specs.Meaning.{Prog, move_at}

-- No move from one on, and before another, has stage s at the end.
abbrev pub NoneBetween : Prog → (Move → ℕ) → ℕ → ℕ → ℕ → Type 0
NoneBetween p end s from to = (m : ℕ) → from ≤ m → m < to → end (move_at p m) ≢ s

abbrev pub NoneFrom : Prog → (Move → ℕ) → ℕ → ℕ → Type 0
NoneFrom p end s from = NoneBetween p end s from (length p.moves)

-- Move k has stage s at the end, and none before it does, from one on.
pub record FirstFrom (p : Prog) (end : Move → ℕ) (s from k : ℕ) : Type 0 where
  pub later : from ≤ k
  pub real : k < length p.moves
  pub has : end (move_at p k) ≡ s
  pub none_before : NoneBetween p end s from k

-- Move k has stage s at the end, and no other does.
pub record Only (p : Prog) (end : Move → ℕ) (s k : ℕ) : Type 0 where
  pub real : k < length p.moves
  pub has : end (move_at p k) ≡ s
  pub alone : (m : ℕ) → m < length p.moves → end (move_at p m) ≡ s → m ≡ k
