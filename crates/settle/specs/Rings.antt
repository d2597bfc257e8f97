-- The ring of a queue: which stages stand in it.
use Rattle.std.specs.Prelude.{◌≡◌, ℕ, ◌+◌, ◌%◌, ◌<◌, ◌≤◌, Bool, false, T, List, length, slice_index}
use Rattle.std.specs.Prelude.{slice_index_or}
use Rattle.program.specs.Meaning.{most_stages}

-- The stage behind so many others.
abbrev pub behind : List ℕ → ℕ → ℕ → ℕ
behind ring head i = slice_index ring ((head + i) % most_stages)

-- A stage stands in the ring at a place.
pub record Stands (ring : List ℕ) (head count stage : ℕ) : Type 0 where
  pub others : ℕ
  pub inside : others < count
  pub is : behind ring head others ≡ stage

-- A stage stands in the ring, at whichever place.
abbrev pub IsIn : List ℕ → ℕ → ℕ → ℕ → Type 0
IsIn ring head count stage = ∥ Stands ring head count stage ∥₁

-- What every queue keeps: its places are in the ring, those that wait are stages, and each that is told to wait does.
pub record Orderly (ring : List ℕ) (waiting : List Bool) (head count : ℕ) : Type 0 where
  pub begin : head < most_stages
  pub few : count ≤ most_stages
  pub stages : (stage : ℕ) → IsIn ring head count stage → stage < most_stages
  pub told : (stage : ℕ) → T (slice_index_or waiting stage false) → IsIn ring head count stage

-- All that stand in a list are below n.
abbrev pub AllBelow : ℕ → List ℕ → Type 0
AllBelow n stages = (i : ℕ) → i < length stages → slice_index stages i < n

-- All that stand in a list are stages.
abbrev pub AllStages : List ℕ → Type 0
AllStages = AllBelow most_stages
