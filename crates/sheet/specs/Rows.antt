-- Rows of words as sets of stages, and a round of removal from one.
use Rattle.std.specs.Prelude.{◌≡◌, ℕ, ◌<◌, Bool, List, map}
use Rattle.program.specs.declared.Move.{Move}
use Rattle.program.specs.Graphs.{timed_move}
use Rattle.tally.specs.Walks.{among}
use Rattle.tctl.specs.Graph as timed
use Rattle.tctl.specs.Checker.{table, at, into, ◌and◌}
use Rattle.settle.specs.declared.endless.Sort.{Sort}
use Rattle.settle.specs.Rows.{row, sort_of}

-- The first n words of a row say for each stage what a test does.
abbrev pub Says : ℕ → List ℕ → (ℕ → Bool) → Type 0
Says n ws test = (s : ℕ) → s < n → among ws s ≡ test s

-- Whether a stage has a move of the sort into a set of the first n stages.
abbrev pub leads_into : Sort → ℕ → List Move → List ℕ → ℕ → Bool
leads_into sort n moves set s = into (sort_of sort) (map timed_move moves) (row n set) s

-- A set without the stages that have no move of the sort into it.
abbrev pub shrunk : timed.Graph → (timed.Move → Bool) → List Bool → List Bool
shrunk p sort was = table (timed.size p) (λ s. at was s and into sort p.moves was s)
