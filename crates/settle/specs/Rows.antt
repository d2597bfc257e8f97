-- Rows of words as sets of stages, and the graph that two lists are.
use Rattle.std.specs.Prelude.{◌≡◌, ℕ, ◌≤◌, Bool, List, length, slice_index}
use Rattle.program.specs.declared.Stage.{Stage}
use Rattle.program.specs.declared.Move.{Move}
use Rattle.program.specs.Graphs.{graph_of}
use Rattle.tally.specs.Walks.{among}
use Rattle.tctl.specs.Graph as timed
use Rattle.tctl.specs.Checker.{table, any_move, still, endless}
use Rattle.settle.specs.declared.endless.Sort.{Sort}
use Rattle.settle.specs.declared.endless.Sort.TheVariants.{Any, Still}

-- The set that the first n words of a row say.
abbrev pub row : ℕ → List ℕ → List Bool
row n ws = table n (among ws)

-- The words from n on are as found.
abbrev pub RestKept : ℕ → List ℕ → List ℕ → Type 0
RestKept n was after = (i : ℕ) → n ≤ i → slice_index after i ≡ slice_index was i

-- All moves, or those that take no time.
abbrev pub sort_of : Sort → timed.Move → Bool
sort_of Any = any_move
sort_of Still = still

-- Of the set that n words say the endless part is left, whatever the n stages are.
abbrev pub LeavesEndless : Sort → ℕ → List Move → (was after : List ℕ) → Type 0
LeavesEndless sort n moves was after =
    (stages : List Stage) → length stages ≡ n
    → row n after ≡ endless (graph_of stages moves) (sort_of sort) (row n was) n
