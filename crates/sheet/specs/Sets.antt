-- Sets of stages, and the untils over them.
use Rattle.std.specs.Prelude.{◌≡◌, ℕ, ◌<◌, Bool, List, length}
use Rattle.tctl.specs.Graph.{Graph}
use Rattle.tctl.specs.Rules.{Bound}
use Rattle.program.specs.Graphs.{graph_of}
use Rattle.tally.specs.Walks.{among}
use Rattle.settle.specs.Rows.{row}
use Rattle.sheet.specs.declared.paths.Paths.{Paths}
use Rattle.sheet.specs.declared.stage_set.StageSet.{StageSet}

-- How many stages a program has, and its timed graph.
abbrev pub stage_count : Paths → ℕ
stage_count paths = length paths.stages.now

abbrev pub timed : Paths → Graph
timed paths = graph_of paths.stages.now paths.moves.now

-- Whether a stage is in a set.
abbrev pub has : StageSet → ℕ → Bool
has set s = among set.0 s

-- The first n stages of a set, as a list.
abbrev pub listed : ℕ → StageSet → List Bool
listed n set = row n set.0

-- Of the first n stages, a set has those of which a test is true.
abbrev pub Says : ℕ → StageSet → (ℕ → Bool) → Type 0
Says n set test = (s : ℕ) → s < n → has set s ≡ test s

-- A set is where an until holds, as the checker's list is of the lists of where its parts hold.
abbrev pub UntilSet : (Graph → List Bool → Bound → List Bool → List Bool) → Paths → StageSet → Bound → StageSet
    → StageSet → Type 0
UntilSet list paths f bound g holds =
    let n = stage_count paths in
    listed n holds ≡ list (timed paths) (listed n f) bound (listed n g)
