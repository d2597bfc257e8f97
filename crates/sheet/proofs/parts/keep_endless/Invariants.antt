use Rattle.std.proofs.Common.{◌≡◌, length}
use Rattle.tctl.specs.Checker.{endless}
use Rattle.program.specs.Graphs.{graph_of}
use Rattle.settle.specs.Rows.{row, sort_of, RestKept}
use Rattle.sheet.proofs.parts.keep_endless.Given as goal

abbrev pub invariant-loop-done : goal.invariant-loop-done
invariant-loop-done l =
    let n = length l.stages in
    (row n l.set
    ≡ endless (graph_of l.stages l.moves) (sort_of l.sort) (row n l.initial.set) l._done)
    × RestKept n l.initial.set l.set
