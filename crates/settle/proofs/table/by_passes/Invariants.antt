use Rattle.tally.specs.Walks.{among}
use Rattle.tally.specs.Rounds.{begins, entry, KeptFrom}
use Rattle.settle.specs.Tended.{StillPartly}
use Rattle.tally.specs.Sweeps.{Partly}
use Rattle.settle.proofs.table.by_passes.Given as goal

abbrev pub invariant-loop-pass : goal.invariant-loop-pass
invariant-loop-pass g l =
    let K = g.T.Tally.algebra in
    let pass = among l.walks.pass.now in
    Partly K l.walks.stages l.walks.moves.now pass (among l.walks.goals.now) (entry K l.table)
    × KeptFrom K l.walks.stages l.initial.table l.table
