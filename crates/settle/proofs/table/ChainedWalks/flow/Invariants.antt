use Rattle.tally.specs.Walks.{among}
use Rattle.tally.specs.Rounds.{entry, KeptFrom}
use Rattle.settle.specs.Tended.{Tended, Due, StillPartly}
use Rattle.settle.proofs.table.ChainedWalks.flow.Given as goal

abbrev pub invariant-loop-turn : goal.invariant-loop-turn
invariant-loop-turn g l =
    let K = g.T.Tally.algebra in
    let walks = l.self.walks in
    let moves = walks.moves.now in
    let pass = among walks.pass.now in
    StillPartly K walks.stages moves pass (entry K l.initial.table) (entry K l.table)
    × KeptFrom K walks.stages l.initial.table l.table
    × Tended K moves pass (entry K l.table) (Due moves l.queue)
