use Rattle.std.proofs.Common.{◌*◌}
use Rattle.tally.specs.Walks.{among}
use Rattle.tally.specs.Rounds.{rounds, Holding, KeptFrom}
use Rattle.tally.proofs.rows.repeat.Given as goal

abbrev pub invariant-loop-done : goal.invariant-loop-done
invariant-loop-done g l =
    let K = g.T.Tally.algebra in
    Holding K l.walks.stages
    (rounds K l.walks.moves.now (among l.walks.pass.now) (among l.walks.goals.now) l._done) l.table
    × KeptFrom K (2 * l.walks.stages) l.initial.table l.table
