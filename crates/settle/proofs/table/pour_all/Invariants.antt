use Rattle.std.proofs.Common.{◌≡◌, true, ◌<◌, ◌⊎◌}
use Rattle.tally.specs.Walks.{among}
use Rattle.tally.specs.Rounds.{entry, KeptFrom}
use Rattle.settle.specs.Tended.{Tended, StillPartly}
use Rattle.settle.proofs.table.pour_all.Given as goal

-- all moves are due as long as something changed, and else those that are to come
abbrev pub invariant-loop-k : goal.invariant-loop-k
invariant-loop-k g l =
    let K = g.T.Tally.algebra in
    let moves = l.walks.moves.now in
    let pass = among l.walks.pass.now in
    StillPartly K l.walks.stages moves pass (entry K l.initial.table) (entry K l.table)
    × KeptFrom K l.walks.stages l.initial.table l.table
    × Tended K moves pass (entry K l.table) (λ j. (l.changed ≡ true) ⊎ (j < l.k))
