use Rattle.std.proofs.Common.{◌≡◌, ◌<◌, ◌⊎◌}
use Rattle.tally.specs.Walks.{among}
use Rattle.tally.specs.Rounds.{entry, KeptFrom}
use Rattle.program.specs.declared.End.TheVariants.{Enters}
use Rattle.settle.specs.Chains.{bound, end_at, Reaches}
use Rattle.settle.specs.Tended.{Tended, Due, StillPartly}
use Rattle.settle.proofs.table.ChainedWalks.pull.Given as goal

-- the moves of the chain from the link on are still due
abbrev pub invariant-loop-link : goal.invariant-loop-link
invariant-loop-link g l =
    let K = g.T.Tally.algebra in
    let walks = l.self.walks in
    let moves = walks.moves.now in
    let pass = among walks.pass.now in
    Reaches Enters moves l.stage l.link
    × StillPartly K walks.stages moves pass (entry K l.initial.table) (entry K l.table)
    × KeptFrom K walks.stages l.initial.table l.table
    × Tended K moves pass (entry K l.table)
    (λ k. Due moves l.queue k ⊎ ((end_at Enters moves k ≡ l.stage) × (k < bound l.link)))

abbrev pub decreases-loop-link : goal.decreases-loop-link
decreases-loop-link g l = bound l.link
