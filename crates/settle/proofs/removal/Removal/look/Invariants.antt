use Rattle.std.proofs.Common.{◌≡◌, ◌<◌, ◌⊎◌}
use Rattle.tally.specs.Walks.{among}
use Rattle.program.specs.declared.End.TheVariants.{Enters}
use Rattle.settle.specs.Chains.{bound, end_at, Reaches}
use Rattle.settle.specs.Removals.{moves_of, Watching, Due, Removes}
use Rattle.settle.proofs.removal.Removal.look.Given as goal

-- the moves of the chain from the link on are still due
abbrev pub invariant-loop-link : goal.invariant-loop-link
invariant-loop-link l =
    Reaches Enters (moves_of l.chained) l.gone l.link
    × Removes l.sort l.chained l.initial.set l.set l.initial.self l.self
    × Watching l.sort l.chained (among l.set)
    (λ k. Due l.chained l.self k ⊎ ((end_at Enters (moves_of l.chained) k ≡ l.gone) × (k < bound l.link))) l.self

abbrev pub decreases-loop-link : goal.decreases-loop-link
decreases-loop-link l = bound l.link
