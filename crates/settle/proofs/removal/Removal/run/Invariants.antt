use Rattle.std.proofs.Common.{◌-◌}
use Rattle.tally.specs.Walks.{among}
use Rattle.settle.specs.Rows.{RestKept}
use Rattle.settle.specs.Removals.{stages_of, moves_of, Booked, Watching, Due, Shrinks}
use Rattle.settle.proofs.removal.Removal.run.Given as goal

abbrev pub invariant-loop-gone : goal.invariant-loop-gone
invariant-loop-gone l =
    Booked l.chained l.set l.self
    × Watching l.sort l.chained (among l.set) (Due l.chained l.self) l.self
    × Shrinks l.sort (moves_of l.chained) (among l.initial.set) (among l.set)
    × RestKept (stages_of l.chained) l.initial.set l.set

abbrev pub decreases-loop-gone : goal.decreases-loop-gone
decreases-loop-gone l = stages_of l.chained - l.self.done
