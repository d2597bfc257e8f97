use Rattle.tally.specs.Walks.{among}
use Rattle.settle.specs.Removals.{moves_of, WatchingBelow, Due, Removes}
use Rattle.settle.proofs.removal.Removal.watch_all.Given as goal

abbrev pub invariant-loop-stage : goal.invariant-loop-stage
invariant-loop-stage l =
    Removes l.sort l.chained l.initial.set l.set l.initial.self l.self
    × WatchingBelow l.stage l.sort (moves_of l.chained) (among l.set) (Due l.chained l.self) l.self
