use Rattle.std.proofs.Common.{◌≡◌}
use Rattle.tally.specs.Walks.{among}
use Rattle.settle.specs.Chains.{bound}
use Rattle.settle.specs.Removals.{From}
use Rattle.settle.proofs.removal.Removal.watch.Given as goal

-- the moves of the chain before the link do not lead into the set
abbrev pub invariant-loop-link : goal.invariant-loop-link
invariant-loop-link l = record {
  same : l.self ≡ l.initial.self;
  from : From l.sort l.chained.moves.now (among l.set) l.stage l.link;
}

abbrev pub decreases-loop-link : goal.decreases-loop-link
decreases-loop-link l = bound l.link
