use Rattle.std.proofs.Common.{◌≡◌}
use Rattle.tally.specs.Walks.{among}
use Rattle.checker.specs.Found.{ahead, steps}
use Rattle.checker.proofs.tests.follow.Given as goal

abbrev pub invariant-loop-done : goal.invariant-loop-done
invariant-loop-done l = l.at ≡ steps (ahead l.moves (among l.set)) l._done l.s
