use Rattle.std.proofs.Common.{◌≡◌, drop}
use Rattle.tally.specs.Walks.{among}
use Rattle.checker.specs.Found.{ahead}
use Rattle.checker.proofs.tests.follow_once.Given as goal

abbrev pub invariant-loop-m : goal.invariant-loop-m
invariant-loop-m l = ahead (drop l.m-index l.moves) (among l.set) l.s ≡ ahead l.moves (among l.set) l.s
