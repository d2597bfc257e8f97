use Rattle.std.proofs.Common.{◌≡◌, ℕ, ◌<◌, false, length}
use Rattle.program.specs.Meaning.{most_stages}
use Rattle.tally.specs.Walks.{among}
use Rattle.checker.specs.Found.{LeftBefore}
use Rattle.checker.proofs.tests.all_left.Given as goal

abbrev pub invariant-loop-m : goal.invariant-loop-m
invariant-loop-m l =
    (length l.without ≡ most_stages)
    × ((s : ℕ) → s < most_stages → among l.without s ≡ false → LeftBefore l.moves l.m-index s)
