use Rattle.std.proofs.Common.{◌≡◌, ℕ, ◌<◌}
use Rattle.tctl.specs.Checker.{non, ◌and◌}
use Rattle.tally.specs.Walks.{among}
use Rattle.settle.specs.Rows.{RestKept}
use Rattle.sheet.specs.Sets.{has}
use Rattle.sheet.proofs.stage_set.StageSet.remove.Given as goal

abbrev pub invariant-loop-s : goal.invariant-loop-s
invariant-loop-s l =
    ((s : ℕ) → s < l.s → among l.word-items s ≡ (among l.initial.word-items s and non (has l.other s)))
    × RestKept l.s l.initial.word-items l.word-items
