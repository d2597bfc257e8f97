use Rattle.std.proofs.Common.{ℕ, ◌<◌}
use Rattle.tally.specs.Walks.{among}
use Rattle.settle.specs.Rows.{RestKept}
use Rattle.sheet.proofs.stage_set.StageSet.fill.Given as goal

abbrev pub invariant-loop-s : goal.invariant-loop-s
invariant-loop-s g l =
    ((s : ℕ) → s < l.s → g.F.Fn.post l.test (s, tt) (among l.word-items s))
    × RestKept l.s l.initial.word-items l.word-items
