use Rattle.std.proofs.Common.{◌≡◌, true}
use Rattle.tally.specs.Walks.{among}
use Rattle.tctl.specs.Checker.{◌and◌}
use Rattle.settle.specs.Rows.{RestKept}
use Rattle.sheet.specs.Rows.{Says}
use Rattle.sheet.proofs.parts.thin.Given as goal

abbrev pub invariant-loop-s : goal.invariant-loop-s
invariant-loop-s l =
    Says l.s l.word-items (λ s. among l.initial.word-items s and among l.has s)
    × RestKept l.s l.initial.word-items l.word-items
    × (l.unchanged ≡ true → Says l.s l.initial.word-items (among l.word-items))
