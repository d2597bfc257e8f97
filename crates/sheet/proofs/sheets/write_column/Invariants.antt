use Rattle.sheet.specs.Sets.{has}
use Rattle.sheet.specs.Sheets.{Added}
use Rattle.settle.specs.Rows.{RestKept}
use Rattle.sheet.proofs.sheets.write_column.Given as goal

abbrev pub invariant-loop-s : goal.invariant-loop-s
invariant-loop-s l =
    Added l.s l.k (has l.holds) l.initial.word-items l.word-items
    × RestKept l.s l.initial.word-items l.word-items
