use Rattle.std.proofs.Common.{◌≡◌, ℕ, ◌<◌}
use Rattle.rules.specs.Lines.{rule_at}
use Rattle.tctl.specs.Checker.{where_holds}
use Rattle.settle.specs.Rows.{RestKept}
use Rattle.sheet.specs.Sets.{stage_count, timed}
use Rattle.sheet.specs.Tables.{AreSpent, SameSlices}
use Rattle.sheet.specs.Sheets.{column, Below}
use Rattle.sheet.proofs.sheets.check_lines.Given as goal

-- the columns of the lines before k are right, and no other bit is set
abbrev pub invariant-loop-k : goal.invariant-loop-k
invariant-loop-k l =
    let n = stage_count l.paths in
    ((j : ℕ) → j < l.k → column n l.sheet j ≡ where_holds (timed l.paths) (rule_at l.lines j))
    × Below n l.k l.sheet
    × RestKept n l.initial.sheet l.sheet
    × AreSpent n l.initial.tables l.tables
    × SameSlices l.initial.tables l.tables
