use Rattle.std.proofs.Common.{ℕ, get_or, rules}
use Rattle.sheet.specs.Sets.{has}
use Rattle.sheet.specs.Sheets.{bit}
use Rattle.sheet.proofs.Sets.{table_same}
use Rattle.sheet.proofs.sheets.read_column.Goals as goal

pub returns : goal.returns
returns c =
    table_same (has c.fill.new.self) (λ (s : ℕ). bit c.args.k (get_or c.args.sheet.now s 0)) c.args.n
    (λ s h. let e = c.fill.ensures.told s h in search rules)
