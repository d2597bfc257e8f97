use Rattle.std.proofs.Common.{◌+◌, ◌^◌, cond, get_or, ap, ◌∙◌}
use Rattle.sheet.specs.Sets.{has, stage_count, timed}
use Rattle.sheet.specs.Sheets.{column, line_list}
use Rattle.sheet.proofs.Cases.{in_table}
use Rattle.sheet.proofs.sheets.add_line.Goals as goal

pub returns-clause-added : goal.returns-clause-added
returns-clause-added c =
    let n = stage_count c.args.paths.now in
    let sheet = c.args.sheet.now in
    λ s h.
    c.write_column.ensures.written s h
    ∙ ap (λ b. get_or sheet s 0 + cond b (2 ^ c.args.k) 0)
    (in_table n (has c.line_set.new.holds) (line_list (timed c.args.paths.now) (column n sheet) c.args.line)
    c.line_set.ensures.is s h)
