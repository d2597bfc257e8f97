use Rattle.std.proofs.Common.{take, ap}
use Rattle.page.proofs.Printed.{text_appended}
use Rattle.page.proofs.Told.{lined, adds}
use Rattle.page.proofs.each_rule.answer_rule.Goals as goal

pub write_rule-requires : goal.write_rule-requires
write_rule-requires g c = lined _ _ _ _ c.check-answer.result c.check-answer.ensures.does

pub returns-clause-adds : goal.returns-clause-adds
returns-clause-adds g c =
    adds (g.P.Program.meaning c.args.program.now) c.args.number c.args.text.now c.args.out.now.items
    c.extend_from_slice.new.self.items _ _ _
    c.check-answer.result (g.met.P.Program.limits c.args.program.now) c.check-answer.ensures.does
    c.check-answer.ensures.enough (ap (λ n. take n c.check-answer.new.self.sheet) c.stage_count.ensures)
    (text_appended _ _ _ c.in_ok-extend_from_slice.ensures.items c.as_bytes.ensures.value c.in_ok-write_rule.ensures
    c.new-told.ensures.bytes)
