use Rattle.std.proofs.Common.{rules}
use Rattle.checker.specs.Desks.{on_desk}
use Rattle.session.proofs.session.answer_check.Goals as goal

pub returns-in-Err : goal.returns-in-Err
returns-in-Err g c =
    (on_desk c.new-desk.result, on_desk c.check.new.self, search rules, c.in-Err.ensures.does)
