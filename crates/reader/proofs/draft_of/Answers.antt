use Rattle.std.proofs.Common.{[]}
use Rattle.reader.proofs.Readings.{reading_to}
use Rattle.reader.proofs.Whole.{draft_of_lem}
use Rattle.reader.proofs.draft_of.Goals as goal

pub returns-in_err-read_rule : goal.returns-in_err-read_rule
returns-in_err-read_rule c =
    rw c.from_residual.ensures
    (λ f r. let p = reading_to r in c.in_err-read_rule.ensures p.0 [] p.1 (tt, tt))

pub returns : goal.returns
returns c =
    rw c.then_some.ensures (draft_of_lem _ c.in_ok-read_rule.ensures c.new.ensures c.ends.ensures)
