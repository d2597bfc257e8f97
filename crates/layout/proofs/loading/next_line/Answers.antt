use Rattle.layout.proofs.Readings.{no_end, no_reading}
use Rattle.layout.proofs.loading.next_line.Goals as goal

pub returns-in_err-line : goal.returns-in_err-line
returns-in_err-line c = rw c.from_residual.ensures
    (no_end c.args.part c.args.bytes.now c.in_err-line.ensures)

pub returns-in_err-line-2 : goal.returns-in_err-line-2
returns-in_err-line-2 c =
    rw c.from_residual-in_err-line-2.ensures
    (no_reading c.in_ok-line.line.now c.in_ok-line.rest.now c.args.part
    c.in_ok-line.ensures c.in_err-line-2.ensures)
