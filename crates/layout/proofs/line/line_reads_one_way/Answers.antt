use Rattle.layout.proofs.Readings.{same_line}
use Rattle.layout.proofs.line.line_reads_one_way.Goals as goal

pub returns : goal.returns
returns c = same_line
