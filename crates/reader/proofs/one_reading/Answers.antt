use Rattle.reader.proofs.Readings.{one_reading_lem}
use Rattle.reader.proofs.one_reading.Goals as goal

pub returns : goal.returns
returns c = one_reading_lem
