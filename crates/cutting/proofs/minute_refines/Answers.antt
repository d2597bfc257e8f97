use Rattle.cutting.proofs.minute_refines.Goals as goal
use Rattle.cutting.proofs.Minutes.{minute_refines_lem}

pub returns : goal.returns
returns c = minute_refines_lem
