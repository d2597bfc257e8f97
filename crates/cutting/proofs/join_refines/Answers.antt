use Rattle.cutting.proofs.join_refines.Goals as goal
use Rattle.cutting.proofs.Halves.{join_refines_lem}

pub returns : goal.returns
returns c = join_refines_lem
