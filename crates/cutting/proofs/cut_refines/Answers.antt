use Rattle.cutting.proofs.cut_refines.Goals as goal
use Rattle.cutting.proofs.Halves.{cut_refines_lem}

pub returns : goal.returns
returns c = cut_refines_lem
