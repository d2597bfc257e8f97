use Rattle.cutting.proofs.refined_alike.Goals as goal
use Rattle.cutting.proofs.Alikes.{refined_alike_lem}

pub returns : goal.returns
returns c = refined_alike_lem
