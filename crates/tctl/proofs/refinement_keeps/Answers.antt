use Rattle.tctl.proofs.refinement_keeps.Goals as goal
use Rattle.tctl.proofs.Refined.{refinement_keeps_lem}

pub returns : goal.returns
returns c = refinement_keeps_lem
