use Rattle.tctl.proofs.cap_cuts.Goals as goal
use Rattle.tctl.proofs.Capped.{cap_cuts_lem}

pub returns : goal.returns
returns c = cap_cuts_lem
