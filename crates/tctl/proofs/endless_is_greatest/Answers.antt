use Rattle.tctl.proofs.endless_is_greatest.Goals as goal
use Rattle.tctl.proofs.Greatest.{endless_is_greatest_lem}

pub returns : goal.returns
returns c = endless_is_greatest_lem
