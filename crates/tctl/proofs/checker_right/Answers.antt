use Rattle.tctl.proofs.checker_right.Goals as goal
use Rattle.tctl.proofs.Checked.{right}

pub returns : goal.returns
returns c = right
