use Rattle.tctl.proofs.test_right.Goals as goal
use Rattle.tctl.proofs.Tested.{test_right_lem}

pub returns : goal.returns
returns c = test_right_lem
