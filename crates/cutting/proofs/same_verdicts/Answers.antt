use Rattle.cutting.proofs.same_verdicts.Goals as goal
use Rattle.cutting.proofs.Verdicts.{same_verdicts_lem}

pub returns : goal.returns
returns c = same_verdicts_lem
