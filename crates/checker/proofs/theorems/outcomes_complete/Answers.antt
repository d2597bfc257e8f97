use Rattle.checker.proofs.Exclusive.{outcomes_complete_lem}
use Rattle.checker.proofs.theorems.outcomes_complete.Goals as goal

pub returns : goal.returns
returns c = outcomes_complete_lem
