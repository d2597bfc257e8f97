use Rattle.checker.proofs.Checks.{outcomes_exclusive_lem}
use Rattle.checker.proofs.theorems.outcomes_exclusive.Goals as goal

pub returns : goal.returns
returns c = outcomes_exclusive_lem
