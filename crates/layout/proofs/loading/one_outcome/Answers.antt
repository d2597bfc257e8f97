use Rattle.layout.proofs.Once.{one_outcome_lem}
use Rattle.layout.proofs.loading.one_outcome.Goals as goal

pub returns : goal.returns
returns c = one_outcome_lem
