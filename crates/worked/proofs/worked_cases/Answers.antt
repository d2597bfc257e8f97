use Rattle.worked.proofs.Table.{worked_cases_lem}
use Rattle.worked.proofs.worked_cases.Goals as goal

pub returns : goal.returns
returns c = worked_cases_lem
