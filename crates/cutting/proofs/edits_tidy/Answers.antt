use Rattle.cutting.proofs.edits_tidy.Goals as goal
use Rattle.cutting.proofs.Verdicts.{edits_tidy_lem}

pub returns : goal.returns
returns c = edits_tidy_lem
