use Rattle.rules.proofs.Parts.{lines_stand_lem}
use Rattle.rules.proofs.lines_stand.Goals as goal

pub returns : goal.returns
returns c = lines_stand_lem
