use Rattle.rules.proofs.Parts.{lines_tell_lem}
use Rattle.rules.proofs.lines_tell.Goals as goal

pub returns : goal.returns
returns c = lines_tell_lem
