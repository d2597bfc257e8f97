use Rattle.signs.proofs.Writing.{signs_right}
use Rattle.signs.proofs.signs_are_written.Goals as goal

pub returns : goal.returns
returns c = signs_right
