use Rattle.layout.proofs.Rising.{same_marks}
use Rattle.layout.proofs.marks.marks_read_one_way.Goals as goal

pub returns : goal.returns
returns c = same_marks
