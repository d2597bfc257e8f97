-- The step of any edit.
use Rattle.program.specs.declared.edit.Edit.{Edit}
use Rattle.program.specs.declared.edit.Edit.TheVariants.{Open, Mark, Lay, Cut, Join}
use Rattle.program.specs.Meaning.{Prog}
use Rattle.program.specs.Edits.{Caps, Out, open_step, mark_step, lay_step, cut_step, join_step}

abbrev pub step : Caps → Prog → Edit → Out
step caps p (Open m) = open_step caps p m
step caps p (Mark s m) = mark_step p s m
step caps p (Lay s d t) = lay_step caps p s d t
step caps p (Cut k a) = cut_step caps p k a
step caps p Join = join_step p
