use Rattle.layout.proofs.Rising.{Sofar}
use Rattle.layout.proofs.marks.read_marks.Given as goal

abbrev pub invariant-loop-letter : goal.invariant-loop-letter
invariant-loop-letter l = Sofar l.text l.letter-index l.next l.marks
