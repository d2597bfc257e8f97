use Rattle.std.proofs.Common.{rules}
use Rattle.layout.proofs.Rising.{rising_read, one_more, no_more, no_rise}
use Rattle.layout.proofs.marks.read_marks.Goals as goal

pub returns-then-not-contains : goal.returns-then-not-contains
returns-then-not-contains c =
    λ m h e.
    let t = c.args.text.now in
    no_rise t c.loop-letter.letter-index c.loop-letter.next c.loop-letter.marks c.loop-letter-test.true
    c.loop-letter.invariant (search rules) (rising_read t m e)

pub loop-letter-preserved : goal.loop-letter-preserved
loop-letter-preserved c =
    one_more c.args.text.now c.loop-letter.letter-index c.loop-letter.next c.loop-letter.marks
    c.loop-letter-test.true c.loop-letter.invariant (search rules) (search rules)

pub returns : goal.returns
returns c =
    no_more c.args.text.now c.loop-letter.letter-index c.loop-letter.next c.loop-letter.marks
    c.loop-letter-test.false c.loop-letter.invariant
