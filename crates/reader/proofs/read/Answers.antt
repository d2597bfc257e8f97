use Rattle.std.proofs.Common.{subst, arith}
use Rattle.reader.specs.Reads.{DraftOf}
use Rattle.reader.proofs.Whole.{formed}
use Rattle.reader.proofs.read.Goals as goal

pub invariant_of-result : goal.invariant_of-result
invariant_of-result c =
    let k = subst (DraftOf c.args.text.now) c.in_ok-lines.ensures.ok_part c.draft_of.ensures in
    record {
      full = c.in_ok-lines.field-0.full;
      room = omega arith;
      formed = formed k c.if-large.false (omega arith);
    }
