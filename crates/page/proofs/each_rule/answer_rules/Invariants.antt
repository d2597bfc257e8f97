use Rattle.std.proofs.Common.{length}
use Rattle.page.proofs.Series.{Sofar}
use Rattle.page.proofs.each_rule.answer_rules.Given as goal

abbrev pub invariant-loop-text : goal.invariant-loop-text
invariant-loop-text g l =
    Sofar (g.P.Program.meaning l.program) l.initial.rest l.initial.out.items l.rest l.out.items
    l.counts.checked l.counts.refused

abbrev pub decreases-loop-text : goal.decreases-loop-text
decreases-loop-text g l = length l.rest
