use Rattle.std.proofs.Common.{List, sym, ◌∙◌}
use Rattle.std.proofs.lemmas.List.{at_drop_all}
use Rattle.program.specs.declared.Move.{Move}
use Rattle.tally.specs.Walks.{among}
use Rattle.checker.specs.Found.{ahead}
use Rattle.checker.proofs.Cycles.{ahead_here, ahead_later}
use Rattle.checker.proofs.tests.follow_once.Goals as goal

pub returns-then-leads_on : goal.returns-then-leads_on
returns-then-leads_on c =
    sym (ahead_here (among c.args.set.now) c.args.moves.now c.loop-m.m-index c.args.s
    c.loop-m-test.true (sym c.leads_on.ensures ∙ c.if-leads_on.true))
    ∙ c.loop-m.invariant

pub loop-m-preserved : goal.loop-m-preserved
loop-m-preserved c =
    sym (ahead_later (among c.args.set.now) c.args.moves.now c.loop-m.m-index c.args.s
    c.loop-m-test.true (sym c.leads_on.ensures ∙ c.if-leads_on.false))
    ∙ c.loop-m.invariant

pub returns : goal.returns
returns c =
    sym (at_drop_all (λ (ms : List Move). ahead ms (among c.args.set.now) c.args.s) c.args.moves.now
    c.loop-m.m-index c.loop-m-test.false)
    ∙ c.loop-m.invariant
