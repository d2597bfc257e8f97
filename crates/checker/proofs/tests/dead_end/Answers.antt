use Rattle.std.proofs.Common.{sym, subst, ⊎_elim, arith}
use Rattle.std.proofs.lemmas.Bool.{cases_eq}
use Rattle.program.specs.Meaning.{prog}
use Rattle.checker.specs.Outcomes.{Onward}
use Rattle.checker.proofs.tests.dead_end.Goals as goal

pub stages-preserved : goal.stages-preserved
stages-preserved c t h =
    let p = prog c.args.stages.now c.args.moves.now in
    ⊎_elim (λ e. subst (Onward p) (sym e) (c.loop-m.m-index, c.loop-m-test.true, c.if-m-s.true))
    (λ ne. c.stages.invariant t (omega arith)) (cases_eq t c.stages.s)
