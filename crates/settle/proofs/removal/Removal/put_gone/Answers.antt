use Rattle.std.proofs.Common.{◌<◌, sym, subst}
use Rattle.settle.specs.Rings.{AllBelow}
use Rattle.settle.proofs.Queues.{lined_more}
use Rattle.settle.proofs.removal.Removal.put_gone.Goals as goal

pub returns-in_err-put : goal.returns-in_err-put
returns-in_err-put c n all lined =
    let below = subst (AllBelow n) (sym c.as_slice-stage-items.ensures.value) all in
    lined_more n c.from.result c.loop-stage.queue c.put.new.self
    (subst (λ x. x < n) (sym c.from.ensures) (below c.loop-stage.stage-index c.loop-stage-test.true))
    c.put.ensures.puts (c.loop-stage.invariant n all lined)

pub loop-stage-preserved : goal.loop-stage-preserved
loop-stage-preserved c n all lined =
    let below = subst (AllBelow n) (sym c.as_slice-stage-items.ensures.value) all in
    lined_more n c.from.result c.loop-stage.queue c.put.new.self
    (subst (λ x. x < n) (sym c.from.ensures) (below c.loop-stage.stage-index c.loop-stage-test.true))
    c.put.ensures.puts (c.loop-stage.invariant n all lined)
