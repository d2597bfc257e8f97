use Rattle.std.proofs.Common.{sym, subst}
use Rattle.settle.specs.Rings.{AllBelow}
use Rattle.settle.proofs.table.ChainedWalks.line_up.Goals as goal

pub returns-in_err-put_gone-clause-lined : goal.returns-in_err-put_gone-clause-lined
returns-in_err-put_gone-clause-lined g c lined =
    let walks = c.args.self.now in
    let below = subst (λ n. AllBelow n c.run.new.self.gone.items) (sym walks.stages)
    (λ i l. (c.run.ensures.booked.outside i l).0) in
    c.put_gone.ensures walks.walks.stages below (c.put_all-2.ensures.lined lined)

pub returns-clause-lined : goal.returns-clause-lined
returns-clause-lined g c lined =
    let walks = c.args.self.now in
    let below = subst (λ n. AllBelow n c.run.new.self.gone.items) (sym walks.stages)
    (λ i l. (c.run.ensures.booked.outside i l).0) in
    c.put_all-3.ensures.lined (c.put_gone.ensures walks.walks.stages below (c.put_all-2.ensures.lined lined))
