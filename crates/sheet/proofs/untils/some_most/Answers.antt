use Rattle.std.proofs.Common.{rules, arith}
use Rattle.sheet.specs.Sets.{has}
use Rattle.sheet.proofs.Cases.{some_most_set}
use Rattle.sheet.proofs.Settled.{short_settled}
use Rattle.sheet.proofs.untils.some_most.Goals as goal

pub tell-requires-clause-settles : goal.tell-requires-clause-settles
tell-requires-clause-settles c = short_settled c.args.paths.now _ _

pub returns-clause-is : goal.returns-clause-is
returns-clause-is c =
    some_most_set c.args.paths.now c.args.f.now c.args.g.now c.args.c (omega arith) (has c.fill.new.self)
    (has c.tell.new.holds) (has c.fill-2.new.self)
    (λ s h. let e = c.fill.ensures.told s h in search rules)
    c.tell.ensures.is
    (λ s h. let e = c.fill-2.ensures.told s h in search rules)
