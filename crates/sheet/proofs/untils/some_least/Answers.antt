use Rattle.std.proofs.Common.{rules, arith}
use Rattle.sheet.specs.Sets.{has}
use Rattle.sheet.proofs.Cases.{some_least_set}
use Rattle.sheet.proofs.Settled.{led_settled}
use Rattle.sheet.proofs.untils.some_least.Goals as goal

pub tell-requires-clause-settles : goal.tell-requires-clause-settles
tell-requires-clause-settles c =
    led_settled c.args.paths.now (has c.fill-2.new.self) (has c.keep_endless.new.self) (has c.remove.new.self)
    (has c.args.g.now) c.keep_endless.ensures.left (has c.fill.new.self)
    c.remove.ensures.left
    (has c.reach.new.reached)
    c.reach.ensures.is
    (λ s h. let e = c.fill-2.ensures.told s h in search rules)

pub returns-clause-is : goal.returns-clause-is
returns-clause-is c =
    some_least_set c.args.paths.now c.args.f.now c.args.g.now c.args.c (omega arith) (has c.fill.new.self)
    (has c.reach.new.reached) (has c.fill-2.new.self) (has c.keep_endless.new.self) (has c.remove.new.self)
    (has c.tell.new.holds) (has c.fill-3.new.self)
    (λ s h. let e = c.fill.ensures.told s h in search rules)
    c.reach.ensures.is
    (λ s h. let e = c.fill-2.ensures.told s h in search rules)
    c.keep_endless.ensures.left
    c.remove.ensures.left
    c.tell.ensures.is
    (λ s h. let e = c.fill-3.ensures.told s h in search rules)
