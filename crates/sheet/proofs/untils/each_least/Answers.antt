use Rattle.std.proofs.Common.{ap, ◌∙◌, rules, arith}
use Rattle.tctl.specs.Checker.{any_move, into, ◌or◌}
use Rattle.sheet.specs.Sets.{has, listed, stage_count, timed}
use Rattle.sheet.proofs.Cases.{each_least_set}
use Rattle.sheet.proofs.Settled.{short_settled}
use Rattle.sheet.proofs.untils.each_least.Goals as goal

pub tell-requires-clause-settles : goal.tell-requires-clause-settles
tell-requires-clause-settles c = short_settled c.args.paths.now _ _

pub returns-clause-is : goal.returns-clause-is
returns-clause-is c =
    let paths = c.args.paths.now in
    each_least_set paths c.args.f.now c.args.g.now c.args.c (omega arith) (has c.fill.new.self)
    (has c.fill-2.new.self) (has c.reach.new.reached) (has c.keep_endless.new.self) (has c.fill-3.new.self)
    (has c.fill-4.new.self) (has c.add_sources.new.self) (has c.fill-5.new.self) (has c.tell.new.holds)
    (has c.fill-6.new.self)
    (λ s h. let e = c.fill.ensures.told s h in search rules)
    (λ s h. let e = c.fill-2.ensures.told s h in search rules)
    c.reach.ensures.is
    c.keep_endless.ensures.left
    (λ s h. let e = c.fill-3.ensures.told s h in search rules)
    (λ s h. let e = c.fill-4.ensures.told s h in search rules)
    (λ s h.
    c.add_sources.ensures s
    ∙ ap (λ b. b or into any_move (timed paths).moves (listed (stage_count paths) c.fill-3.new.self) s)
    (c.none-sources.ensures s (omega (arith, paths.few))))
    (λ s h. let e = c.fill-5.ensures.told s h in search rules)
    (λ s h. let t = c.tell.ensures.is s h in search rules)
    (λ s h. let e = c.fill-6.ensures.told s h in search rules)
