use Rattle.std.proofs.Common.{rules, refl, ap, ◌∙◌, add-one, arith}
use Rattle.tally.specs.Algebras.{longest_algebra}
use Rattle.tally.specs.Walks.{tallied}
use Rattle.sheet.specs.Sets.{has, stage_count}
use Rattle.sheet.specs.Told.{long_from}
use Rattle.sheet.proofs.Cases.{each_most_set}
use Rattle.sheet.proofs.Settled.{long_settled}
use Rattle.sheet.proofs.untils.each_most.Goals as goal

pub tell-requires-clause-settles : goal.tell-requires-clause-settles
tell-requires-clause-settles c =
    long_settled c.args.paths.now (has c.fill.new.self) (has c.keep_endless.new.self)
    (has c.remove.new.self) _ c.keep_endless.ensures.left (has c.fill.new.self)
    c.remove.ensures.left (λ s h. refl)

pub returns-clause-is : goal.returns-clause-is
returns-clause-is c =
    let paths = c.args.paths.now in
    let rest = c.remove.new.self in
    let all = has c.all-all.result in
    each_most_set paths c.args.f.now c.args.g.now c.args.c (omega arith) (has c.fill.new.self)
    (has c.fill-2.new.self) (has c.reach.new.reached) (has c.keep_endless.new.self) (has rest)
    all (has c.tell.new.holds) (has c.fill-3.new.self)
    (λ s h. let e = c.fill.ensures.told s h in search rules)
    (λ s h. let e = c.fill-2.ensures.told s h in search rules)
    c.reach.ensures.is
    c.keep_endless.ensures.left
    c.remove.ensures.left
    (λ s h. c.all-all.ensures s (omega (arith, paths.few)))
    (λ s h.
    c.tell.ensures.is s h
    ∙ ap (λ x. long_from x (tallied longest_algebra paths.moves.now (has rest) all
    (stage_count paths) s)) (add-one c.args.c))
    (λ s h. let e = c.fill-3.ensures.told s h in search rules)
