use Rattle.std.proofs.Common.{sym, ap, ◌∙◌, add-one}
use Rattle.tally.specs.Walks.{among}
use Rattle.checker.specs.Found.{ahead, steps}
use Rattle.checker.proofs.tests.follow.Goals as goal

pub loop-done-preserved : goal.loop-done-preserved
loop-done-preserved c =
    let f = ahead c.args.moves.now (among c.args.set.now) in
    c.follow_once-at.ensures ∙ ap f c.loop-done.invariant ∙ ap (λ x. steps f x c.args.s)
    (sym (add-one c.loop-done._done))
