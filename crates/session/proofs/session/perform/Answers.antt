use Rattle.std.proofs.Common.{[], ◌∷◌, ◌++◌, vec_items, refl, ap, ◌∙◌}
use Rattle.session.proofs.Grows.{so_far_more, some_over, all_over}
use Rattle.session.proofs.session.perform.Goals as goal

-- no room for the next answer
pub returns-in_default : goal.returns-in_default
returns-in_default g c =
    let over = some_over _ _ _ _ _ _ _ _ c.loop-call-test.true c.reserve.ensures.items refl c.loop-call.invariant.1 in
    record { main = over.main; onward = over.onward; tidy = over.tidy; kept = c.loop-call.invariant.0 }

-- no memory for what a check told
pub returns-in_default-answer : goal.returns-in_default-answer
returns-in_default-answer g c =
    let over = some_over _ _ _ _ _ _ _ _ c.loop-call-test.true c.reserve.ensures.items
    c.in_default-answer.ensures.does c.loop-call.invariant.1 in
    record {
      main = over.main;
      onward = over.onward;
      tidy = over.tidy;
      kept = c.answer.ensures.kept ∙ c.loop-call.invariant.0;
    }

pub loop-call-preserved : goal.loop-call-preserved
loop-call-preserved g c =
    let pushed = c.push_reserved.ensures.items
    ∙ ap (λ os. os ++ (c.in-Ok-answer.given ∷ [])) c.reserve.ensures.items in (
      c.answer.ensures.kept ∙ c.loop-call.invariant.0,
      so_far_more _ _ _ _ _ _ _ _ _ _ (vec_items c.push_reserved.new.self) c.loop-call.invariant.0
          c.loop-call-test.true c.call-item.is pushed c.in-Ok-answer.ensures.does c.loop-call.invariant.1,
    )

pub returns : goal.returns
returns g c =
    let over = all_over _ _ _ _ _ _ c.loop-call-test.false c.loop-call.invariant.1 in
    record { main = over.main; onward = over.onward; tidy = over.tidy; kept = c.loop-call.invariant.0 }
