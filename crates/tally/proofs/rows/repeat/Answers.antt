use Rattle.std.proofs.Common.{◌≡◌, ℕ, get_or, sym, refl, ap, ◌∙◌, zero-add, add-one, arith}
use Rattle.tally.specs.Walks.{among}
use Rattle.tally.specs.Rounds.{rounds}
use Rattle.tally.proofs.Rounds.{round_same, settled}
use Rattle.tally.proofs.rows.repeat.Goals as goal

pub loop-done-init : goal.loop-done-init
loop-done-init g c =
    let K = g.T.Tally.algebra in
    let begun = c.begin_row.new.table in
    ((λ s h. ap (λ x. get_or begun x K.none) (sym (zero-add s)) ∙ c.begin_row.ensures.written s h), (λ i h. refl))

pub loop-done-preserved : goal.loop-done-preserved
loop-done-preserved g c =
    let K = g.T.Tally.algebra in
    let n = c.args.walks.now.stages in
    let moves = c.args.walks.now.moves.now in
    let pass = among c.args.walks.now.pass.now in
    let goals = among c.args.walks.now.goals.now in
    let i = c.loop-done._done in
    let was = λ (t : ℕ). get_or c.loop-done.table t K.none in (
      (λ s h.
          c.turn.ensures.next s h ∙ round_same K n moves c.args.walks.now.within pass goals was
          (rounds K moves pass goals i) c.loop-done.invariant.0 s
          ∙ ap (λ x. rounds K moves pass goals x s) (sym (add-one i))),
      (λ j h. c.turn.ensures.above j h ∙ c.loop-done.invariant.1 j h),
    )

pub returns-then-turn : goal.returns-then-turn
returns-then-turn g c =
    let K = g.T.Tally.algebra in
    let n = c.args.walks.now.stages in
    let moves = c.args.walks.now.moves.now in
    let pass = among c.args.walks.now.pass.now in
    let goals = among c.args.walks.now.goals.now in
    let i = c.loop-done._done in
    let was = λ (t : ℕ). get_or c.loop-done.table t K.none in
    let told = c.turn.ensures.told c.if-turn.true in
    record {
      results = λ s h.
          sym (told s h) ∙ c.loop-done.invariant.0 s h
          ∙ settled K n moves c.args.walks.now.within pass goals i
          (λ t l. sym (c.loop-done.invariant.0 t l) ∙ told t l ∙ c.turn.ensures.next t l
          ∙ round_same K n moves c.args.walks.now.within pass goals was (rounds K moves pass goals i)
          c.loop-done.invariant.0 t)
          c.args.k (omega arith) s h;
      above = λ j h. c.turn.ensures.above j h ∙ c.loop-done.invariant.1 j h ∙ c.begin_row.ensures.above j
          (omega arith);
    }

pub returns : goal.returns
returns g c =
    let K = g.T.Tally.algebra in
    let moves = c.args.walks.now.moves.now in
    let pass = among c.args.walks.now.pass.now in
    let goals = among c.args.walks.now.goals.now in
    let i = c.loop-done._done in
    let e : i ≡ c.args.k = omega arith in
    record {
      results = λ s h. c.loop-done.invariant.0 s h ∙ ap (λ x. rounds K moves pass goals x s) e;
      above = λ j h. c.loop-done.invariant.1 j h ∙ c.begin_row.ensures.above j (omega arith);
    }
