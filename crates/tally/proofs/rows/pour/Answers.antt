use Rattle.std.proofs.Common.{◌≡◌, ℕ, ◌+◌, cond, get_or, drop, sym, ap, ◌∙◌, subst, arith}
use Rattle.std.proofs.lemmas.List.{at_drop_more, at_drop_all}
use Rattle.program.specs.declared.Move.{Move}
use Rattle.program.specs.Meaning.{no_move}
use Rattle.tally.specs.Walks.{among}
use Rattle.tally.proofs.Rounds.{rest, rest_step, rest_none}
use Rattle.tally.proofs.rows.pour.Goals as goal

pub loop-m-preserved : goal.loop-m-preserved
loop-m-preserved g c =
    let K = g.T.Tally.algebra in
    let laws = g.met.T.Tally.lawful in
    let n = c.args.walks.now.stages in
    let xs = c.loop-m.table in
    let ys = c.pour_one.new.table in
    let moves = c.args.walks.now.moves.now in
    let was = λ (t : ℕ). get_or c.args.table.now t K.none in
    let pass = among c.args.walks.now.pass.now in
    let i = c.loop-m.m-index in
    let m : Move = get_or moves i no_move in
    let within = c.args.walks.now.within i c.loop-m-test.true in (
      (λ s h.
          rest_step K laws pass was m (drop (i + 1) moves) s (get_or xs (n + s) K.none) (get_or ys (n + s) K.none)
          (λ e.
          subst (λ (z : ℕ). get_or ys (n + z) K.none ≡ cond (pass z)
          (K.choice (get_or xs (n + z) K.none) (K.before m.minutes (was m.enters)))
          (get_or xs (n + z) K.none)) e
          (c.pour_one.ensures.poured
          ∙ ap (λ z. cond (pass m.leaves) (K.choice (get_or xs (n + m.leaves) K.none)
          (K.before m.minutes z)) (get_or xs (n + m.leaves) K.none))
          (c.loop-m.invariant.1 m.enters within.1)))
          (λ ne. c.pour_one.ensures.others (n + s) (λ e. ne (omega arith)))
          ∙ ap (K.choice (get_or xs (n + s) K.none)) (sym (at_drop_more (λ (ms : _). rest K laws pass was ms s)
          moves i _ c.loop-m-test.true))
          ∙ c.loop-m.invariant.0 s h),
      (λ j h. c.pour_one.ensures.others j (λ e. omega arith) ∙ c.loop-m.invariant.1 j h),
      (λ j h. c.pour_one.ensures.others j (λ e. omega (arith, within.0)) ∙ c.loop-m.invariant.2 j h),
    )

pub returns : goal.returns
returns g c =
    let K = g.T.Tally.algebra in
    let laws = g.met.T.Tally.lawful in
    let n = c.args.walks.now.stages in
    let moves = c.args.walks.now.moves.now in
    let was = λ (t : ℕ). get_or c.args.table.now t K.none in
    let pass = among c.args.walks.now.pass.now in
    record {
      poured = λ s h.
          sym (rest_none K laws pass was s (get_or c.loop-m.table (n + s) K.none))
          ∙ ap (K.choice (get_or c.loop-m.table (n + s) K.none))
          (sym (at_drop_all (λ (ms : _). rest K laws pass was ms s) moves c.loop-m.m-index
          c.loop-m-test.false))
          ∙ c.loop-m.invariant.0 s h;
      below = c.loop-m.invariant.1;
      above = c.loop-m.invariant.2;
    }
