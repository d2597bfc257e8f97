use Rattle.std.proofs.Common.{◌≡◌, ℕ, ◌<◌, sym, refl, ap, ◌∙◌, zero-add, arith}
use Rattle.tally.specs.Walks.{among}
use Rattle.tally.specs.Rounds.{begins, entry}
use Rattle.tally.proofs.Sweeps.{begins_partly, still_of_all}
use Rattle.settle.proofs.Tended.{partly_same}
use Rattle.settle.proofs.table.by_passes.Goals as goal

pub loop-pass-init : goal.loop-pass-init
loop-pass-init g c =
    let K = g.T.Tally.algebra in
    let walks = c.args.walks.now in
    let n = walks.stages in
    let moves = walks.moves.now in
    let pass = among walks.pass.now in
    let goals = among walks.goals.now in
    let begun = entry K c.begin_row.new.table in
    let begin : (s : ℕ) → s < n → begins K goals s ≡ begun s = λ s l.
    sym (ap begun (sym (zero-add s)) ∙ c.begin_row.ensures.written s l) in (
      partly_same K n moves pass goals (begins K goals) begun begin
          (begins_partly K g.met.T.Tally.lawful n moves walks.within pass goals),
      (λ j h. refl),
    )

pub loop-pass-preserved : goal.loop-pass-preserved
loop-pass-preserved g c =
    let inv = c.loop-pass.invariant in (
      c.pour_all.ensures.partly _ inv.0,
      (λ j h. c.pour_all.ensures.above j h ∙ inv.1 j h),
    )

pub returns-then-not-pour_all-clause-all : goal.returns-then-not-pour_all-clause-all
returns-then-not-pour_all-clause-all g c told =
    let K = g.T.Tally.algebra in
    let walks = c.args.walks.now in
    still_of_all K g.met.T.Tally.lawful walks.stages walks.moves.now walks.within (among walks.pass.now)
    (among walks.goals.now) (entry K c.pour_all.new.table) (c.pour_all.ensures.partly _ c.loop-pass.invariant.0)
    (c.pour_all.ensures.still c.if-not-pour_all.true)

pub returns-then-not-pour_all-clause-above : goal.returns-then-not-pour_all-clause-above
returns-then-not-pour_all-clause-above g c = λ j h.
    c.pour_all.ensures.above j h ∙ c.loop-pass.invariant.1 j h ∙ c.begin_row.ensures.above j (omega arith)

pub returns-clause-above : goal.returns-clause-above
returns-clause-above g c = λ j h. c.loop-pass.invariant.1 j h ∙ c.begin_row.ensures.above j (omega arith)
