use Rattle.std.proofs.Common.{◌∙◌, inl, inr, ⊎_elim, arith}
use Rattle.views.proofs.Views.{piece_each, lengths_within, no_lengths}
use Rattle.views.proofs.minute.MinuteView.lengths.Goals as goal

pub overflow_sub-stages : goal.overflow_sub-stages
overflow_sub-stages g c =
    let x = c.args.self.now in
    let h = g.met.P.Program.limits x.program.now in
    omega (
      arith,
      piece_each x.pieces (g.P.Program.meaning x.program.now) h c.move_count-below.result (omega (arith, h.few_moves)),
    )

pub returns-then-moves-le-MOST_MOVES : goal.returns-then-moves-le-MOST_MOVES
returns-then-moves-le-MOST_MOVES g c =
    let x = c.args.self.now in
    lengths_within x.pieces (g.P.Program.meaning x.program.now) (g.met.P.Program.limits x.program.now)
    c.stage_count.result c.move_count-below.result c.stage_count.ensures c.move_count-below.ensures
    c.if-stages-le-MOST_STAGES.true c.if-moves-le-MOST_MOVES.true

pub returns-else-stages-le-MOST_STAGES : goal.returns-else-stages-le-MOST_STAGES
returns-else-stages-le-MOST_STAGES g c =
    let x = c.args.self.now in
    let h =
    no_lengths x.pieces (g.P.Program.meaning x.program.now) (g.met.P.Program.limits x.program.now)
    c.stage_count.result c.move_count-below.result c.stage_count.ensures c.move_count-below.ensures
    (⊎_elim (λ h. inr h.1) (λ h. inl h) c.else-stages-le-MOST_STAGES.either) in
    record { stages = c.default.ensures.0 ∙ h.stages; moves = c.default.ensures.1 ∙ h.moves }
