use Rattle.std.proofs.Common.{◌∙◌, arith}
use Rattle.views.proofs.Views.{piece_each, move_below, stages_below, new_move}
use Rattle.views.proofs.minute.MinuteViewProgram.move_at.Goals as goal

pub move_of-old-requires-clause-real : goal.move_of-old-requires-clause-real
move_of-old-requires-clause-real g c =
    let x = c.args.self.now in
    move_below x.pieces (g.P.Program.meaning x.program.now) (g.met.P.Program.limits x.program.now) c.args.k
    c.move_count.result (omega arith) c.move_count.ensures

pub overflow_sub-first : goal.overflow_sub-first
overflow_sub-first g c =
    let x = c.args.self.now in
    let h = g.met.P.Program.limits x.program.now in
    omega (
      arith,
      piece_each x.pieces (g.P.Program.meaning x.program.now) h c.move_of-old.result (omega (arith, h.few_moves)),
    )

pub piece-requires-clause-few : goal.piece-requires-clause-few
piece-requires-clause-few g c =
    let x = c.args.self.now in
    stages_below x.pieces (g.P.Program.meaning x.program.now) (g.met.P.Program.limits x.program.now) c.args.k
    c.move_of-old.result c.stage_count.result (omega arith) (omega arith) c.stage_count.ensures

pub returns : goal.returns
returns g c =
    let x = c.args.self.now in
    c.piece.ensures
    ∙ new_move x.pieces (g.P.Program.meaning x.program.now) (g.met.P.Program.limits x.program.now) c.args.k
    c.move_of-old.result c.stage_count.result c.move_at.result (omega arith) (omega arith)
    c.stage_count.ensures c.move_at.ensures c.move_of-old.ensures.begun c.move_of-old.ensures.goes_on
