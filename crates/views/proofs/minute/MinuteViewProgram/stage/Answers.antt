use Rattle.views.proofs.Views.{new_stage}
use Rattle.views.proofs.minute.MinuteViewProgram.stage.Goals as goal
use Rattle.std.proofs.Common.{arith}

pub returns-else-s-stage_count : goal.returns-else-s-stage_count
returns-else-s-stage_count g c =
    let x = c.args.self.now in
    new_stage x.pieces (g.P.Program.meaning x.program.now) (g.met.P.Program.limits x.program.now) c.args.s
    (omega arith) (omega arith)
