use Rattle.std.proofs.Common.{sym, arith}
use Rattle.program.specs.Meaning.{no_stage}
use Rattle.std.proofs.lemmas.List.{get_or_past}
use Rattle.views.specs.Schedules.{segment_stages}
use Rattle.views.specs.ScheduleLimits.{length_stages}
use Rattle.views.proofs.Segments.{ramp_stage, hold_stage}
use Rattle.views.proofs.schedule.ScheduleProgram.stage.Goals as goal

pub returns-then-s-i : goal.returns-then-s-i
returns-then-s-i c =
    ramp_stage c.args.self.now.segments.now c.loop-i.i c.args.s (omega arith) (omega arith)

pub returns-then-s-i-2 : goal.returns-then-s-i-2
returns-then-s-i-2 c =
    hold_stage c.args.self.now.segments.now c.loop-i.i c.args.s (omega arith) (omega arith)

pub returns : goal.returns
returns c =
    let gs = c.args.self.now.segments.now in
    let n = length_stages gs in
    sym (get_or_past (segment_stages gs) c.args.s no_stage (omega arith))
