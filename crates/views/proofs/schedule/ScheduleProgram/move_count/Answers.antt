use Rattle.std.proofs.Common.{sym}
use Rattle.views.specs.ScheduleLimits.{length_moves}
use Rattle.views.proofs.schedule.ScheduleProgram.move_count.Goals as goal

pub returns : goal.returns
returns c = sym (length_moves c.args.self.now.segments.now 0)
