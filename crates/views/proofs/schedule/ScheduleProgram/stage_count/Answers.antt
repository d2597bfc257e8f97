use Rattle.std.proofs.Common.{sym}
use Rattle.views.specs.ScheduleLimits.{length_stages}
use Rattle.views.proofs.schedule.ScheduleProgram.stage_count.Goals as goal

pub returns : goal.returns
returns c = sym (length_stages c.args.self.now.segments.now)
