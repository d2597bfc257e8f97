use Rattle.std.proofs.Common.{◌*◌, ◌≤◌}
use Rattle.views.proofs.schedule.ScheduleProgram.stage.Given as goal

-- The stage is not one of the segments before.
abbrev pub invariant-loop-i : goal.invariant-loop-i
invariant-loop-i l = 2 * l.i ≤ l.s
