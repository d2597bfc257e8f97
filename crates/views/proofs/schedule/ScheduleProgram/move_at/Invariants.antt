use Rattle.std.proofs.Common.{◌*◌, ◌≤◌}
use Rattle.views.proofs.schedule.ScheduleProgram.move_at.Given as goal

-- The move is not one of the segments before.
abbrev pub invariant-loop-i : goal.invariant-loop-i
invariant-loop-i l = 2 * l.i ≤ l.k
