use Rattle.std.proofs.Common.{◌≤◌}
use Rattle.wire.proofs.check_times.Given as goal

abbrev pub invariant-loop : goal.invariant-loop
invariant-loop g l = l.lines ≤ 32
