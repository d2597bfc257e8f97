use Rattle.std.proofs.Common.{◌≡◌, ◌≤◌, length}
use Rattle.signs.specs.Signs.{signs}
use Rattle.signs.proofs.skip_spaces.Given as goal

abbrev pub invariant-loop-text : goal.invariant-loop-text
invariant-loop-text l = (signs l.text ≡ signs l.initial.text) × (length l.text ≤ length l.initial.text)

abbrev pub decreases-loop-text : goal.decreases-loop-text
decreases-loop-text l = length l.text
