use Rattle.std.proofs.Common.{◌≡◌, ◌≤◌, length, drop}
use Rattle.signs.specs.Signs.{run, value, cap}
use Rattle.signs.proofs.number.Given as goal

abbrev pub invariant-loop-text : goal.invariant-loop-text
invariant-loop-text l =
    (cap (value l.value l.text) ≡ cap (value l.initial.value l.initial.text))
    × (drop (run l.text) l.text ≡ drop (run l.initial.text) l.initial.text) × (l.value ≤ 1000001)

abbrev pub decreases-loop-text : goal.decreases-loop-text
decreases-loop-text l = length l.text
