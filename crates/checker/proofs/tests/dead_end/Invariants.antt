use Rattle.std.proofs.Common.{◌≡◌, ℕ, ◌<◌, get_or}
use Rattle.program.specs.Meaning.{no_move}
use Rattle.program.specs.Meaning.{prog}
use Rattle.checker.specs.Outcomes.{Onward}
use Rattle.checker.proofs.tests.dead_end.Given as goal

abbrev pub invariant-stages : goal.invariant-stages
invariant-stages l = (t : ℕ) → t < l.s → Onward (prog l.stages l.moves) t

abbrev pub invariant-loop-m : goal.invariant-loop-m
invariant-loop-m l = (k : ℕ) → k < l.m-index → (get_or l.moves k no_move).leaves ≡ l.s → ⊥
