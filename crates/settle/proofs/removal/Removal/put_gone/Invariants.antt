use Rattle.std.proofs.Common.{ℕ}
use Rattle.settle.specs.Rings.{AllBelow}
use Rattle.settle.specs.Queues.{Lined}
use Rattle.settle.proofs.removal.Removal.put_gone.Given as goal

abbrev pub invariant-loop-stage : goal.invariant-loop-stage
invariant-loop-stage l = (n : ℕ) → AllBelow n l.self.gone.items → Lined n l.initial.queue → Lined n l.queue
