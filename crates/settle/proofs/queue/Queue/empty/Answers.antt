use Rattle.std.proofs.Common.{ℕ, replicate}
use Rattle.program.specs.Meaning.{most_stages}
use Rattle.settle.proofs.Queues.{none_in, empty_orderly}
use Rattle.settle.proofs.queue.Queue.empty.Goals as goal

pub invariant_of-result : goal.invariant_of-result
invariant_of-result c = let none : ℕ = 0 in record { orderly = empty_orderly (replicate most_stages none) }

pub returns : goal.returns
returns c stage w = absurd (none_in _ 0 stage w)
