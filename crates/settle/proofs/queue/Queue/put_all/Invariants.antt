use Rattle.tally.specs.Walks.{among}
use Rattle.settle.specs.Queues.{Lined, AllWait}
use Rattle.settle.proofs.queue.Queue.put_all.Given as goal

abbrev pub invariant-loop-stage : goal.invariant-loop-stage
invariant-loop-stage l = (Lined l.n l.initial.self → Lined l.n l.self) × AllWait l.stage (among l.set) l.self
