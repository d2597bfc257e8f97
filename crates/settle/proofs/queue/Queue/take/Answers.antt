use Rattle.std.proofs.Common.{arith}
use Rattle.settle.proofs.Queues.{is_in_foremost, foremost_low, is_in_others, is_in_before, shorter_orderly}
use Rattle.settle.proofs.queue.Queue.take.Goals as goal

pub bounds-self-stage : goal.bounds-self-stage
bounds-self-stage c =
    let q = c.args.self.now in
    foremost_low q.ring q.waiting q.head q.count q.orderly (omega arith) (omega arith)

pub invariant_of-self : goal.invariant_of-self
invariant_of-self c =
    let q = c.args.self.now in
    record { orderly = shorter_orderly q.ring q.waiting q.head q.count q.orderly (omega arith) (omega arith) }

pub returns : goal.returns
returns c =
    let q = c.args.self.now in
    record {
      low = foremost_low q.ring q.waiting q.head q.count q.orderly (omega arith) (omega arith);
      waited = is_in_foremost q.ring q.waiting q.head q.count q.orderly (omega arith) (omega arith);
      others = is_in_others q.ring q.waiting q.head q.count q.orderly (omega arith) (omega arith);
      only = is_in_before q.ring q.waiting q.head q.count q.orderly (omega arith) (omega arith);
    }
