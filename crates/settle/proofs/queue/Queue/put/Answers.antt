use Rattle.std.proofs.Common.{arith}
use Rattle.settle.proofs.Queues.{is_in_still, is_in_only, longer_orderly}
use Rattle.settle.proofs.queue.Queue.put.Goals as goal

pub invariant_of-self : goal.invariant_of-self
invariant_of-self c =
    let q = c.args.self.now in
    let few = q.orderly.few in
    record {
      orderly = longer_orderly q.ring q.waiting q.head q.count q.orderly c.args.stage c.requires (omega arith)
          (omega arith);
    }

pub returns-clause-puts : goal.returns-clause-puts
returns-clause-puts c =
    let q = c.args.self.now in
    let few = q.orderly.few in
    record {
      still = is_in_still q.ring q.waiting q.head q.count q.orderly c.args.stage c.requires (omega arith) (omega arith);
      only = is_in_only q.ring q.waiting q.head q.count q.orderly c.args.stage c.requires (omega arith) (omega arith);
    }
