use Rattle.std.proofs.Common.{◌+◌, ◌<◌, get_or, sym, subst, arith, ltb→lt}
use Rattle.std.proofs.lemmas.List.{get_or-take, length-take}
use Rattle.tally.specs.Walks.{among}
use Rattle.settle.specs.declared.queue.Queue.{Queue}
use Rattle.settle.specs.Queues.{Lined, AllWait}
use Rattle.settle.proofs.Queues.{lined_more, all_wait_more}
use Rattle.settle.proofs.queue.Queue.put_all.Goals as goal
use Rattle.settle.proofs.queue.Queue.put_all.Goals.{then-word-gt0+in_ok-put, else-word-gt0}

pub loop-stage-preserved : goal.loop-stage-preserved
loop-stage-preserved c =
    let n = c.args.n in
    let stage = c.loop-stage.stage in
    let set = among c.args.set.now in
    let begun = c.args.self.now in
    let was = c.loop-stage.self in
    let before = c.loop-stage.invariant in
    let low : stage < n = omega (arith, length-take n c.args.set.now) in
    let So : Queue → Type 0 = λ q. (Lined n begun → Lined n q) × AllWait (stage + 1) set q in
    elim c.if-word-gt0.branch [
      | then-word-gt0+in_ok-put w ↦
          let puts = w.put.ensures.puts in
          subst So (sym w.self-is) (
            (λ lined. lined_more n stage was w.put.new.self low puts (before.0 lined)),
            all_wait_more stage set was w.put.new.self puts.still (λ t. w.in_ok-put.ensures.waits) before.1,
          )
      | else-word-gt0 w ↦
          subst So (sym w.self-is) (
            before.0,
            all_wait_more stage set was was (λ other v. v)
                (λ t. absurd (let l = ltb→lt 0 (get_or c.args.set.now stage 0) t in
                omega (arith, get_or-take n c.args.set.now stage 0 low))) before.1,
          )
    ]
