use Rattle.std.proofs.Common.{ℕ, ◌+◌, T, List, get_or, sym, subst, ⊎_elim, arith, ltb→lt}
use Rattle.std.proofs.lemmas.Bool.{cases_eq}
use Rattle.tally.specs.Walks.{among}
use Rattle.settle.specs.declared.removal.Removal.{Removal}
use Rattle.settle.specs.Removals.{moves_of, WatchingBelow, Due, Removes}
use Rattle.settle.proofs.Removals.{removes_more, watching_more}
use Rattle.settle.proofs.removal.Removal.watch_all.Goals as goal
use Rattle.settle.proofs.removal.Removal.watch_all.Goals.{then-set-stage-gt0, else-set-stage-gt0}

pub loop-stage-preserved : goal.loop-stage-preserved
loop-stage-preserved c =
    let sort = c.args.sort in
    let p = c.args.chained.now in
    let stage = c.loop-stage.stage in
    let was = c.loop-stage.set in
    let r = c.loop-stage.self in
    let inv = c.loop-stage.invariant in
    let So : List ℕ → Removal → Type 0 = λ ws q. Removes sort p c.args.set.now ws c.args.self.now q
    × WatchingBelow (stage + 1) sort (moves_of p) (among ws) (Due p q) q in
    elim c.if-set-stage-gt0.branch [
      | then-set-stage-gt0 w ↦
          let re = w.watch.ensures in
          let after = w.watch.new.set in
          let s = w.watch.new.self in
          subst (λ ws. So ws c.if-set-stage-gt0.self) (sym w.set-is)
          (subst (λ q. So after q) (sym w.self-is) (
            removes_more sort p c.args.set.now was after c.args.self.now r s inv.0 re.removes,
            watching_more sort p (stage + 1) stage was after r s (Due p r) (Due p s) re
                (λ k ne g. re.gone _ g) (λ k g. g) (λ other l ne t. inv.1 other (omega arith) t),
          ))
      | else-set-stage-gt0 w ↦
          subst (λ ws. So ws c.if-set-stage-gt0.self) (sym w.set-is)
          (subst (λ q. So was q) (sym w.self-is) (
            inv.0,
            (λ other l t.
                ⊎_elim
                (λ e. absurd
                (let h = ltb→lt 0 (get_or was stage 0) (subst (λ x. T (among was x)) e t) in omega arith))
                (λ ne. inv.1 other (omega arith) t) (cases_eq other stage)),
          ))
    ]
