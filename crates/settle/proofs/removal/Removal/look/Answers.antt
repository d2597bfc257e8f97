use Rattle.std.proofs.Common.{◌≡◌, ℕ, ◌<◌, T, ◌⊎◌, List, Some, sym, ap, ◌∙◌, subst, inl, inr, ⊎_elim}
use Rattle.std.proofs.lemmas.Bool.{false≢true}
use Rattle.tally.specs.Walks.{among}
use Rattle.program.specs.declared.End.TheVariants.{Leaves, Enters}
use Rattle.settle.specs.declared.removal.Removal.{Removal}
use Rattle.settle.specs.Chains.{bound, end_at, link_at}
use Rattle.settle.specs.Removals.{stages_of, moves_of, Watching, Due, Removes}
use Rattle.settle.proofs.Chains.{step, chain_more}
use Rattle.settle.proofs.Removals.{removes_more, watching_more, watching_next}
use Rattle.settle.proofs.removal.Removal.look.Goals as goal
use Rattle.settle.proofs.removal.Removal.look.Goals.{then-watches, else-watches}

pub loop-link-preserved : goal.loop-link-preserved
loop-link-preserved c =
    let sort = c.args.sort in
    let p = c.args.chained.now in
    let moves = moves_of p in
    let n = stages_of p in
    let gone = c.args.gone in
    let link = c.loop-link.link in
    let k = c.from-k.result in
    let stage = c.from-stage.result in
    let leaves : stage ≡ end_at Leaves moves k = c.from-stage.ensures in
    let next = link_at p.chains.now.enters.next k in
    let inv = c.loop-link.invariant in
    let r = c.loop-link.self in
    let was = c.loop-link.set in
    let s =
    step Enters n moves p.chains.now.enters p.linked.enters gone link inv.0 c.in-Some.number k c.in-Some.is
    c.from-k.ensures in
    let Still : Removal → ℕ → Type 0 = λ q j. Due p q j ⊎ ((end_at Enters moves j ≡ gone) × (j < bound link)) in
    let Next : Removal → ℕ → Type 0 = λ q j. Due p q j ⊎ ((end_at Enters moves j ≡ gone) × (j < bound next)) in
    let So : List ℕ → Removal → Type 0 = λ ws q. Removes sort p c.args.set.now ws c.args.self.now q
    × Watching sort p (among ws) (Next q) q in
    let so : So c.if-watches.set c.if-watches.self =
    elim c.if-watches.branch [
      | then-watches w ↦
          let re = w.watch.ensures in
          let after = w.watch.new.set in
          let q = w.watch.new.self in
          subst (λ ws. So ws c.if-watches.self) (sym w.set-is)
          (subst (λ q. So after q) (sym w.self-is) (
            removes_more sort p c.args.set.now was after c.args.self.now r q inv.1 re.removes,
            watching_more sort p n stage was after r q (Still r) (Next q) re
                (λ j ne. ⊎_elim (λ g. inl (re.gone _ g))
                (λ o. inr (chain_more Enters moves gone k link next s j
                (λ e. ne (ap (end_at Leaves moves) e ∙ sym leaves)) o)))
                (λ j g. inl g) (λ other l ne t. inv.2 other l t),
          ))
      | else-watches w ↦
          subst (λ ws. So ws c.if-watches.self) (sym w.set-is)
          (subst (λ q. So was q) (sym w.self-is) (
            inv.1,
            watching_next sort p (among was) r (Still r) (Next r) k
                (λ j ne. ⊎_elim (λ g. inl g) (λ o. inr (chain_more Enters moves gone k link next s j ne o)))
                (λ t e. false≢true (sym w.if-watches.false ∙ c.watches.ensures.1 (
                  subst (λ x. T (among was x)) (sym leaves) t,
                  subst (λ x. link_at r.watched x ≡ Some c.in-Some.number) (sym leaves)
                      (e ∙ ap (λ x. Some x) c.from-k.ensures),
                ))) inv.2,
          ))
    ] in
    (s.on, so.0, so.1)
