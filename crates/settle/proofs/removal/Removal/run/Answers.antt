use Rattle.std.proofs.Common.{◌≡◌, ℕ, ◌⊎◌, Option, List, sym, ◌∙◌, subst, inl, inr, ⊎_elim}
use Rattle.tally.specs.Walks.{among}
use Rattle.program.specs.declared.End.TheVariants.{Enters}
use Rattle.settle.specs.declared.removal.Removal.{Removal}
use Rattle.settle.specs.Chains.{end_at, link_at}
use Rattle.settle.specs.Removals.{moves_of, Watched, Due, Removed}
use Rattle.settle.proofs.Removals.{shrinks_more, watching_due, booked_none}
use Rattle.settle.proofs.removal.Removal.run.Goals as goal

pub watch_all-requires : goal.watch_all-requires
watch_all-requires c = record {
  booked = booked_none c.args.chained.now c.args.set.now _ c.requires.set c.requires.none;
}

pub look-requires-clause-watching : goal.look-requires-clause-watching
look-requires-clause-watching c stage l t =
    let sort = c.args.sort in
    let p = c.args.chained.now in
    let moves = moves_of p in
    let set = among c.loop-gone.set in
    let r = c.loop-gone.self in
    let looks = c.in-Some.ensures in
    let next : ℕ → Type 0 = λ k. Due p c.next_gone.new.self k ⊎ (end_at Enters moves k ≡ c.in-Some.gone) in
    subst (λ (links : List (Option ℕ)). Watched sort moves set next stage (link_at links stage)) (sym looks.watched)
    (watching_due sort p set r (Due p r) next
    (λ k g. ⊎_elim (λ e. inr e) (λ h. inl h) (looks.others _ g)) c.loop-gone.invariant.1 stage l t)

pub loop-gone-preserved : goal.loop-gone-preserved
loop-gone-preserved c =
    let inv = c.loop-gone.invariant in
    let removes = c.look.ensures.removes in (
      removes.booked,
      c.look.ensures.watching,
      shrinks_more c.args.sort c.args.chained.now
          (among c.watch_all.new.set) (among c.loop-gone.set) (among c.look.new.set) inv.2 removes.shrinks,
      (λ i h. removes.rest i h ∙ inv.3 i h),
    )

pub returns : goal.returns
returns c =
    let sort = c.args.sort in
    let p = c.args.chained.now in
    let after = c.loop-gone.set in
    let r = c.loop-gone.self in
    let inv = c.loop-gone.invariant in
    let first = c.watch_all.ensures.removes in
    let none = c.in_default.ensures in
    subst (λ (q : Removal). Removed sort p c.args.set.now after q) (sym none.1) (record {
      shrinks = shrinks_more sort p (among c.args.set.now) (among c.watch_all.new.set) (among after)
          first.shrinks inv.2;
      rest = λ i h. inv.3 i h ∙ first.rest i h;
      booked = inv.0;
      watching = watching_due sort p (among after) r (Due p r) (λ k. ⊥) (λ k g. none.0 _ g) inv.1;
    })
