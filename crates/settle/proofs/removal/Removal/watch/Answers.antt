use Rattle.std.proofs.Common.{ℕ, ◌+◌, [], ◌∷◌, ◌++◌, length, Some, set, ap, sym, ◌∙◌, subst, arith}
use Rattle.tally.specs.Walks.{among}
use Rattle.program.specs.declared.End.TheVariants.{Leaves}
use Rattle.settle.specs.Chains.{bound}
use Rattle.settle.proofs.Chains.{step}
use Rattle.settle.proofs.Removals.{room_left, rewatched, removed}
use Rattle.settle.specs.Removals.{moves_of, NoneAtOrPast}
use Rattle.settle.proofs.removal.Removal.watch.Goals as goal

pub returns-then-leads : goal.returns-then-leads
returns-then-leads c =
    let p = c.args.chained.now in
    let moves = moves_of p in
    let inv = c.loop-link.invariant in
    let s =
    step Leaves _ moves p.chains.now.leaves p.linked.leaves c.args.stage c.loop-link.link inv.from.reaches
    c.in-Some.number c.from-k.result c.in-Some.is c.from-k.ensures in
    let into = c.leads.ensures.0 c.if-leads.true in
    let None_past : ℕ → Type 0 = NoneAtOrPast c.args.sort moves (among c.args.set.now) c.args.stage in
    let none : None_past (c.from-k.result + 1) = subst (λ link. None_past (bound link)) s.is inv.from.none in
    rewatched c.args.sort p c.args.stage c.args.set.now c.args.self.now _ c.requires.booked
    (omega arith) (Some c.in-Some.number) c.from-k.result (ap (λ x. Some x) (sym c.from-k.ensures))
    (record { real = s.real; leaves = s.here; counts = into.0; enters = into.1 }) none
    (ap (λ q. set q.watched c.args.stage (Some c.in-Some.number)) inv.same) (ap (λ q. q.gone.items) inv.same)
    (ap (λ q. q.done) inv.same)

pub push-requires : goal.push-requires
push-requires c =
    let p = c.args.chained.now in
    let few = p.linked.leaves.few_stages in
    let room =
    room_left p c.args.set.now c.args.self.now c.requires.booked c.args.stage c.requires.stage.0 c.requires.stage.1 in
    (omega arith, omega (arith, ap (λ q. length q.gone.items) c.loop-link.invariant.same))

pub returns : goal.returns
returns c =
    let inv = c.loop-link.invariant in
    let p = c.args.chained.now in
    let None_past : ℕ → Type 0 = NoneAtOrPast c.args.sort (moves_of p) (among c.args.set.now) c.args.stage in
    let useless : None_past 0 = subst (λ link. None_past (bound link)) c.in_default.is inv.from.none in
    removed c.args.sort p c.args.stage c.args.set.now c.args.self.now c.requires.booked
    c.requires.stage.0 c.requires.stage.1 useless _ (ap (λ q. q.watched) inv.same) (ap (λ q. q.done) inv.same)
    (c.push.ensures.items ∙ ap (λ q. q.gone.items ++ c.args.stage ∷ []) inv.same)
