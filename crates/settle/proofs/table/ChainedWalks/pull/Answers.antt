use Rattle.std.proofs.Common.{◌≡◌, ◌<◌, ◌⊎◌, sym, subst, inl, inr, ⊎_elim}
use Rattle.tally.specs.Walks.{among}
use Rattle.tally.specs.Rounds.{entry}
use Rattle.program.specs.declared.End.TheVariants.{Enters}
use Rattle.settle.specs.Chains.{bound, end_at, link_at}
use Rattle.settle.specs.Queues.{Waits}
use Rattle.settle.specs.Tended.{Due}
use Rattle.settle.proofs.Chains.{step, chain_more}
use Rattle.settle.proofs.Tended.{tended_more, partly_more, above_more}
use Rattle.settle.proofs.table.ChainedWalks.pull.Goals as goal

pub returns-in_err-pour_back-clause-partly : goal.returns-in_err-pour_back-clause-partly
returns-in_err-pour_back-clause-partly g c =
    let K = g.T.Tally.algebra in
    let walks = c.args.self.now.walks in
    let moves = walks.moves.now in
    let inv = c.loop-link.invariant in
    let s =
    step Enters walks.stages moves c.args.self.now.chained.now.chains.now.enters c.args.self.now.linked c.args.stage
    c.loop-link.link inv.0 c.in-Some.number c.from-k.result c.in-Some.is c.from-k.ensures in
    partly_more K g.met.T.Tally.lawful walks.stages moves walks.within (among walks.pass.now) c.from-k.result s.real
    (entry K c.args.table.now) (entry K c.loop-link.table) (entry K c.pour_back.new.table)
    c.pour_back.ensures.place inv.1

pub loop-link-preserved : goal.loop-link-preserved
loop-link-preserved g c =
    let K = g.T.Tally.algebra in
    let laws = g.met.T.Tally.lawful in
    let walks = c.args.self.now.walks in
    let n = walks.stages in
    let moves = walks.moves.now in
    let pass = among walks.pass.now in
    let within = walks.within in
    let inv = c.loop-link.invariant in
    let enters = c.args.self.now.chained.now.chains.now.enters in
    let stage = c.args.stage in
    let link = c.loop-link.link in
    let k = c.from-k.result in
    let next = link_at enters.next k in
    let poured = c.pour_back.ensures in
    let was = c.loop-link.queue in
    let after = c.pour_back.new.queue in
    let s =
    step Enters n moves enters c.args.self.now.linked stage link inv.0 c.in-Some.number k c.in-Some.is
    c.from-k.ensures in (
      s.on,
      partly_more K laws n moves within pass k s.real (entry K c.args.table.now) (entry K c.loop-link.table)
          (entry K c.pour_back.new.table) poured.place inv.1,
      above_more K laws n moves within pass k s.real c.args.table.now c.loop-link.table
          c.pour_back.new.table poured.place inv.2,
      tended_more K laws moves pass k (entry K c.loop-link.table) (entry K c.pour_back.new.table)
          (λ j. Due moves was j ⊎ ((end_at Enters moves j ≡ stage) × (j < bound link)))
          (λ j. Due moves after j ⊎ ((end_at Enters moves j ≡ stage) × (j < bound next))) poured.place inv.3
          (λ j ne. ⊎_elim (λ w. inl (poured.puts.still _ w))
          (λ o. inr (chain_more Enters moves stage k link next s j ne o)))
          (λ j e. ⊎_elim (λ q. inl q) (λ w. inr (inl (subst (Waits after) (sym e) w))) c.in_ok-pour_back.ensures.waits),
    )
