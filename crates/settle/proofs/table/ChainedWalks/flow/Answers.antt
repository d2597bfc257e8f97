use Rattle.std.proofs.Common.{inl, ⊎_elim}
use Rattle.tally.specs.Walks.{among}
use Rattle.tally.specs.Rounds.{entry}
use Rattle.settle.proofs.Tended.{tended_still}
use Rattle.settle.proofs.table.ChainedWalks.flow.Goals as goal

pub returns-in_default-clause-still : goal.returns-in_default-clause-still
returns-in_default-clause-still g c =
    let K = g.T.Tally.algebra in
    let walks = c.args.self.now.walks in
    tended_still K g.met.T.Tally.lawful walks.moves.now (among walks.pass.now) (entry K c.loop-turn.table)
    (λ k l. ⊎_elim (λ nothing. inl nothing) (λ w. absurd (c.in_default.ensures _ w)) (c.loop-turn.invariant.2 k l))
