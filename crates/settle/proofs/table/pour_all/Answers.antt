use Rattle.std.proofs.Common.{◌≡◌, ℕ, ◌<◌, ◌⊎◌, ◌-◌, true, length, sym, refl, ◌∙◌, inl, inr, ⊎_elim, arith}
use Rattle.std.proofs.lemmas.Bool.{false≢true}
use Rattle.tally.specs.Walks.{among}
use Rattle.tally.specs.Rounds.{entry}
use Rattle.settle.proofs.Tended.{tended_more, tended_still, partly_more, above_more}
use Rattle.settle.proofs.table.pour_all.Goals as goal

pub loop-k-preserved-then-pour : goal.loop-k-preserved-then-pour
loop-k-preserved-then-pour g c =
    let K = g.T.Tally.algebra in
    let laws = g.met.T.Tally.lawful in
    let walks = c.args.walks.now in
    let moves = walks.moves.now in
    let pass = among walks.pass.now in
    let k = c.loop-k.k - 1 in
    let real : k < length moves = omega arith in
    let was = c.loop-k.table in
    let after = c.pour.new.table in
    let place = c.pour.ensures.place in
    let inv = c.loop-k.invariant in (
      partly_more K laws walks.stages moves walks.within pass k real (entry K c.args.table.now) (entry K was)
          (entry K after) place inv.0,
      above_more K laws walks.stages moves walks.within pass k real c.args.table.now was after place inv.1,
      tended_more K laws moves pass k (entry K was) (entry K after)
          (λ j. (c.loop-k.changed ≡ true) ⊎ (j < c.loop-k.k)) (λ j. (true ≡ true) ⊎ (j < k)) place inv.2
          (λ j ne d. inl refl) (λ j e. inr (inl refl)),
    )

pub returns-clause-still : goal.returns-clause-still
returns-clause-still g c none =
    let K = g.T.Tally.algebra in
    let walks = c.args.walks.now in
    tended_still K g.met.T.Tally.lawful walks.moves.now (among walks.pass.now) (entry K c.loop-k.table)
    (λ j l.
    ⊎_elim (λ nothing. inl nothing)
    (λ due. absurd (⊎_elim (λ some. false≢true (sym none ∙ some)) (λ low. omega arith) due))
    (c.loop-k.invariant.2 j l))
