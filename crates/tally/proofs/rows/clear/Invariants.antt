use Rattle.std.proofs.Common.{◌≡◌, ℕ, ◌<◌}
use Rattle.tally.specs.Rounds.{entry}
use Rattle.tally.proofs.rows.clear.Given as goal

abbrev pub invariant-loop-entry : goal.invariant-loop-entry
invariant-loop-entry g l =
    let K = g.T.Tally.algebra in
    (i : ℕ) → i < l.entry-index → entry K l.entry-items i ≡ K.none
