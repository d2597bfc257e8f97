use Rattle.std.proofs.Common.{◌≡◌, ℕ, ◌<◌}
use Rattle.tally.specs.Walks.{among}
use Rattle.tally.specs.Rounds.{begins, entry}
use Rattle.tally.proofs.rows.begin_row.Given as goal

abbrev pub invariant-loop-s : goal.invariant-loop-s
invariant-loop-s g l =
    let K = g.T.Tally.algebra in
    (s : ℕ) → s < l.s → entry K l.entry-items s ≡ begins K (among l.goals) s
