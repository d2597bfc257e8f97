use Rattle.std.proofs.Common.{◌≡◌, ℕ, ◌+◌, ◌*◌, ◌<◌, cond, drop}
use Rattle.tally.specs.Walks.{among}
use Rattle.tally.specs.Rounds.{over, entry, all_poured, KeptBelow, KeptFrom}
use Rattle.tally.proofs.rows.pour.Given as goal

-- with what the moves that are left add, each entry of the second row is what all of them make of it
abbrev pub invariant-loop-m : goal.invariant-loop-m
invariant-loop-m g l =
    let K = g.T.Tally.algebra in
    let pass = among l.walks.pass.now in
    let left = λ (s : ℕ). cond (pass s) (over K (entry K l.initial.table) (drop l.m-index l.walks.moves.now) s)
    K.none in
    ((s : ℕ) → s < l.walks.stages
    → K.choice (entry K l.table (l.walks.stages + s)) (left s) ≡ all_poured K l.walks.moves.now pass l.walks.stages
    l.initial.table s)
    × KeptBelow K l.walks.stages l.initial.table l.table
    × KeptFrom K (2 * l.walks.stages) l.initial.table l.table
