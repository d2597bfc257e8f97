use Rattle.std.proofs.Common.{◌≡◌, ℕ, map, drop}
use Rattle.tctl.specs.Checker.{any_move, into, ◌or◌}
use Rattle.program.specs.Graphs.{timed_move}
use Rattle.sheet.specs.Sets.{has, listed, stage_count}
use Rattle.sheet.proofs.stage_set.StageSet.add_sources.Given as goal

-- with the moves that are left, each stage is in the set that is by all of them
abbrev pub invariant-loop-m : goal.invariant-loop-m
invariant-loop-m l =
    let n = stage_count l.paths in
    let set = listed n l.set in
    let moves = l.paths.moves.now in
    (s : ℕ) → (has l.self s or into any_move (map timed_move (drop l.m-index moves)) set s)
    ≡ (has l.initial.self s or into any_move (map timed_move moves) set s)
