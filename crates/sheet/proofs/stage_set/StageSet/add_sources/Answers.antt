use Rattle.std.proofs.Common.{◌+◌, List, map, get_or, drop, sym, ap, ◌∙◌, false, eqb}
use Rattle.std.proofs.lemmas.List.{at_drop_more, at_drop_all}
use Rattle.program.specs.declared.Move.{Move}
use Rattle.program.specs.Meaning.{no_move}
use Rattle.program.specs.Graphs.{timed_move}
use Rattle.tctl.specs.Checker.{any_move, into, ◌or◌, ◌and◌}
use Rattle.tctl.proofs.Basics.{table_at}
use Rattle.sheet.specs.Sets.{has, listed, stage_count}
use Rattle.sheet.proofs.Sets.{into_add, or_none}
use Rattle.sheet.proofs.stage_set.StageSet.add_sources.Goals as goal

pub loop-m-preserved : goal.loop-m-preserved
loop-m-preserved c =
    let paths = c.args.paths.now in
    let n = stage_count paths in
    let moves = paths.moves.now in
    let i = c.loop-m.m-index in
    let m : Move = get_or moves i no_move in
    let ends = paths.within i c.loop-m-test.true in
    let set = listed n c.args.set.now in
    let was = c.loop-m.self in
    let next = c.add_source.new.self in
    λ s.
    into_add any_move set (timed_move m) (map timed_move (drop (i + 1) moves)) s (has was s) (has next s)
    (c.add_source.ensures s
    ∙ ap (λ b. has was s or (eqb m.leaves s and b)) (sym (table_at (has c.args.set.now) false n m.enters ends.1)))
    ∙ ap (λ b. has was s or b)
    (sym (at_drop_more (λ (ms : List Move). into any_move (map timed_move ms) set s) moves i no_move
    c.loop-m-test.true))
    ∙ c.loop-m.invariant s

pub returns : goal.returns
returns c =
    let paths = c.args.paths.now in
    let set = listed (stage_count paths) c.args.set.now in
    let found = c.loop-m.self in
    λ s.
    sym (or_none (has found s))
    ∙ ap (λ b. has found s or b)
    (sym (at_drop_all (λ (ms : List Move). into any_move (map timed_move ms) set s) paths.moves.now
    c.loop-m.m-index c.loop-m-test.false))
    ∙ c.loop-m.invariant s
