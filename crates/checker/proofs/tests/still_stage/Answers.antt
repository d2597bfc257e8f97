use Rattle.std.proofs.Common.{◌≡◌, ℕ, ◌<◌, ◌≤◌, Bool, true, ltb, List, length, replicate, sym, ap, subst, ◌∙◌, arith}
use Rattle.std.proofs.lemmas.List.{get_or-replicate, length-map}
use Rattle.program.specs.declared.Stage.{Stage}
use Rattle.program.specs.declared.Move.{Move}
use Rattle.program.specs.Meaning.{most_stages, prog}
use Rattle.program.specs.Graphs.{timed_stage, graph_of}
use Rattle.tally.specs.Walks.{among}
use Rattle.tally.specs.Rounds.{Within}
use Rattle.tctl.specs.Checker.{table, endless, still}
use Rattle.settle.specs.Rows.{row}
use Rattle.sheet.proofs.Sets.{table_same}
use Rattle.sheet.proofs.Cases.{in_row}
use Rattle.checker.specs.Found.{CycleFound}
use Rattle.checker.proofs.Finds.{rests, cycle_if, cycle_move, no_cycle}
use Rattle.checker.proofs.tests.still_stage.Goals as goal

-- what is left of all stages is what rests
left_rests : (stages : List Stage) (moves : List Move) (within : Within (length stages) moves) (set : List ℕ)
    → length stages ≤ most_stages
    → row (length stages) set ≡ endless (graph_of stages moves) still (row (length stages) (replicate most_stages 1))
    (length stages)
    → (s : ℕ) → s < length stages → among set s ≡ rests stages moves within s
left_rests stages moves within set few e =
    let n = length stages in
    let p = graph_of stages moves in
    let ones : List ℕ = replicate most_stages 1 in
    in_row n set (endless p still (table (length p.stages) (λ s. true)) (length p.stages))
    (e
    ∙ ap (λ (S : List Bool). endless p still S n)
    (table_same (among ones) (λ s. true) n (λ s h. ap (ltb 0) (get_or-replicate most_stages s 1 0 (omega arith))))
    ∙ ap (λ k. endless p still (table k (λ s. true)) k) (sym (length-map stages timed_stage)))

pub returns : goal.returns
returns c =
    let stages = c.args.paths.now.stages.now in
    let moves = c.args.paths.now.moves.now in
    let paths = c.args.paths.now in
    let set = c.keep_endless.new.set in
    let found = c.in_ok-first.ensures in
    cycle_if stages moves paths.within (among set)
    (left_rests stages moves paths.within set paths.few c.keep_endless.ensures.left)
    c.in_ok-first.first found.0 found.1 c.follow.result c.follow.ensures

pub returns-in_err-first : goal.returns-in_err-first
returns-in_err-first c =
    let stages = c.args.paths.now.stages.now in
    let moves = c.args.paths.now.moves.now in
    let paths = c.args.paths.now in
    let set = c.keep_endless.new.set in
    subst (CycleFound (prog stages moves)) (sym c.from_residual.ensures)
    (no_cycle stages moves paths.within
    (λ s l. sym (left_rests stages moves paths.within set paths.few c.keep_endless.ensures.left s l)
    ∙ c.in_err-first.ensures s l))

pub returns-then-not-has_still : goal.returns-then-not-has_still
returns-then-not-has_still c = λ s cycle.
    let paths = c.args.paths.now in
    let move = cycle_move paths.stages.now paths.moves.now paths.within s cycle in
    c.has_still.ensures c.if-not-has_still.true move.0 move.1 move.3
