use Rattle.std.proofs.Common.{◌≡◌, ℕ, ◌+◌, ltb, List, map, get_or, drop, sym, ap, ◌∙◌, subst, arith}
use Rattle.std.proofs.lemmas.List.{at_drop_more, at_drop_all}
use Rattle.program.specs.declared.Move.{Move}
use Rattle.program.specs.Meaning.{no_move}
use Rattle.program.specs.Graphs.{timed_move}
use Rattle.tally.specs.Walks.{among}
use Rattle.tctl.specs.Checker.{at, ◌and◌, ◌or◌}
use Rattle.settle.specs.Rows.{row, sort_of}
use Rattle.sheet.specs.Rows.{leads_into}
use Rattle.sheet.proofs.Sets.{into_step, or_none, row_at}
use Rattle.sheet.proofs.parts.mark_into.Goals as goal

pub loop-m-preserved : goal.loop-m-preserved
loop-m-preserved c =
    let n = c.args.n in
    let xs = c.loop-m.has in
    let ys = c.mark_one.new.has in
    let moves = c.args.moves.now in
    let sort = sort_of c.args.sort in
    let set = row n c.args.set.now in
    let i = c.loop-m.m-index in
    let m : Move = get_or moves i no_move in
    let within = c.requires.within i c.loop-m-test.true in
    let left = λ (ms : List Move) (s : ℕ). leads_into c.args.sort n ms c.args.set.now s in (
      (λ s h.
          into_step sort set (timed_move m) (map timed_move (drop (i + 1) moves)) s (among xs s) (among ys s)
          (λ e.
          subst (λ (z : ℕ). among ys z ≡ (among xs z or (sort (timed_move m) and at set m.enters))) e
          (c.mark_one.ensures.marked
          ∙ ap (λ z. among xs m.leaves or (sort (timed_move m) and z))
          (sym (row_at n c.args.set.now m.enters within.1))))
          (λ ne. ap (ltb 0) (c.mark_one.ensures.others s (λ e. ne (sym e))))
          ∙ ap (λ b. among xs s or b) (sym (at_drop_more (λ (ms : List Move). left ms s) moves i no_move
          c.loop-m-test.true))
          ∙ c.loop-m.invariant.0 s h),
      (λ j h. c.mark_one.ensures.others j (λ e. omega (arith, within.0)) ∙ c.loop-m.invariant.1 j h),
    )

pub returns : goal.returns
returns c =
    let has = c.loop-m.has in
    let left = λ (ms : List Move) (s : ℕ). leads_into c.args.sort c.args.n ms c.args.set.now s in
    record {
      marked = λ s h.
          sym (or_none (among has s))
          ∙ ap (λ b. among has s or b)
          (sym (at_drop_all (λ (ms : List Move). left ms s) c.args.moves.now c.loop-m.m-index
          c.loop-m-test.false))
          ∙ c.loop-m.invariant.0 s h;
      above = c.loop-m.invariant.1;
    }
