use Rattle.std.proofs.Common.{sym, ◌≡◌, ◌+◌, ◌∙◌, arith, rules}
use Rattle.layout.specs.declared.loading.Part.TheVariants.{Rules}
use Rattle.layout.specs.Lines.{line_of}
use Rattle.layout.specs.declared.faults.PageFault.TheVariants.{Edit}
use Rattle.std.proofs.lemmas.Result.{err_from_is_err_and}
use Rattle.layout.proofs.Loads.{few_lines, rule_more, other_more, breaks_edit, is_part, not_part, mapped_err, mapped_ok}
use Rattle.layout.proofs.loading.load.Goals as goal

pub overflow_add-number : goal.overflow_add-number
overflow_add-number g c = omega (arith, few_lines c.loop-rest.invariant.1)

pub returns-in_err-map_err : goal.returns-in_err-map_err
returns-in_err-map_err g c =
    let p = err_from_is_err_and c.from_residual-in_err-map_err.result c.from_residual-in_err-map_err.ensures.1 in
    let q =
    mapped_err _ c.edit.result c.map_err.result c.in_err-map_err.field-0.0 c.map_err.ensures.cases
    c.in_err-map_err.was in
    let e : c.in_err-map_err.field-0.0 ≡ Edit (c.loop-rest.number + 1) q.0 = search rules in
    let m = g.S.Program.meaning in
    let l = line_of c.in_ok-line.line in
    let next = rw c.in_ok-line.ensures.ok_part at c.next_line.ensures in
    rw (p.1, p.2, e)
    (breaks_edit c.loop-rest.invariant.1 l c.in_ok-line.after.now q.0 (m c.edit.new.store)
    (omega arith) next.0 next.1
    (rw (sym c.loop-rest.invariant.0, sym q.1) c.edit.ensures.does))

pub loop-rest-preserved-then-ne : goal.loop-rest-preserved-then-ne
loop-rest-preserved-then-ne g c =
    let m = g.S.Program.meaning in
    let l = line_of c.in_ok-line.line in
    let ok = mapped_ok _ c.edit.result c.map_err.result tt c.map_err.ensures.cases c.in_ok-map_err.was in
    let next = rw c.in_ok-line.ensures.ok_part at c.next_line.ensures in (
      c.edit.ensures.kept ∙ c.loop-rest.invariant.0,
      other_more c.loop-rest.invariant.1 l c.in_ok-line.after.now c.part_of-part.result (m c.edit.new.store)
          next.0 next.1 (rw (sym c.loop-rest.invariant.0, sym ok) c.edit.ensures.does) c.part_of-part.ensures
          (not_part c.part_of-part.result Rules c.ne.result c.ne.ensures c.if-ne.true),
    )

pub loop-rest-preserved : goal.loop-rest-preserved
loop-rest-preserved g c =
    let m = g.S.Program.meaning in
    let l = line_of c.in_ok-line.line in
    let ok = mapped_ok _ c.edit.result c.map_err.result tt c.map_err.ensures.cases c.in_ok-map_err.was in
    let next = rw c.in_ok-line.ensures.ok_part at c.next_line.ensures in (
      c.edit.ensures.kept ∙ c.loop-rest.invariant.0,
      rule_more c.loop-rest.invariant.1 l c.in_ok-line.after.now c.part_of-part.result (m c.edit.new.store)
          next.0 next.1 (rw (sym c.loop-rest.invariant.0, sym ok) c.edit.ensures.does) c.part_of-part.ensures
          (is_part c.part_of-part.result Rules c.ne.result c.ne.ensures c.if-ne.false),
    )
