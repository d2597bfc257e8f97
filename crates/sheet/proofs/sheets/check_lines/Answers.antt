use Rattle.std.proofs.Common.{◌≡◌, ℕ, ◌^◌, ◌<◌, Bool, T, length, get_or, sym, ap, ◌∙◌, subst, ⊎_elim, arith}
use Rattle.std.proofs.lemmas.Bool.{cases_eq}
use Rattle.std.proofs.lemmas.Grind.{common_steps}
use Rattle.tctl.specs.Checker.{at, where_holds}
use Rattle.tctl.proofs.Checked.{right}
use Rattle.rules.specs.declared.line.Line.TheVariants.{One}
use Rattle.rules.specs.Lines.{rule_at}
use Rattle.sheet.specs.Sets.{stage_count, timed}
use Rattle.sheet.specs.Sheets.{bit, column, line_list}
use Rattle.sheet.proofs.Sets.{table_stages, spent_more, same_more}
use Rattle.sheet.proofs.Bits.{column_at, column_kept, column_new, below_new}
use Rattle.sheet.proofs.Ruled.{column_is}
use Rattle.sheet.proofs.sheets.check_lines.Goals as goal

pub loop-k-preserved : goal.loop-k-preserved
loop-k-preserved c =
    let paths = c.args.paths.now in
    let p = timed paths in
    let n = stage_count paths in
    let lines = c.args.lines.now in
    let k = c.loop-k.k in
    let was = c.loop-k.sheet in
    let after = c.add_line.new.sheet in
    let L = line_list p (column n was) (get_or lines k One) in
    let done = c.loop-k.invariant.0 in
    let new = c.add_line.ensures in
    let formed = c.requires.formed k c.loop-k-test.true in (
      (λ j h.
          ⊎_elim
          (λ e.
          ap (column n after) e ∙ column_new n k was after L new.added c.loop-k.invariant.1
          ∙ table_stages (at L) paths.stages.now
          ∙ column_is p lines k (column n was) c.loop-k-test.true formed done
          ∙ ap (λ x. where_holds p (rule_at lines x)) (sym e))
          (λ ne. column_kept n k was after L new.added j (omega arith) ∙ done j (omega arith))
          (cases_eq j k)),
      below_new n k was after L new.added c.loop-k.invariant.1,
      (λ i h. new.above i h ∙ c.loop-k.invariant.2 i h),
      spent_more n _ _ _ c.loop-k.invariant.3 new.spent,
      same_more _ _ _ c.loop-k.invariant.4 new.slices,
    )

pub returns-clause-names : goal.returns-clause-names
returns-clause-names c =
    let p = timed c.args.paths.now in
    let n = stage_count c.args.paths.now in
    let lines = c.args.lines.now in
    let after = c.loop-k.sheet in
    let ends : c.loop-k.k ≡ length lines = omega arith in
    let said : (k : ℕ) → k < length lines → (s : ℕ) → s < n → bit k (get_or after s 0)
    ≡ at (where_holds p (rule_at lines k)) s = λ k h s l.
    column_at n after k s l ∙ ap (λ x. at x s) (c.loop-k.invariant.0 k (omega arith)) in
    record {
      exact = λ k h s l.
          let e = said k h s l in
          let r = right p c.requires.sound (rule_at lines k) s in
          ((λ t. r.0 (subst (λ (b : Bool). T b) e t)), (λ t. subst (λ (b : Bool). T b) (sym e) (r.1 t)));
      no_other = λ s h. subst (λ x. get_or after s 0 < 2 ^ x) ends (c.loop-k.invariant.1 s h);
      rest = λ i h. c.loop-k.invariant.2 i h ∙ grind (arith, common_steps);
    }
