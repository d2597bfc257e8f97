use Rattle.std.proofs.Common.{ℕ, ltb, length, sym, ap, ◌∙◌}
use Rattle.tally.specs.Walks.{among}
use Rattle.tctl.specs.Checker.{at, ◌and◌, ◌or◌}
use Rattle.settle.specs.Rows.{row}
use Rattle.sheet.specs.Rows.{leads_into}
use Rattle.sheet.proofs.Sets.{table_same, row_at, same_stages}
use Rattle.sheet.proofs.parts.shrink.Goals as goal

pub returns : goal.returns
returns c =
    let stages = c.args.stages.now in
    let n = length stages in
    let was = c.args.set.now in
    let enters = λ (s : ℕ). leads_into c.args.sort n c.args.moves.now was s in
    record {
      left =
          same_stages stages (among c.thin.new.set) (λ (s : ℕ). at (row n was) s and enters s)
          (λ s h.
          c.thin.ensures.thinned s h
          ∙ ap (λ x. x and among c.mark_into.new.has s) (sym (row_at n was s h))
          ∙ ap (λ x. at (row n was) s and x)
          (c.mark_into.ensures.marked s h ∙ ap (λ x. ltb 0 x or enters s) (c.erase.ensures.erased s h)));
      above = c.thin.ensures.above;
      told = λ t. table_same (among was) (among c.thin.new.set) n (c.thin.ensures.told t);
    }
