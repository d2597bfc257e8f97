use Rattle.std.proofs.Common.{◌≡◌, suc, length, sym, ap, ◌∙◌, add-one, arith}
use Rattle.tctl.specs.Checker.{endless}
use Rattle.program.specs.Graphs.{graph_of}
use Rattle.settle.specs.Rows.{row, sort_of}
use Rattle.sheet.specs.Rows.{shrunk}
use Rattle.sheet.proofs.Sets.{endless_settled}
use Rattle.sheet.proofs.parts.keep_endless.Goals as goal

pub loop-done-preserved : goal.loop-done-preserved
loop-done-preserved c =
    let p = graph_of c.args.stages.now c.args.moves.now in
    let sort = sort_of c.args.sort in
    let set = row (length c.args.stages.now) c.args.set.now in (
      c.shrink.ensures.left ∙ ap (shrunk p sort) c.loop-done.invariant.0 ∙ ap (endless p sort set)
          (sym (add-one c.loop-done._done)),
      (λ j h. c.shrink.ensures.above j h ∙ c.loop-done.invariant.1 j h),
    )

pub returns-then-shrink : goal.returns-then-shrink
returns-then-shrink c =
    let n = length c.args.stages.now in
    let p = graph_of c.args.stages.now c.args.moves.now in
    let sort = sort_of c.args.sort in
    let set = row n c.args.set.now in
    let i = c.loop-done._done in
    let told = c.shrink.ensures.told c.if-shrink.true in
    let still : endless p sort set i ≡ endless p sort set (suc i) =
    sym c.loop-done.invariant.0 ∙ told ∙ c.shrink.ensures.left ∙ ap (shrunk p sort) c.loop-done.invariant.0 in
    record {
      left = sym told ∙ c.loop-done.invariant.0 ∙ endless_settled p sort set i still n (omega arith);
      above = λ j h. c.shrink.ensures.above j h ∙ c.loop-done.invariant.1 j h;
    }

pub returns : goal.returns
returns c =
    let n = length c.args.stages.now in
    let p = graph_of c.args.stages.now c.args.moves.now in
    let e : c.loop-done._done ≡ n = omega arith in
    record {
      left = c.loop-done.invariant.0 ∙ ap (endless p (sort_of c.args.sort) (row n c.args.set.now)) e;
      above = c.loop-done.invariant.1;
    }
