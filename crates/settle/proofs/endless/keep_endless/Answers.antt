use Rattle.std.proofs.Common.{◌≡◌, sym, subst}
use Rattle.program.specs.Graphs.{graph_of}
use Rattle.tally.specs.Walks.{among}
use Rattle.tally.specs.Rounds.{Within}
use Rattle.tctl.specs.Checker.{endless}
use Rattle.settle.specs.Rows.{row, sort_of}
use Rattle.settle.specs.Removals.{WatchingBelow}
use Rattle.settle.proofs.Greatest.{endless_left}
use Rattle.settle.proofs.endless.keep_endless.Goals as goal

pub returns : goal.returns
returns c =
    let chained = c.args.chained.now in
    let moves = chained.moves.now in
    let sort = c.args.sort in
    let was = c.args.set.now in
    let after = c.run.new.set in
    let r = c.run.ensures in
    record {
      left = λ stages many.
          subst (λ n. row n after ≡ endless (graph_of stages moves) (sort_of sort) (row n was) n) many
          (endless_left stages moves (subst (λ n. Within n moves) (sym many) chained.linked.leaves.within) sort
          was after c.run.new.self r.shrinks
          (subst (λ n. WatchingBelow n sort moves (among after) (λ k. ⊥) c.run.new.self) (sym many) r.watching));
      above = r.rest;
    }
