use Rattle.std.proofs.Common.{◌<◌, Some, ◌∙◌, rules, arith}
use Rattle.std.proofs.lemmas.List.{length-set}
use Rattle.program.specs.Meaning.{most_stages}
use Rattle.settle.specs.Chains.{link_at}
use Rattle.settle.proofs.Chains.{chaining_none, chaining_more, end_within}
use Rattle.settle.proofs.links.Links.chain.Goals as goal

pub loop-k-init : goal.loop-k-init
loop-k-init c =
    let links = c.args.self.now in (
      chaining_none c.args.end c.args.moves.now links.first links.next c.requires.none,
      search rules,
      search rules,
    )

pub loop-k-preserved : goal.loop-k-preserved
loop-k-preserved c =
    let end = c.args.end in
    let moves = c.args.moves.now in
    let k = c.loop-k.k in
    let stage = c.from-stage.result in
    let at_end = c.from-stage.ensures ∙ c.end.ensures in
    let first = c.loop-k.self.first in
    let next = c.loop-k.self.next in
    let few = c.requires.moves in
    let few_stages = c.requires.stages in
    let low : stage < most_stages =
    omega (arith, at_end, end_within end c.args.stages moves c.requires.within k c.loop-k-test.true) in (
      chaining_more end moves k stage first next at_end (omega arith) (omega arith) low c.loop-k.invariant.0,
      length-set first stage (Some k) ∙ c.loop-k.invariant.1,
      length-set next k (link_at first stage) ∙ c.loop-k.invariant.2,
    )
