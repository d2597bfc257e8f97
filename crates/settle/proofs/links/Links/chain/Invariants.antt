use Rattle.std.proofs.Common.{◌≡◌, length}
use Rattle.program.specs.Meaning.{most_stages, most_moves}
use Rattle.settle.specs.Chains.{Chaining}
use Rattle.settle.proofs.links.Links.chain.Given as goal

abbrev pub invariant-loop-k : goal.invariant-loop-k
invariant-loop-k l =
    Chaining l.end l.moves l.k l.self.first l.self.next
    × (length l.self.first ≡ most_stages)
    × (length l.self.next ≡ most_moves)
