use Rattle.std.proofs.Common.{replicate}
use Rattle.checker.specs.Outcomes.{memory}
use Rattle.checker.proofs.desk.Desk.new.Goals as goal

pub returns-clause-blank : goal.returns-clause-blank
returns-clause-blank c = λ i.
    memory (replicate 1024 0) (replicate 4096 (c.none.ensures i)) (replicate 4096 (c.none-2.ensures i))
    (replicate 4096 (c.none-3.ensures i))
