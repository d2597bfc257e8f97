-- The memory of a desk.
use Rattle.std.specs.Prelude.{replicate}
use Rattle.tally.specs.Algebras.{reach_algebra, shortest_algebra, longest_algebra}
use Rattle.checker.specs.declared.desk.Desk.{Desk}
use Rattle.checker.specs.Outcomes.{Memory, memory}

abbrev pub on_desk : Desk → Memory
on_desk d = memory d.sheet d.reached d.shortest d.longest

-- Of a desk that nothing was checked at: no line holds, and there is no walk.
abbrev pub blank_desk : Memory
blank_desk =
    memory (replicate 1024 0) (replicate 4096 reach_algebra.none) (replicate 4096 shortest_algebra.none)
    (replicate 4096 longest_algebra.none)
