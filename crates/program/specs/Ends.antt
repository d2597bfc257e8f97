-- The two ends of a move.
use Rattle.std.specs.Prelude.{ℕ}
use Rattle.program.specs.declared.End.{End}
use Rattle.program.specs.declared.End.TheVariants.{Leaves, Enters}
use Rattle.program.specs.declared.Move.{Move}

abbrev pub end_of : End → Move → ℕ
end_of Leaves m = m.leaves
end_of Enters m = m.enters
