-- The lines of a page, and how each is written (without the byte 10 that ends it).
use Rattle.std.specs.Prelude.{ℕ, List, ◌∷◌, ◌++◌, codes, decimal}
use Rattle.layout.specs.declared.line.MoveLine.{MoveLine}
use Rattle.layout.specs.declared.line.PageLine.{PageLine}
use Rattle.layout.specs.declared.line.PageLine.TheVariants.{Stage, Move, Rule}
use Rattle.layout.specs.Numbers.{Small}
use Rattle.layout.specs.Letters.{letters, Sixteen}
use Rattle.layout.specs.Splits.{Lacks}

pub data Line : Type 0 where
  stage : ℕ → Line
  move : ℕ → ℕ → ℕ → Line
  rule : List ℕ → Line

abbrev pub write_move : MoveLine → List ℕ
write_move m = decimal m.leaves ++ 44 ∷ (decimal m.minutes ++ 44 ∷ decimal m.enters)

abbrev pub FitsMove : MoveLine → Type 0
FitsMove m = Small m.leaves × Small m.minutes × Small m.enters

abbrev pub move_line : ℕ → ℕ → ℕ → MoveLine
move_line leaves minutes enters = record { leaves = leaves; minutes = minutes; enters = enters }

abbrev pub write : Line → List ℕ
write (stage marks) = codes "stage=" ++ letters marks
write (move leaves minutes enters) = codes "move=" ++ write_move (move_line leaves minutes enters)
write (rule text) = codes "rule=" ++ text

-- The text of a rule may have any bytes but 10.
abbrev pub Fits : Line → Type 0
Fits (stage marks) = Sixteen marks
Fits (move leaves minutes enters) = FitsMove (move_line leaves minutes enters)
Fits (rule text) = Lacks 10 text

-- The line that a value of the code stands for.
abbrev pub line_of : PageLine → Line
line_of (Stage marks) = stage marks
line_of (Move m) = move m.leaves m.minutes m.enters
line_of (Rule text) = rule text.now
