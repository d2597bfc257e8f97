-- The plain numbers of the refusal of a page, and its words.
use Rattle.std.specs.Prelude.{ℕ, List, ◌++◌, codes, decimal}
use Rattle.program.specs.Edits as edits
use Rattle.layout.specs.declared.faults.PageFault.{PageFault}
use Rattle.layout.specs.declared.faults.PageFault.TheVariants.{TooLong, OutOfForm, Edit}

abbrev pub fault_number : PageFault → ℕ
fault_number TooLong = 16
fault_number (OutOfForm line) = 16
fault_number (Edit line fault) = edits.fault_number fault

-- The line that is refused, from 1; a page that is too long has 0.
abbrev pub fault_line : PageFault → ℕ
fault_line TooLong = 0
fault_line (OutOfForm line) = line
fault_line (Edit line fault) = line

abbrev pub fault_text : PageFault → List ℕ
fault_text TooLong = codes "it has more than " ++ (decimal 16384 ++ codes " bytes")
fault_text (OutOfForm line) = codes "line " ++ (decimal line ++ codes " is out of form")
fault_text (Edit line fault) = codes "at line " ++ (decimal line ++ (codes ", " ++ edits.fault_text fault))
