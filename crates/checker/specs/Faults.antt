-- The plain numbers of a check's refusal: its number, the part that it lies in, and the stage that it names.
use Rattle.std.specs.Prelude.{ℕ}
use Rattle.reader.specs.Answer as reader
use Rattle.checker.specs.declared.faults.CheckFault.{CheckFault}
use Rattle.checker.specs.declared.faults.CheckFault.TheVariants.{Text, NoStage, DeadEnd, StillCycle, ShortMemory}

abbrev pub fault_number : CheckFault → ℕ
fault_number (Text e) = reader.fault_number e
fault_number NoStage = 12
fault_number (DeadEnd s) = 13
fault_number (StillCycle s) = 14
fault_number ShortMemory = 15

-- 0 is the text, 1 the program, 2 the memory
abbrev pub fault_part : CheckFault → ℕ
fault_part (Text e) = 0
fault_part NoStage = 1
fault_part (DeadEnd s) = 1
fault_part (StillCycle s) = 1
fault_part ShortMemory = 2

-- the stage that is named, or 0
abbrev pub fault_stage : CheckFault → ℕ
fault_stage (Text e) = 0
fault_stage NoStage = 0
fault_stage (DeadEnd s) = s
fault_stage (StillCycle s) = s
fault_stage ShortMemory = 0
