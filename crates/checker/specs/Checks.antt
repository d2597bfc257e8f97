-- What a check of a text answers, and what the memory holds then.
use Rattle.std.specs.Prelude.{◌≡◌, ℕ, ◌≤◌, List, length, Ok, Err, Result}
use Rattle.program.specs.Meaning.{Prog}
use Rattle.rules.specs.Lines.{most_lines}
use Rattle.rules.specs.Postorder.{lines_of, Small}
use Rattle.tctl.specs.Rules.{Rule}
use Rattle.reader.specs.Grammar.{Reading}
use Rattle.reader.specs.Answer.{longest}
use Rattle.reader.specs.Answer as reader
use Rattle.checker.specs.declared.faults.CheckFault.{CheckFault}
use Rattle.checker.specs.declared.faults.CheckFault.TheVariants.{Text, NoStage, DeadEnd, StillCycle, ShortMemory}
use Rattle.checker.specs.Outcomes.{Memory, Outcome}

-- The text is read as a rule, which is within the limits.
pub record Reads (text : List ℕ) (rule : Rule) : Type 0 where
  pub short : length text ≤ longest
  pub reading : Reading text rule
  pub small : Small (lines_of rule)
  pub few : length (lines_of rule) ≤ most_lines

-- The check of the lines of the rule that the text is read as.
abbrev pub Checks : Prog → List ℕ → Memory → Memory → Result ℕ CheckFault → Type 0
Checks p text was after r = (rule : Rule) × Reads text rule × Outcome p (lines_of rule) was after r

-- The text is looked at first; a refusal leaves all memory as found.
abbrev pub Check : Prog → List ℕ → Memory → Memory → Result ℕ CheckFault → Type 0
Check p text was after (Ok k) = Checks p text was after (Ok k)
Check p text was after (Err (Text e)) = reader.Refused text e × (after ≡ was)
Check p text was after (Err NoStage) = Checks p text was after (Err NoStage)
Check p text was after (Err (DeadEnd s)) = Checks p text was after (Err (DeadEnd s))
Check p text was after (Err (StillCycle s)) = Checks p text was after (Err (StillCycle s))
Check p text was after (Err ShortMemory) = Checks p text was after (Err ShortMemory)
