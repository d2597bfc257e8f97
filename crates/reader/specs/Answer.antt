-- What the reader answers.
use Rattle.std.specs.Prelude.{◌≡◌, ℕ, ◌<◌, ◌≤◌, List, ◌++◌, length, take, codes, decimal, Ok, Err, Result}
use Rattle.tctl.specs.Rules as tree
use Rattle.rules.specs.declared.rule.Rule.{Rule}
use Rattle.rules.specs.Lines.{most_lines, largest_number}
use Rattle.rules.specs.Postorder.{lines_of, Small, Large}
use Rattle.reader.specs.declared.ReadFault.{ReadFault}
use Rattle.reader.specs.declared.ReadFault.TheVariants.{TooLong, NotARule, NumberTooLarge, TooManyLines}
use Rattle.reader.specs.Grammar.{Reading}

-- The most bytes of a text.
abbrev pub longest : ℕ
longest = 512

abbrev pub fault_number : ReadFault → ℕ
fault_number TooLong = 8
fault_number NotARule = 9
fault_number NumberTooLarge = 10
fault_number TooManyLines = 11

abbrev pub fault_text : ReadFault → List ℕ
fault_text TooLong = codes "the text has more than " ++ (decimal longest ++ codes " bytes")
fault_text NotARule = codes "the text is no rule"
fault_text NumberTooLarge = codes "a number is above " ++ decimal largest_number
fault_text TooManyLines = codes "the rule has more than " ++ (decimal most_lines ++ codes " lines")

-- The text is refused: the first fault that fits.
abbrev pub Refused : List ℕ → ReadFault → Type 0
Refused text TooLong = longest < length text
Refused text NotARule = (length text ≤ longest) × ((f : tree.Rule) → Reading text f → ⊥)
Refused text NumberTooLarge = (length text ≤ longest) × ((f : tree.Rule) × Reading text f × Large (lines_of f))
Refused text TooManyLines =
    (length text ≤ longest)
    × ((f : tree.Rule) × Reading text f × Small (lines_of f) × (most_lines < length (lines_of f)))

-- The text is read as a rule that has these lines.
pub record Accepted (text : List ℕ) (r : Rule) : Type 0 where
  pub short : length text ≤ longest
  pub rule : tree.Rule
  pub reading : Reading text rule
  pub small : Small (lines_of rule)
  pub few : length (lines_of rule) ≤ most_lines
  pub lines : take r.count r.lines ≡ lines_of rule

abbrev pub Answers : List ℕ → Result Rule ReadFault → Type 0
Answers text (Ok r) = Accepted text r
Answers text (Err e) = Refused text e

-- A text has at most one reading.
abbrev pub OneReading : Type 0
OneReading = (text : List ℕ) (f g : tree.Rule) → Reading text f → Reading text g → f ≡ g

-- The same answer: the same lines, or the same fault.
abbrev pub Same : Result Rule ReadFault → Result Rule ReadFault → Type 0
Same (Ok r) (Ok s) = take r.count r.lines ≡ take s.count s.lines
Same (Ok r) (Err e) = ⊥
Same (Err e) (Ok r) = ⊥
Same (Err d) (Err e) = d ≡ e

-- A text has one answer.
abbrev pub OneAnswer : Type 0
OneAnswer = (text : List ℕ) (r s : Result Rule ReadFault) → Answers text r → Answers text s → Same r s
