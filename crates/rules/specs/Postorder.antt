-- The lines of a rule: the nodes of its tree, each after its left part and its right part.
use Rattle.std.specs.Prelude.{◌≡◌, ℕ, ◌-◌, ◌<◌, ◌≤◌, List, [], ◌∷◌, ◌++◌, length, slice_index_or}
use Rattle.tctl.specs.Rules.{Rule, one, letter, not, both, either, some_run, each_run, most, least}
use Rattle.tctl.specs.Rules as tree
use Rattle.rules.specs.declared.line.Quantifier.TheVariants.{Some, All}
use Rattle.rules.specs.declared.line.Bound.{Bound}
use Rattle.rules.specs.declared.line.Bound.TheVariants.{AtMost, AtLeast}
use Rattle.rules.specs.declared.line.Line.{Line}
use Rattle.rules.specs.declared.line.Line.TheVariants.{One, Letter, Not, And, Or, Until}
use Rattle.rules.specs.Lines.{bound_number, largest_number, rule_at}

abbrev pub bound_line : tree.Bound → Bound
bound_line (most c) = AtMost c
bound_line (least c) = AtLeast c

-- The number of the last line.
abbrev pub last : List Line → ℕ
last ls = length ls - 1

-- A line after those of its one part, or after those of its left part ls and its right part rs.
abbrev pub after_one : (ℕ → Line) → List Line → List Line
after_one make ls = ls ++ (make (last ls) ∷ [])

abbrev pub after_two : (ℕ → ℕ → Line) → List Line → List Line → List Line
after_two make ls rs = rs ++ (make (last ls) (last rs) ∷ [])

-- Lines that stand already, and after them those of a rule.
abbrev pub put : Rule → List Line → List Line
put one ls = ls ++ (One ∷ [])
put (letter a) ls = ls ++ (Letter a ∷ [])
put (not f) ls = after_one Not (put f ls)
put (both f g) ls = after_two And (put f ls) (put g (put f ls))
put (either f g) ls = after_two Or (put f ls) (put g (put f ls))
put (some_run f b g) ls = after_two (λ i j. Until Some i (bound_line b) j) (put f ls) (put g (put f ls))
put (each_run f b g) ls = after_two (λ i j. Until All i (bound_line b) j) (put f ls) (put g (put f ls))

abbrev pub lines_of : Rule → List Line
lines_of f = put f []

-- The parts of a rule and the rule itself, in the same order.
abbrev pub parts_of : Rule → List Rule
parts_of one = one ∷ []
parts_of (letter a) = letter a ∷ []
parts_of (not f) = parts_of f ++ (not f ∷ [])
parts_of (both f g) = parts_of f ++ parts_of g ++ (both f g ∷ [])
parts_of (either f g) = parts_of f ++ parts_of g ++ (either f g ∷ [])
parts_of (some_run f b g) = parts_of f ++ parts_of g ++ (some_run f b g ∷ [])
parts_of (each_run f b g) = parts_of f ++ parts_of g ++ (each_run f b g ∷ [])

-- The number in a line, 0 where there is none.
abbrev pub line_number : Line → ℕ
line_number One = 0
line_number (Letter a) = 0
line_number (Not i) = 0
line_number (And i j) = 0
line_number (Or i j) = 0
line_number (Until q i b j) = bound_number b

-- No number in the lines is too large, or some number is.
abbrev pub Small : List Line → Type 0
Small ls = (k : ℕ) → k < length ls → line_number (slice_index_or ls k One) ≤ largest_number

abbrev pub Large : List Line → Type 0
Large ls = (k : ℕ) × (k < length ls) × (largest_number < line_number (slice_index_or ls k One))

-- The lines of a rule stand for its parts, one for each, and the last line for the rule itself.
pub record Stand (f : Rule) : Type 0 where
  pub count : length (lines_of f) ≡ length (parts_of f)
  pub each : (k : ℕ) → rule_at (lines_of f) k ≡ slice_index_or (parts_of f) k one
  pub whole : rule_at (lines_of f) (last (lines_of f)) ≡ f

abbrev pub LinesStand : Type 0
LinesStand = (f : Rule) → Stand f

-- Equal lines are those of one rule.
abbrev pub LinesTell : Type 0
LinesTell = (f g : Rule) → lines_of f ≡ lines_of g → f ≡ g
