-- The rule that each line of a list stands for: the one way from the reader's lines to the trees of the theory.
use Rattle.std.specs.Prelude.{ℕ, ◌<◌, ◌≤◌, List, [], ◌∷◌, ◌++◌, length, slice_index_or}
use Rattle.tctl.specs.Rules.{Rule, one, letter, not, both, either, some_run, each_run, most, least}
use Rattle.rules.specs.declared.line.Quantifier.{Quantifier}
use Rattle.rules.specs.declared.line.Quantifier.TheVariants as quantifier
use Rattle.rules.specs.declared.line.Bound.{Bound}
use Rattle.rules.specs.declared.line.Bound.TheVariants as bound
use Rattle.rules.specs.declared.line.Line.{Line}
use Rattle.rules.specs.declared.line.Line.TheVariants as line

-- The most lines of a rule, and the largest number in one.
abbrev pub most_lines : ℕ
most_lines = 32

abbrev pub largest_number : ℕ
largest_number = 1000000

-- The rule of an until, from those of its parts.
abbrev pub until_rule : Quantifier → Bound → Rule → Rule → Rule
until_rule quantifier.Some (bound.AtMost c) f g = some_run f (most c) g
until_rule quantifier.Some (bound.AtLeast c) f g = some_run f (least c) g
until_rule quantifier.All (bound.AtMost c) f g = each_run f (most c) g
until_rule quantifier.All (bound.AtLeast c) f g = each_run f (least c) g

-- The rule of a line, from those of the lines before it.
abbrev pub rule_from : List Rule → Line → Rule
rule_from rs line.One = one
rule_from rs (line.Letter a) = letter a
rule_from rs (line.Not i) = not (slice_index_or rs i one)
rule_from rs (line.And i j) = both (slice_index_or rs i one) (slice_index_or rs j one)
rule_from rs (line.Or i j) = either (slice_index_or rs i one) (slice_index_or rs j one)
rule_from rs (line.Until q i b j) = until_rule q b (slice_index_or rs i one) (slice_index_or rs j one)

abbrev pub rules_of : List Rule → List Line → List Rule
rules_of rs [] = rs
rules_of rs (l ∷ ls) = rules_of (rs ++ (rule_from rs l ∷ [])) ls

-- The rule that line k stands for.
abbrev pub rule_at : List Line → ℕ → Rule
rule_at ls k = slice_index_or (rules_of [] ls) k one

abbrev pub bound_number : Bound → ℕ
bound_number (bound.AtMost c) = c
bound_number (bound.AtLeast c) = c

-- A line may stand at place k: its parts are earlier lines, its letter is one of sixteen, its number is not too large.
abbrev pub Formed : ℕ → Line → Type 0
Formed k line.One = Unit {0}
Formed k (line.Letter a) = a < 16
Formed k (line.Not i) = i < k
Formed k (line.And i j) = (i < k) × (j < k)
Formed k (line.Or i j) = (i < k) × (j < k)
Formed k (line.Until q i b j) = (i < k) × (j < k) × (bound_number b ≤ largest_number)

-- Each line of a list may stand where it does.
abbrev pub WellFormed : List Line → Type 0
WellFormed ls = (k : ℕ) → k < length ls → Formed k (slice_index_or ls k line.One)
