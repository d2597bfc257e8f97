-- The sheet of a check: the lines that hold at each stage, bit by bit.
use Rattle.std.specs.Prelude.{◌≡◌, ℕ, ◌+◌, ◌/◌, ◌%◌, ◌^◌, ◌<◌, ◌≤◌, Bool, cond, T, ◌↔◌, List, length, ◌==◌, slice_index}
use Rattle.program.specs.Meaning.{Prog}
use Rattle.program.specs.Graphs.{graph}
use Rattle.tctl.specs.Graph.{Graph, size}
use Rattle.tctl.specs.Rules.{most, least}
use Rattle.tctl.specs.Holds.{marked, Holds}
use Rattle.tctl.specs.Checker.{table, at, open?, non, some_list, each_list, ◌and◌, ◌or◌}
use Rattle.rules.specs.declared.line.Quantifier.{Quantifier}
use Rattle.rules.specs.declared.line.Quantifier.TheVariants as quantifier
use Rattle.rules.specs.declared.line.Bound.{Bound}
use Rattle.rules.specs.declared.line.Bound.TheVariants as bound
use Rattle.rules.specs.declared.line.Line.{Line}
use Rattle.rules.specs.declared.line.Line.TheVariants as line
use Rattle.rules.specs.Lines.{rule_at}

-- Bit k of a word.
abbrev pub bit : ℕ → ℕ → Bool
bit k w = (w / 2 ^ k) % 2 == 1

-- Bit k of word s is 1 exactly if line k holds at stage s; no other bit is; words past the stages are as found.
pub record Names (p : Prog) (lines : List Line) (was after : List ℕ) : Type 0 where
  pub exact :
      (k : ℕ) → k < length lines → (s : ℕ) → s < length p.stages
      → T (bit k (slice_index after s)) ↔ Holds (graph p) (rule_at lines k) s
  pub no_other : (s : ℕ) → s < length p.stages → slice_index after s < 2 ^ length lines
  pub rest : (i : ℕ) → length p.stages ≤ i → slice_index after i ≡ slice_index was i

-- The stages that a sheet names for line k.
abbrev pub column : ℕ → List ℕ → ℕ → List Bool
column n sheet k = table n (λ s. bit k (slice_index sheet s))

-- Where an until holds, from where its parts do.
abbrev pub until_list : Graph → Quantifier → Bound → List Bool → List Bool → List Bool
until_list p quantifier.Some (bound.AtMost c) f g = some_list p f (most c) g
until_list p quantifier.Some (bound.AtLeast c) f g = some_list p f (least c) g
until_list p quantifier.All (bound.AtMost c) f g = each_list p f (most c) g
until_list p quantifier.All (bound.AtLeast c) f g = each_list p f (least c) g

-- Where a line holds, from where its parts do.
abbrev pub line_list : Graph → (ℕ → List Bool) → Line → List Bool
line_list p col line.One = table (size p) (λ s. open? p s)
line_list p col (line.Letter a) = table (size p) (λ s. open? p s and marked p s a)
line_list p col (line.Not i) = table (size p) (λ s. open? p s and non (at (col i) s))
line_list p col (line.And i j) = table (size p) (λ s. at (col i) s and at (col j) s)
line_list p col (line.Or i j) = table (size p) (λ s. at (col i) s or at (col j) s)
line_list p col (line.Until q i b j) = until_list p q b (col i) (col j)

-- The first n words of a sheet have bit k besides where a set has the stage.
abbrev pub Added : ℕ → ℕ → (ℕ → Bool) → List ℕ → List ℕ → Type 0
Added n k holds was after = (s : ℕ) → s < n → slice_index after s ≡ slice_index was s + cond (holds s) (2 ^ k) 0

-- The first n words of a sheet have no bit from k on.
abbrev pub Below : ℕ → ℕ → List ℕ → Type 0
Below n k sheet = (s : ℕ) → s < n → slice_index sheet s < 2 ^ k
