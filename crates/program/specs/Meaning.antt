-- What a program is: two lists. Limits of size are a predicate of their own.
use Rattle.std.specs.Prelude.{ℕ, ◌<◌, ◌≤◌, List, [], length, slice_index_or}
use Rattle.program.specs.declared.Kind.TheVariants.{Open}
use Rattle.program.specs.declared.Stage.{Stage}
use Rattle.program.specs.declared.Move.{Move}

pub record Prog : Type 0 where
  pub stages : List Stage
  pub moves : List Move

-- The program of two lists.
abbrev pub prog : List Stage → List Move → Prog
prog stages moves = record { stages = stages; moves = moves }

abbrev pub empty : Prog
empty = record { stages = []; moves = [] }

-- What a number not below the count is answered by.
abbrev pub no_stage : Stage
no_stage = record { marks = 0; kind = Open }

abbrev pub no_move : Move
no_move = record { leaves = 0; minutes = 0; enters = 0 }

abbrev pub stage_at : Prog → ℕ → Stage
stage_at p s = slice_index_or p.stages s no_stage

abbrev pub move_at : Prog → ℕ → Move
move_at p k = slice_index_or p.moves k no_move

abbrev pub most_stages : ℕ
most_stages = 1024

abbrev pub most_moves : ℕ
most_moves = 4096

-- a week
abbrev pub most_minutes : ℕ
most_minutes = 10080

-- A move that n stages allow: both ends are stages, and it is not too long.
abbrev pub Fits : ℕ → Move → Type 0
Fits n m = (m.leaves < n) × (m.enters < n) × (m.minutes ≤ most_minutes)

-- What lists keep of which each move joins two of the stages, whatever minutes it takes.
pub record Joined (p : Prog) : Type 0 where
  pub few_stages : length p.stages ≤ most_stages
  pub few_moves : length p.moves ≤ most_moves
  pub ends : (k : ℕ) → k < length p.moves
      → ((move_at p k).leaves < length p.stages) × ((move_at p k).enters < length p.stages)

-- What every readable program keeps.
pub record Limits (p : Prog) : Type 0 where
  pub few_stages : length p.stages ≤ most_stages
  pub few_moves : length p.moves ≤ most_moves
  pub ends : (k : ℕ) → k < length p.moves → Fits (length p.stages) (move_at p k)
