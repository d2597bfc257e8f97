-- A table of pieces: entry k is the first piece of move k. What it makes of a program.
use Rattle.std.specs.Prelude.{◌≡◌, ℕ, suc, ◌+◌, ◌-◌, ◌<◌, List, [], ◌∷◌, ◌++◌, length, replicate, slice_index}
use Rattle.program.specs.declared.Move.{Move}
use Rattle.program.specs.Meaning.{Prog, move_at, most_moves}
use Rattle.views.specs.declared.minute.Lengths.{Lengths}
use Rattle.views.specs.Minutes.{made_by, inside, silent_stage, if_within}

abbrev pub first_piece : List ℕ → ℕ → ℕ
first_piece es k = slice_index es k

-- Each move has a piece.
abbrev pub Rising : List ℕ → Type 0
Rising es = (k : ℕ) → k < most_moves → first_piece es k < first_piece es (k + 1)

-- The table goes by the minutes of a program's moves.
abbrev pub ByMinutes : List ℕ → Prog → Type 0
ByMinutes es p = (k : ℕ) → k < most_moves → first_piece es (k + 1) ≡ first_piece es k + suc (inside (move_at p k))

-- The new stages that the moves before move k go through: one less than pieces each.
abbrev pub new_before : List ℕ → ℕ → ℕ
new_before es k = first_piece es k - k

-- The new stages that move k goes through.
abbrev pub between : List ℕ → ℕ → ℕ
between es k = first_piece es (k + 1) - first_piece es k - 1

-- Moves from the k-th on, each through as many new stages as the table says. There are n old stages.
abbrev pub table_moves : List ℕ → ℕ → ℕ → List Move → List Move
table_moves es n k [] = []
table_moves es n k (m ∷ ms) = made_by (between es k) m (n + new_before es k) ++ table_moves es n (k + 1) ms

abbrev pub table_prog : List ℕ → Prog → Prog
table_prog es p =
    record {
      stages = p.stages ++ replicate (new_before es (length p.moves)) silent_stage;
      moves = table_moves es (length p.stages) 0 p.moves;
    }

abbrev pub viewed : List ℕ → Prog → Prog
viewed es p = if_within (table_prog es p)

-- The lengths of a program's two lists.
pub record LengthsOf (p : Prog) (l : Lengths) : Type 0 where
  pub stages : l.stages ≡ length p.stages
  pub moves : l.moves ≡ length p.moves
