-- Timed graphs: stages, and the moves between them. A graph has no limit of size.
use Rattle.std.specs.Prelude.{ℕ, Bool, false, T, List, length, slice_index_or}

-- A stage bears marks, bit by bit (mark a is bit 0), and is shown (open) or not (silent). A silent stage only joins
-- the pieces of one hold: no rule holds there, and no run is looked at there.
pub record Stage : Type 0 where
  pub marks : ℕ
  pub shown : Bool

-- A move leaves a stage, takes some minutes and enters a stage. Stages go by their places in the list.
pub record Move : Type 0 where
  pub leaves : ℕ
  pub minutes : ℕ
  pub enters : ℕ

pub record Graph : Type 0 where
  pub stages : List Stage
  pub moves : List Move

abbrev pub size : Graph → ℕ
size p = length p.stages

abbrev pub count : Graph → ℕ
count p = length p.moves

abbrev pub stage_at : Graph → ℕ → Stage
stage_at p s = slice_index_or p.stages s (record { marks = 0; shown = false })

abbrev pub move_at : Graph → ℕ → Move
move_at p m = slice_index_or p.moves m (record { leaves = 0; minutes = 0; enters = 0 })

-- The stage at place s is open. (Past the last stage there is none that is.)
abbrev pub Open : Graph → ℕ → Type 0
Open p s = T (stage_at p s).shown
