-- How a stage and a move lie in a tray's areas.
use Rattle.std.specs.Prelude.{◌≡◌, ℕ, zero, suc, ◌+◌, ◌*◌, ◌/◌, ◌%◌, List, [], ◌∷◌, ◌++◌, slice_index, refl}
use Rattle.std.proofs.Common.{arith}
use Rattle.program.specs.declared.Kind.{Kind}
use Rattle.program.specs.declared.Kind.TheVariants.{Open, Silent}
use Rattle.program.specs.declared.Stage.{Stage}
use Rattle.program.specs.declared.Move.{Move}
use Rattle.stores.specs.Areas.{Layout, Lawful, low_high, number_at}

abbrev pub kind_byte : Kind → ℕ
kind_byte Open = 0
kind_byte Silent = 1

abbrev pub read_kind : ℕ → Kind
read_kind zero = Open
read_kind (suc n) = Silent

-- marks, kind, a zero
abbrev pub stage_record : Stage → List ℕ
stage_record s = low_high s.marks ++ (kind_byte s.kind ∷ 0 ∷ [])

abbrev pub read_stage : List ℕ → Stage
read_stage bs = record { marks = number_at bs 0; kind = read_kind (slice_index bs 2) }

-- the stage left, the stage entered, minutes, a zero
abbrev pub move_record : Move → List ℕ
move_record m = low_high m.leaves ++ (low_high m.enters ++ (low_high m.minutes ++ (0 ∷ 0 ∷ [])))

abbrev pub read_move : List ℕ → Move
read_move bs = record { leaves = number_at bs 0; minutes = number_at bs 4; enters = number_at bs 2 }

abbrev pub stage_layout : Layout Stage
stage_layout = record { width = 4; write = stage_record; read = read_stage }

abbrev pub move_layout : Layout Move
move_layout = record { width = 8; write = move_record; read = read_move }

low_high_is : (n : ℕ) → n % 256 + 256 * (n / 256) ≡ n
low_high_is n = omega arith

read_kind-kind_byte : (k : Kind) → read_kind (kind_byte k) ≡ k
read_kind-kind_byte Open = refl
read_kind-kind_byte Silent = refl

-- The bytes of a stage and of a move read back as that stage and that move.
pub stage_lawful : Lawful stage_layout
stage_lawful = record { wide = λ s. refl; back = λ s _. rw (low_high_is s.marks, read_kind-kind_byte s.kind) }

pub move_lawful : Lawful move_layout
move_lawful =
    record { wide = λ m. refl; back = λ m _. rw (low_high_is m.leaves, low_high_is m.minutes, low_high_is m.enters) }
