-- The program that the areas of a tray hold, and the room in them.
use Rattle.std.specs.Prelude.{◌≡◌, ℕ, ◌/◌, min, vec_items, vec_len}
use Rattle.program.specs.Meaning.{Prog, prog, most_stages, most_moves}
use Rattle.program.specs.Edits.{Caps}
use Rattle.stores.specs.declared.tray.areas.Areas.{Areas}
use Rattle.stores.specs.Areas.{bytes, in_use, filled}
use Rattle.stores.specs.Records.{stage_layout, move_layout}

-- n stages and k moves in use
abbrev pub areas_prog : ℕ → ℕ → Areas → Prog
areas_prog n k a = prog (in_use stage_layout n (vec_items a.stages)) (in_use move_layout k (vec_items a.moves))

-- how many stages and moves areas of so many bytes have room for
abbrev pub room_for_stages : ℕ → ℕ
room_for_stages len = min (len / 4) most_stages

abbrev pub room_for_moves : ℕ → ℕ
room_for_moves len = min (len / 8) most_moves

abbrev pub areas_room : Areas → Caps
areas_room a = record { stages = room_for_stages (vec_len a.stages); moves = room_for_moves (vec_len a.moves) }

pub record SameLengths (before after : Areas) : Type 0 where
  pub stages : vec_len after.stages ≡ vec_len before.stages
  pub moves : vec_len after.moves ≡ vec_len before.moves

-- The areas hold the records of a program from their start, and zeros behind them.
pub record Image (p : Prog) (a : Areas) : Type 0 where
  pub stages : vec_items a.stages ≡ filled (vec_len a.stages) (bytes stage_layout p.stages)
  pub moves : vec_items a.moves ≡ filled (vec_len a.moves) (bytes move_layout p.moves)
