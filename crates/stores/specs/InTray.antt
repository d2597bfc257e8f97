-- A tray read off its fields: its program, its room, and the loan that it holds.
use Rattle.std.specs.Prelude.{◌≡◌, ℕ, Result}
use Rattle.program.specs.declared.EditFault.{EditFault}
use Rattle.program.specs.Meaning.{Prog}
use Rattle.program.specs.Edits.{Caps, Does, open_step, mark_step, lay_step, cut_step, join_step}
use Rattle.program.specs.Tidy.{Tidy, StaysTidy}
use Rattle.stores.specs.declared.tray.Tray.{Tray}
use Rattle.stores.specs.Trays.{areas_prog, areas_room, SameLengths}

abbrev pub tray_meaning : Tray → Prog
tray_meaning t = areas_prog t.stage_count t.move_count t.areas.now

abbrev pub tray_room : Tray → Caps
tray_room t = areas_room t.areas.now

-- An edit that answers r takes the tray t to u as its step says.
abbrev pub OpenDone : Tray → ℕ → Result ℕ EditFault → Tray → Type 0
OpenDone t m r u = Does (open_step (tray_room t) (tray_meaning t) m) r (tray_meaning u)

abbrev pub MarkDone : Tray → ℕ → ℕ → Result ℕ EditFault → Tray → Type 0
MarkDone t s m r u = Does (mark_step (tray_meaning t) s m) r (tray_meaning u)

abbrev pub LayDone : Tray → ℕ → ℕ → ℕ → Result ℕ EditFault → Tray → Type 0
LayDone t s d e r u = Does (lay_step (tray_room t) (tray_meaning t) s d e) r (tray_meaning u)

abbrev pub CutDone : Tray → ℕ → ℕ → Result ℕ EditFault → Tray → Type 0
CutDone t k a r u = Does (cut_step (tray_room t) (tray_meaning t) k a) r (tray_meaning u)

abbrev pub JoinDone : Tray → Result ℕ EditFault → Tray → Type 0
JoinDone t r u = Tidy (tray_meaning t) → Does (join_step (tray_meaning t)) r (tray_meaning u)

-- A tidy program in t is a tidy program in u.
abbrev pub KeepsTidy : Tray → Tray → Type 0
KeepsTidy t u = StaysTidy (tray_meaning t) (tray_meaning u)

-- Two moments of a tray: it holds the same loan, of areas that are as long as they were.
pub record SameLoan (t u : Tray) : Type 0 where
  pub loan : u.areas.ghost_name ≡ t.areas.ghost_name
  pub long : SameLengths t.areas.now u.areas.now
