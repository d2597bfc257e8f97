-- What a check of lines answers, and what the memory holds then.
use Rattle.std.specs.Prelude.{◌≡◌, ℕ, ◌*◌, ◌<◌, ◌≤◌, List, [], ◌∷◌, length, Ok, Err, Result}
use Rattle.program.specs.declared.Move.{Move}
use Rattle.program.specs.Meaning.{Prog, move_at}
use Rattle.rules.specs.declared.line.Line.{Line}
use Rattle.tally.specs.declared.Reach.{Reach}
use Rattle.tally.specs.declared.Minutes.{Minutes}
use Rattle.tally.specs.Algebras.{reach_algebra, shortest_algebra, longest_algebra}
use Rattle.tally.specs.Walks.{Has}
use Rattle.sheet.specs.declared.tables.Tables.{Tables}
use Rattle.sheet.specs.Told.{Spent}
use Rattle.sheet.specs.Sheets.{Names}
use Rattle.checker.specs.declared.faults.CheckFault.{CheckFault}
use Rattle.checker.specs.declared.faults.CheckFault.TheVariants.{Text, NoStage, DeadEnd, StillCycle, ShortMemory}

-- Some move leaves s.
abbrev pub Onward : Prog → ℕ → Type 0
Onward p s = (m : ℕ) × (m < length p.moves) × ((move_at p m).leaves ≡ s)

-- s is the lowest stage that no move leaves.
pub record IsDeadEnd (p : Prog) (s : ℕ) : Type 0 where
  pub stage : s < length p.stages
  pub ends : Onward p s → ⊥
  pub lowest : (t : ℕ) → t < s → Onward p t

-- A walk from s to t by moves that take no time.
abbrev pub StillWalk : List Move → ℕ → List Move → ℕ → Type 0
StillWalk moves s [] t = s ≡ t
StillWalk moves s (m ∷ w) t = Has moves m × (m.leaves ≡ s) × (m.minutes ≡ 0) × StillWalk moves m.enters w t

-- s is on a cycle of moves that take no time.
abbrev pub Cycle : Prog → ℕ → Type 0
Cycle p s = (w : List Move) × (0 < length w) × StillWalk p.moves s w s

-- Each stage has a move out.
abbrev pub AllOnward : Prog → Type 0
AllOnward p = (s : ℕ) → s < length p.stages → Onward p s

-- A program that rules can be checked on.
pub record Checkable (p : Prog) : Type 0 where
  pub some : 0 < length p.stages
  pub onward : AllOnward p
  pub moving : (s : ℕ) → Cycle p s → ⊥

-- The memory that a check is handed: the sheet, and a table for each tally.
pub record Memory : Type 0 where
  pub sheet : List ℕ
  pub reached : List Reach
  pub shortest : List (Minutes 0)
  pub longest : List (Minutes 1)

abbrev pub memory : List ℕ → List Reach → List (Minutes 0) → List (Minutes 1) → Memory
memory sheet reached shortest longest =
    record { sheet = sheet; reached = reached; shortest = shortest; longest = longest }

-- The memory that a sheet and tables are.
abbrev pub held : List ℕ → Tables → Memory
held sheet tables = memory sheet tables.reached.now tables.shortest.now tables.longest.now

-- A word a stage in the sheet, and four entries a stage in each table.
abbrev pub Enough : ℕ → Memory → Type 0
Enough n m =
    (n ≤ length m.sheet) × (4 * n ≤ length m.reached) × (4 * n ≤ length m.shortest)
    × (4 * n ≤ length m.longest)

-- A check is made.
abbrev pub Accepted : Prog → Memory → Type 0
Accepted p was = Checkable p × Enough (length p.stages) was

-- A check of lines is refused: the first fault that fits.
abbrev pub Refused : Prog → Memory → CheckFault → Type 0
Refused p was (Text e) = ⊥
Refused p was NoStage = length p.stages ≡ 0
Refused p was (DeadEnd s) = IsDeadEnd p s
Refused p was (StillCycle s) = AllOnward p × (s < length p.stages) × Cycle p s
Refused p was ShortMemory = Checkable p × (Enough (length p.stages) was → ⊥)

-- What a check that is made leaves: the sheet names exactly what holds, and in each table four entries a stage are
-- none.
pub record Made (p : Prog) (lines : List Line) (was after : Memory) : Type 0 where
  pub names : Names p lines was.sheet after.sheet
  pub reached : Spent reach_algebra.none (length p.stages) was.reached after.reached
  pub shortest : Spent shortest_algebra.none (length p.stages) was.shortest after.shortest
  pub longest : Spent longest_algebra.none (length p.stages) was.longest after.longest

-- The answer is the number of lines; a refusal leaves all memory as found.
abbrev pub Outcome : Prog → List Line → Memory → Memory → Result ℕ CheckFault → Type 0
Outcome p lines was after (Ok k) = Accepted p was × (k ≡ length lines) × Made p lines was after
Outcome p lines was after (Err e) = Refused p was e × (after ≡ was)
