-- What a store allows: an edit is allowed, or the store refuses it as the edit's step says.
use Rattle.std.specs.Prelude.{◌≡◌, ℕ, ◌-◌, ◌<◌, ◌≤◌, true, length, Result, MatchResult}
use Rattle.program.specs.declared.Kind.TheVariants.{Open}
use Rattle.program.specs.declared.Stage.{Stage}
use Rattle.program.specs.declared.Move.{Move}
use Rattle.program.specs.declared.EditFault.{EditFault}
use Rattle.program.specs.Meaning.{Prog, Fits, stage_at, move_at, most_minutes}
use Rattle.program.specs.Edits.{Caps, is_open, leads, open_step, mark_step, lay_step, cut_step, refused}
use Rattle.stores.specs.declared.allowed.Pieces.{Pieces}

-- Each move has both ends among the stages, and is not too long.
abbrev pub Ends : Prog → Type 0
Ends p = (k : ℕ) → k < length p.moves → Fits (length p.stages) (move_at p k)

-- There is place for one more stage, and r is an open one with the marks m.
pub record OpenAllowed (capacity : ℕ) (p : Prog) (m : ℕ) (r : Stage) : Type 0 where
  pub fits : length p.stages < capacity
  pub is : r ≡ record { marks = m; kind = Open }

abbrev pub OpenTested : ℕ → Prog → ℕ → Result Stage EditFault → Type 0
OpenTested capacity p m r =
    MatchResult r (OpenAllowed capacity p m)
    (λ e. (caps : Caps) → caps.stages ≡ capacity → open_step caps p m ≡ refused e p)

-- The stage of number s is open, and r is that stage.
pub record MarkAllowed (p : Prog) (s : ℕ) (r : Stage) : Type 0 where
  pub stage : s < length p.stages
  pub shown : is_open (stage_at p s).kind ≡ true
  pub is : r ≡ stage_at p s

abbrev pub MarkTested : Prog → ℕ → Result Stage EditFault → Type 0
MarkTested p s r = MatchResult r (MarkAllowed p s) (λ e. (m : ℕ) → mark_step p s m ≡ refused e p)

-- Both ends are open stages, the minutes are few enough, there is place for one more move, and r is that move.
pub record LayAllowed (capacity : ℕ) (p : Prog) (s d t : ℕ) (r : Move) : Type 0 where
  pub leaves_stage : s < length p.stages
  pub enters_stage : t < length p.stages
  pub leaves_open : is_open (stage_at p s).kind ≡ true
  pub enters_open : is_open (stage_at p t).kind ≡ true
  pub short : d ≤ most_minutes
  pub fits : length p.moves < capacity
  pub is : r ≡ record { leaves = s; minutes = d; enters = t }

abbrev pub LayTested : ℕ → Prog → ℕ → ℕ → ℕ → Result Move EditFault → Type 0
LayTested capacity p s d t r =
    MatchResult r (LayAllowed capacity p s d t)
    (λ e. (caps : Caps) → caps.moves ≡ capacity → lay_step caps p s d t ≡ refused e p)

-- There is a move k, it takes a minutes at least, there is place for one more stage and move, and r is what a cut there
-- makes of the move, joined by a new last stage.
pub record CutAllowed (caps : Caps) (p : Prog) (k a : ℕ) (r : Pieces) : Type 0 where
  pub real : k < length p.moves
  pub inside : a ≤ (move_at p k).minutes
  pub stage_fits : length p.stages < caps.stages
  pub move_fits : length p.moves < caps.moves
  pub first : r.first ≡ leads (move_at p k).leaves a (length p.stages)
  pub second : r.second ≡ leads (length p.stages) ((move_at p k).minutes - a) (move_at p k).enters

abbrev pub CutTested : Caps → Prog → ℕ → ℕ → Result Pieces EditFault → Type 0
CutTested caps p k a r = MatchResult r (CutAllowed caps p k a) (λ e. cut_step caps p k a ≡ refused e p)
