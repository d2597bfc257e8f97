-- Cutting changes no verdict: the theorems that the crate's functions state.
use Rattle.std.specs.Prelude.{ℕ, ◌<◌, ◌≤◌, ◌↔◌, length}
use Rattle.tctl.specs.Graph.{Graph}
use Rattle.tctl.specs.Runs.{Ends, Sound}
use Rattle.tctl.specs.Rules.{Rule}
use Rattle.tctl.specs.Holds.{Holds}
use Rattle.tctl.specs.Refine.{Refines}
use Rattle.program.specs.Meaning.{Prog, move_at}
use Rattle.program.specs.declared.edit.Edit.{Edit}
use Rattle.program.specs.Edits.{Caps, with_cut, with_join, last_stage, cut_step, join_step}
use Rattle.program.specs.Steps.{step}
use Rattle.program.specs.Graphs.{graph}
use Rattle.program.specs.Tidy.{Tidy, SilentAt}
use Rattle.cutting.specs.Minute.{minute}

-- The same rules hold at the same stages. (The rule 1 holds at the open stages, so these are the same.)
abbrev pub Alike : Graph → Graph → Type 0
Alike g h = (f : Rule) (s : ℕ) → Holds g f s ↔ Holds h f s

-- A refinement is like what it refines.
abbrev pub RefinedAlike : Type 0
RefinedAlike = (g h : Graph) → Ends g → Refines g h → Alike g h

-- The minute program refines the program.
abbrev pub MinuteRefines : Type 0
MinuteRefines = (g : Graph) → Ends g → Refines g (minute g)

-- A cut gives a program that refines the one before.
abbrev pub CutRefines : Type 0
CutRefines =
    (p : Prog) → Ends (graph p) → (k a : ℕ) → k < length p.moves → a ≤ (move_at p k).minutes
    → Refines (graph p) (graph (with_cut p k a))

-- A join is a cut read backwards.
abbrev pub JoinRefines : Type 0
JoinRefines = (p : Prog) → Tidy p → SilentAt p (last_stage p) → Refines (graph (with_join p)) (graph p)

-- The same rules hold at the same stages, and both may be checked, or neither.
pub record Agree (g h : Graph) : Type 0 where
  pub alike : Alike g h
  pub sound : Sound g ↔ Sound h

-- A cut, a join, and going minute by minute: none changes a verdict.
pub record SameVerdicts : Type 0 where
  pub after_cut : (caps : Caps) (p : Prog) (k a : ℕ) → Tidy p → Agree (graph p) (graph (cut_step caps p k a).after)
  pub after_join : (p : Prog) → Tidy p → Agree (graph p) (graph (join_step p).after)
  pub by_the_minute : (p : Prog) → Tidy p → Agree (graph p) (minute (graph p))

-- Each edit keeps a program tidy.
abbrev pub EditsTidy : Type 0
EditsTidy = (caps : Caps) (p : Prog) (e : Edit) → Tidy p → Tidy (step caps p e).after
