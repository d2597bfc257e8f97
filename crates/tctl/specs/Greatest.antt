-- What is left of a set from which stages are removed: the greatest part in which each stage has a move into the part.
use Rattle.std.specs.Prelude.{◌≡◌, ℕ, ◌<◌, Bool, T, ◌↔◌, List}
use Rattle.tctl.specs.Graph.{Graph, Move, count, move_at}
use Rattle.tctl.specs.Runs.{Run, stage_on}
use Rattle.tctl.specs.Checker.{at}

-- A move of the sort leads from s into the part.
pub record Leads (p : Graph) (sort : Move → Bool) (part : ℕ → Bool) (s : ℕ) : Type 0 where
  pub by : ℕ
  pub real : by < count p
  pub leaves : (move_at p by).leaves ≡ s
  pub sorted : T (sort (move_at p by))
  pub enters : T (part (move_at p by).enters)

-- Each stage of the part is in the set, and has a move of the sort into the part.
pub record Kept (p : Graph) (sort : Move → Bool) (set part : ℕ → Bool) : Type 0 where
  pub inside : (s : ℕ) → T (part s) → T (set s)
  pub onward : (s : ℕ) → T (part s) → Leads p sort part s

-- An endless walk from s, by moves of the sort, that stays in the set.
pub record Stays (p : Graph) (sort : Move → Bool) (set : ℕ → Bool) (s : ℕ) : Type 0 where
  pub run : Run p s
  pub sorted : (i : ℕ) → T (sort (move_at p (run.way i)))
  pub inside : (i : ℕ) → T (set (stage_on p run.way i))

-- The part is the greatest such one, and the stages from which such a walk starts.
pub record Greatest (p : Graph) (sort : Move → Bool) (set part : List Bool) : Type 0 where
  pub kept : Kept p sort (at set) (at part)
  pub most : (other : ℕ → Bool) → Kept p sort (at set) other → (s : ℕ) → T (other s) → T (at part s)
  pub walks : (s : ℕ) → T (at part s) ↔ Stays p sort (at set) s
