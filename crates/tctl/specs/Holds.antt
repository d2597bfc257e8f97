-- When a rule holds at a stage: TCTL over all runs, looked at where a move has just entered an open stage.
use Rattle.std.specs.Prelude.{ℕ, ◌/◌, ◌%◌, ◌^◌, ◌<◌, ◌≤◌, Bool, T, ◌⊎◌, ◌==◌}
use Rattle.tctl.specs.Graph.{Graph, Open, stage_at}
use Rattle.tctl.specs.Runs.{Run, stage_on, time_on}
use Rattle.tctl.specs.Rules.{Rule, Bound, one, letter, not, both, either, some_run, each_run, most, least}

abbrev pub Meets : Bound → ℕ → Type 0
Meets (most c) t = t ≤ c
Meets (least c) t = c ≤ t

abbrev pub marked : Graph → ℕ → ℕ → Bool
marked p s a = ((stage_at p s).marks / 2 ^ a) % 2 == 1

-- On the way w: F at every position (open stage) before one at which G holds, after as many minutes as the bound asks.
pub record Until (p : Graph) (F : ℕ → Type 0) (b : Bound) (G : ℕ → Type 0) (w : ℕ → ℕ) : Type 0 where
  pub place : ℕ
  pub shown : Open p (stage_on p w place)
  pub goal : G (stage_on p w place)
  pub timely : Meets b (time_on p place w)
  pub before : (j : ℕ) → j < place → Open p (stage_on p w j) → F (stage_on p w j)

-- The rule holds at the stage. No rule holds at a silent one.
abbrev pub Holds : Graph → Rule → ℕ → Type 0
Holds p one s = Open p s
Holds p (letter a) s = Open p s × T (marked p s a)
Holds p (not f) s = Open p s × (Holds p f s → ⊥)
Holds p (both f g) s = Holds p f s × Holds p g s
Holds p (either f g) s = Holds p f s ⊎ Holds p g s
Holds p (some_run f b g) s = Open p s × ((r : Run p s) × Until p (λ x. Holds p f x) b (λ x. Holds p g x) r.way)
Holds p (each_run f b g) s = Open p s × ((r : Run p s) → Until p (λ x. Holds p f x) b (λ x. Holds p g x) r.way)
