-- Runs of a timed graph, and what a graph has to be so that its rules can be checked.
use Rattle.std.specs.Prelude.{◌≡◌, ℕ, zero, suc, ◌+◌, ◌<◌}
use Rattle.tctl.specs.Graph.{Graph, Move, size, count, move_at}

-- A run from s: an endless walk. It makes move number `way 0` first, then `way 1`, and so on.
pub record Run (p : Graph) (s : ℕ) : Type 0 where
  pub way : ℕ → ℕ
  pub real : (i : ℕ) → way i < count p
  pub starts : (move_at p (way 0)).leaves ≡ s
  pub joined : (i : ℕ) → (move_at p (way (suc i))).leaves ≡ (move_at p (way i)).enters

-- The stage at which a way is after i moves.
abbrev pub stage_on : Graph → (ℕ → ℕ) → ℕ → ℕ
stage_on p w i = (move_at p (w i)).leaves

-- The sum of a weight over the first i moves of a way.
abbrev pub sum_on : (Move → ℕ) → Graph → ℕ → (ℕ → ℕ) → ℕ
sum_on weight p zero w = 0
sum_on weight p (suc i) w = weight (move_at p (w 0)) + sum_on weight p i (λ j. w (suc j))

-- The minutes that the first i moves of a way take.
abbrev pub time_on : Graph → ℕ → (ℕ → ℕ) → ℕ
time_on p i w = sum_on (λ (m : Move). m.minutes) p i w

-- Each move joins two stages.
pub record Ends (p : Graph) : Type 0 where
  pub from : (m : ℕ) → m < count p → (move_at p m).leaves < size p
  pub to : (m : ℕ) → m < count p → (move_at p m).enters < size p

-- What the checked graphs have.
pub record Sound (p : Graph) : Type 0 where
  -- each move joins two stages
  pub from : (m : ℕ) → m < count p → (move_at p m).leaves < size p
  pub to : (m : ℕ) → m < count p → (move_at p m).enters < size p
  -- each stage has a move out
  pub onward : (s : ℕ) → s < size p → (m : ℕ) × (m < count p) × ((move_at p m).leaves ≡ s)
  -- no cycle takes no time: a run that comes back to where it began has taken some minutes
  pub passing : (s : ℕ) (r : Run p s) (i : ℕ) → stage_on p r.way (suc i) ≡ s → 0 < time_on p (suc i) r.way
