-- Tables that are filled in place, by one move after the other in any order: when they say the choice over all walks.
use Rattle.std.specs.Prelude.{◌≡◌, ℕ, ◌<◌, Bool, List, ◌≢◌}
use Rattle.program.specs.declared.Move.{Move}
use Rattle.tally.specs.Algebras.{Algebra}
use Rattle.tally.specs.Walks.{Has, Leads, said, chosen, tallied}
use Rattle.tally.specs.Rounds.{begins, round, rounds, Within, poured}

-- b is what the choice of a and b is: it has all that a has.
abbrev pub Under : {A : Type 0} → Algebra A → A → A → Type 0
Under K a b = K.choice a b ≡ b

-- The value is the choice over some walks that lead from s to a goal.
pub record SomeWalks {A : Type 0} (K : Algebra A) (moves : List Move) (pass goals : ℕ → Bool) (s : ℕ) (value : A)
    : Type 0 where
  pub ways : List (List Move)
  pub lead : (w : List Move) → Has ways w → Leads moves pass goals s w
  pub sums : value ≡ chosen K ways

-- What a table says of each stage is the choice over some walks, with the walk without moves where the stage is a goal.
pub record Partly {A : Type 0} (K : Algebra A) (n : ℕ) (moves : List Move) (pass goals : ℕ → Bool) (table : ℕ → A)
    : Type 0 where
  pub some : (s : ℕ) → s < n → SomeWalks K moves pass goals s (table s)
  pub starts : (s : ℕ) → s < n → Under K (begins K goals s) (table s)

-- A round changes nothing.
abbrev pub Fixed : {A : Type 0} → Algebra A → ℕ → List Move → (pass goals : ℕ → Bool) → (ℕ → A) → Type 0
Fixed K n moves pass goals table = (s : ℕ) → s < n → table s ≡ round K moves pass goals table s

-- No move adds anything.
abbrev pub Still : {A : Type 0} → Algebra A → List Move → (pass : ℕ → Bool) → (ℕ → A) → Type 0
Still K moves pass table =
    (m : Move) → Has moves m → poured K pass m (table m.leaves) (table m.enters) ≡ table m.leaves

-- What a table says of each stage is the choice over all walks, of whatever length.
pub record OfAll {A : Type 0} (K : Algebra A) (n : ℕ) (moves : List Move) (pass goals : ℕ → Bool) (table : ℕ → A)
    : Type 0 where
  -- it has what is said of each walk that leads to a goal
  pub has : (s : ℕ) → s < n → (w : List Move) → Leads moves pass goals s w → Under K (said K w) (table s)
  -- it is the tally over at most k moves, for each k after which a round changes nothing
  pub agrees : (k : ℕ) → Fixed K n moves pass goals (rounds K moves pass goals k) → (s : ℕ) → s < n
      → table s ≡ tallied K moves pass goals k s

-- One move is made in place: the table changes at the stage that it leaves, and nowhere else.
pub record InPlace {A : Type 0} (K : Algebra A) (pass : ℕ → Bool) (m : Move) (was after : ℕ → A) : Type 0 where
  pub changes : after m.leaves ≡ poured K pass m (was m.leaves) (was m.enters)
  pub keeps : (s : ℕ) → (s ≢ m.leaves) → after s ≡ was s

-- How a table comes to say the choice over all walks.
pub record Filling {A : Type 0} (K : Algebra A) (n : ℕ) (moves : List Move) (pass goals : ℕ → Bool)
    : Type 0 where
  -- it begins so, and any move in place keeps it so
  pub begun : Partly K n moves pass goals (begins K goals)
  pub kept : (m : Move) → Has moves m → (was after : ℕ → A) → InPlace K pass m was after
      → Partly K n moves pass goals was → Partly K n moves pass goals after
  -- once no move adds anything, or a round changes nothing, it is of all walks
  pub by_sweep : (table : ℕ → A) → Partly K n moves pass goals table → Still K moves pass table
      → OfAll K n moves pass goals table
  pub by_round : (table : ℕ → A) → ((s : ℕ) → s < n → SomeWalks K moves pass goals s (table s))
      → Fixed K n moves pass goals table → OfAll K n moves pass goals table

abbrev pub ChosenOfAll : {A : Type 0} → Algebra A → Type 0
ChosenOfAll K =
    (n : ℕ) (moves : List Move) → Within n moves → (pass goals : ℕ → Bool) → Filling K n moves pass goals
