-- What a tally is made of, its laws, and the three tallies: whether there is a walk, the least minutes, the most.
use Rattle.std.specs.Prelude.{◌≡◌, ◌≢◌, ℕ, ◌+◌, Bool, true, false, cond, min, max, Option, Some, None}
use Rattle.tally.specs.declared.Reach.{Reach}
use Rattle.tally.specs.declared.Minutes.{Minutes}

-- Of no walk; of the walk without moves; of one walk or another; of a walk with a move of so many minutes before it.
pub record Algebra (A : Type 0) : Type 0 where
  pub none : A
  pub start : A
  pub choice : A → A → A
  pub before : ℕ → A → A

pub record Laws {A : Type 0} (K : Algebra A) : Type 0 where
  pub associative : (a b c : A) → K.choice (K.choice a b) c ≡ K.choice a (K.choice b c)
  pub commutative : (a b : A) → K.choice a b ≡ K.choice b a
  pub idempotent : (a : A) → K.choice a a ≡ a
  pub neutral : (a : A) → K.choice K.none a ≡ a
  pub before_choice : (d : ℕ) (a b : A) → K.before d (K.choice a b) ≡ K.choice (K.before d a) (K.before d b)
  pub before_none : (d : ℕ) → K.before d K.none ≡ K.none

-- A value that is not none stays as it is, whatever is added to it.
abbrev pub Stays : {A : Type 0} → Algebra A → Type 0
Stays {A} K = (a b : A) → (a ≢ K.none) → K.choice a b ≡ a

-- Sums of minutes stop here.
abbrev pub most_sum : ℕ
most_sum = 2147483648

abbrev pub reach_algebra : Algebra Reach
reach_algebra =
    record {
      none = record { 0 = false };
      start = record { 0 = true };
      choice = λ a b. record { 0 = cond a.0 true b.0 };
      before = λ d a. a;
    }

-- Of two walks the longer one, or the shorter one.
abbrev pub pick : Bool → ℕ → ℕ → ℕ
pick true a b = max a b
pick false a b = min a b

-- The minutes of one walk or another, where there are such walks.
abbrev pub either_minutes : Bool → Option ℕ → Option ℕ → Option ℕ
either_minutes longest None b = b
either_minutes longest (Some a) None = Some a
either_minutes longest (Some a) (Some b) = Some (pick longest a b)

-- The minutes of a walk with a move before it, where there is such a walk.
abbrev pub after : ℕ → Option ℕ → Option ℕ
after d None = None
after d (Some a) = Some (min most_sum (d + a))

abbrev pub minutes_algebra : {n : ℕ} → Bool → Algebra (Minutes n)
minutes_algebra longest =
    record {
      none = record { 0 = None };
      start = record { 0 = Some 0 };
      choice = λ a b. record { 0 = either_minutes longest a.0 b.0 };
      before = λ d a. record { 0 = after d a.0 };
    }

abbrev pub shortest_algebra : Algebra (Minutes 0)
shortest_algebra = minutes_algebra false

abbrev pub longest_algebra : Algebra (Minutes 1)
longest_algebra = minutes_algebra true
