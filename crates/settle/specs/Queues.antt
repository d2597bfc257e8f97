-- A queue of stages: which of them wait in it, and what putting one in and taking one out does.
use Rattle.std.specs.Prelude.{◌≡◌, ℕ, ◌<◌, Bool, T, ◌⊎◌, Some, None, Option}
use Rattle.program.specs.Meaning.{most_stages}
use Rattle.settle.specs.declared.queue.Queue.{Queue}
use Rattle.settle.specs.Rings.{IsIn}

-- A stage waits in the queue.
abbrev pub Waits : Queue → ℕ → Type 0
Waits q = IsIn q.ring q.head q.count

-- Only stages below n wait in the queue.
abbrev pub Lined : ℕ → Queue → Type 0
Lined n queue = (stage : ℕ) → Waits queue stage → stage < n

-- Each stage of a set, among the first n, waits in the queue.
abbrev pub AllWait : ℕ → (ℕ → Bool) → Queue → Type 0
AllWait n set queue = (stage : ℕ) → stage < n → T (set stage) → Waits queue stage

-- A stage is put in, or there is no room for it: all that waited wait, and no other but this stage.
pub record PutsIn (stage : ℕ) (was after : Queue) : Type 0 where
  pub still : (other : ℕ) → Waits was other → Waits after other
  pub only : (other : ℕ) → Waits after other → Waits was other ⊎ (other ≡ stage)

-- A stage is taken out: all the others that waited wait still, and no other.
pub record Taken (stage : ℕ) (was after : Queue) : Type 0 where
  pub low : stage < most_stages
  pub waited : Waits was stage
  pub others : (other : ℕ) → Waits was other → (other ≡ stage) ⊎ Waits after other
  pub only : (other : ℕ) → Waits after other → Waits was other

-- The stage that is taken out, or none if none waits.
abbrev pub Takes : Queue → Queue → Option ℕ → Type 0
Takes was after None = (stage : ℕ) → Waits was stage → ⊥
Takes was after (Some stage) = Taken stage was after
