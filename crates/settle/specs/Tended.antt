-- Tables that are settled by a queue of stages whose value changed.
use Rattle.std.specs.Prelude.{ℕ, ◌<◌, Bool, T, ◌⊎◌, List, length, slice_index_or}
use Rattle.program.specs.declared.Move.{Move}
use Rattle.program.specs.Meaning.{no_move}
use Rattle.tally.specs.Algebras.{Algebra}
use Rattle.tally.specs.Rounds.{rounds}
use Rattle.tally.specs.Sweeps.{Under, Partly, Fixed}
use Rattle.settle.specs.declared.queue.Queue.{Queue}
use Rattle.settle.specs.Queues.{Waits}

-- The move with a number adds nothing to what a table says of the stage that it leaves.
abbrev pub AddsNothing : {A : Type 0} → Algebra A → List Move → (pass : ℕ → Bool) → (ℕ → A) → ℕ → Type 0
AddsNothing K moves pass table k =
    let m = slice_index_or moves k no_move in
    T (pass m.leaves) → Under K (K.before m.minutes (table m.enters)) (table m.leaves)

-- No move adds anything, but for those that are due.
abbrev pub Tended : {A : Type 0} → Algebra A → List Move → (pass : ℕ → Bool) → (ℕ → A) → (due : ℕ → Type 0) → Type 0
Tended K moves pass table due = (k : ℕ) → k < length moves → AddsNothing K moves pass table k ⊎ due k

-- A move is due if the stage that it enters waits in the queue.
abbrev pub Due : List Move → Queue → ℕ → Type 0
Due moves queue k = Waits queue (slice_index_or moves k no_move).enters

-- What was said of each stage is the choice over some walks to a goal, and so it is still, whatever the goals.
abbrev pub StillPartly : {A : Type 0} → Algebra A → ℕ → List Move → (pass : ℕ → Bool) → (was after : ℕ → A) → Type 0
StillPartly K n moves pass was after =
    (goals : ℕ → Bool) → Partly K n moves pass goals was → Partly K n moves pass goals after

-- As many rounds as there are stages say all: one more changes nothing.
abbrev pub Settles : {A : Type 0} → Algebra A → ℕ → List Move → (pass goals : ℕ → Bool) → Type 0
Settles K n moves pass goals = Fixed K n moves pass goals (rounds K moves pass goals n)
