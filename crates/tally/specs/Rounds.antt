-- Rounds: from what is said of the walks of at most k moves to what is said of those of at most k + 1.
use Rattle.std.specs.Prelude.{◌≡◌, ℕ, zero, suc, ◌+◌, ◌<◌, ◌≤◌, Bool, cond, List, [], ◌∷◌, length, get_or, ◌==◌}
use Rattle.std.specs.Prelude.{slice_index_or}
use Rattle.program.specs.declared.Move.{Move}
use Rattle.program.specs.Meaning.{no_move}
use Rattle.tally.specs.Algebras.{Algebra}

-- What is said of the walk without moves, if the stage is a goal.
abbrev pub begins : {A : Type 0} → Algebra A → (ℕ → Bool) → ℕ → A
begins K goals s = cond (goals s) K.start K.none

-- The choice over the moves that leave s of what was said of the stage that each enters, with its minutes before it.
abbrev pub over : {A : Type 0} → Algebra A → (ℕ → A) → List Move → ℕ → A
over K was [] s = K.none
over K was (m ∷ ms) s =
    cond (m.leaves == s) (K.choice (K.before m.minutes (was m.enters)) (over K was ms s)) (over K was ms s)

abbrev pub round : {A : Type 0} → Algebra A → List Move → (pass goals : ℕ → Bool) → (ℕ → A) → ℕ → A
round K moves pass goals was s = K.choice (begins K goals s) (cond (pass s) (over K was moves s) K.none)

abbrev pub rounds : {A : Type 0} → Algebra A → List Move → (pass goals : ℕ → Bool) → ℕ → ℕ → A
rounds K moves pass goals zero s = begins K goals s
rounds K moves pass goals (suc i) s = round K moves pass goals (rounds K moves pass goals i) s

-- The ends of the moves are among n stages.
abbrev pub Within : ℕ → List Move → Type 0
Within n moves =
    (k : ℕ) → k < length moves → ((get_or moves k no_move).leaves < n) × ((get_or moves k no_move).enters < n)

-- What a table has at a place.
abbrev pub entry : {A : Type 0} → Algebra A → List A → ℕ → A
entry K table i = slice_index_or table i K.none

-- The entries below i are as found, or those from i on.
abbrev pub KeptBelow : {A : Type 0} → Algebra A → ℕ → List A → List A → Type 0
KeptBelow K i was after = (j : ℕ) → j < i → entry K after j ≡ entry K was j

abbrev pub KeptFrom : {A : Type 0} → Algebra A → ℕ → List A → List A → Type 0
KeptFrom K i was after = (j : ℕ) → i ≤ j → entry K after j ≡ entry K was j

-- The n entries from a place on are what a function gives.
abbrev pub Written : {A : Type 0} → Algebra A → ℕ → ℕ → (ℕ → A) → List A → Type 0
Written K at n f after = (s : ℕ) → s < n → entry K after (at + s) ≡ f s

-- The first n entries are what a function gives.
abbrev pub Holding : {A : Type 0} → Algebra A → ℕ → (ℕ → A) → List A → Type 0
Holding K n f after = (s : ℕ) → s < n → entry K after s ≡ f s

-- One move's part of a round: x was said of the stage that it leaves, y of the stage that it enters.
abbrev pub poured : {A : Type 0} → Algebra A → (ℕ → Bool) → Move → A → A → A
poured K pass m x y = cond (pass m.leaves) (K.choice x (K.before m.minutes y)) x

-- All moves' part of a round, in the second row of n entries, from what the first row said.
abbrev pub all_poured : {A : Type 0} → Algebra A → List Move → (ℕ → Bool) → ℕ → List A → ℕ → A
all_poured K moves pass n was s =
    K.choice (entry K was (n + s)) (cond (pass s) (over K (entry K was) moves s) K.none)
