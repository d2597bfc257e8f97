-- What the tests of a program and of the memory find.
use Rattle.std.specs.Prelude.{◌≡◌, ℕ, zero, suc, ◌*◌, ◌<◌, Bool, true, false, cond, List, [], ◌∷◌, length, Some, None}
use Rattle.std.specs.Prelude.{Option, ◌==◌, nat_le, slice_index_or}
use Rattle.program.specs.declared.Move.{Move}
use Rattle.program.specs.Meaning.{Prog, no_move}
use Rattle.program.specs.Graphs.{timed_move}
use Rattle.tctl.specs.Checker.{still, ◌and◌}
use Rattle.checker.specs.Outcomes.{Memory, AllOnward, IsDeadEnd, Cycle}

-- The lowest stage that no move leaves, or there is none.
abbrev pub DeadFound : Prog → Option ℕ → Type 0
DeadFound p (Some s) = IsDeadEnd p s
DeadFound p None = AllOnward p

-- One of the first k moves leaves s.
abbrev pub LeftBefore : List Move → ℕ → ℕ → Type 0
LeftBefore moves k s = (m : ℕ) × (m < k) × ((slice_index_or moves m no_move).leaves ≡ s)

-- A stage on a cycle of moves that take no time, or there is none.
abbrev pub CycleFound : Prog → Option ℕ → Type 0
CycleFound p (Some s) = (s < length p.stages) × Cycle p s
CycleFound p None = (s : ℕ) → Cycle p s → ⊥

abbrev pub both : Bool → Bool → Bool
both a b = a and b

-- There is a word a stage in the sheet, and four entries a stage in each table.
abbrev pub enough? : ℕ → Memory → Bool
enough? n m =
    both (nat_le n (length m.sheet))
    (both (nat_le (4 * n) (length m.reached)) (both (nat_le (4 * n) (length m.shortest))
    (nat_le (4 * n) (length m.longest))))

-- A number below n that passes a test, or there is none.
abbrev pub Found : ℕ → (ℕ → Bool) → Option ℕ → Type 0
Found n f (Some s) = (s < n) × (f s ≡ true)
Found n f None = (s : ℕ) → s < n → f s ≡ false

-- Whether a move leaves s, takes no time, and enters a set.
abbrev pub meets : (ℕ → Bool) → Move → ℕ → Bool
meets S m s = both (m.leaves == s) (both (still (timed_move m)) (S m.enters))

-- Where the first such move leads, or s itself if there is none.
abbrev pub ahead : List Move → (ℕ → Bool) → ℕ → ℕ
ahead [] S s = s
ahead (m ∷ ms) S s = cond (meets S m s) m.enters (ahead ms S s)

abbrev pub steps : (ℕ → ℕ) → ℕ → ℕ → ℕ
steps f zero s = s
steps f (suc i) s = f (steps f i s)
