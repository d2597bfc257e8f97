-- What the filling of a table does, and when it is refused.
use Rattle.std.specs.Prelude.{◌≡◌, ℕ, ◌*◌, ◌<◌, ◌≤◌, List, length, Ok, Err, Result}
use Rattle.program.specs.Meaning.{Prog}
use Rattle.tally.specs.declared.tables.TallyFault.{TallyFault}
use Rattle.tally.specs.declared.tables.TallyFault.TheVariants.{ShortMemory}
use Rattle.tally.specs.Algebras.{Algebra}
use Rattle.tally.specs.Walks.{among, tallied}
use Rattle.tally.specs.Rounds.{entry}

-- A table after it is filled: n results, then three times as many entries that are none, and the rest as found.
pub record Filled {A : Type 0} (K : Algebra A) (result : ℕ → A) (n : ℕ) (was after : List A) : Type 0 where
  pub results : (s : ℕ) → s < n → entry K after s ≡ result s
  pub cleared : (i : ℕ) → n ≤ i → i < 4 * n → entry K after i ≡ K.none
  pub rest : (i : ℕ) → 4 * n ≤ i → entry K after i ≡ entry K was i

-- Each set has a word for each stage, and the table four entries.
abbrev pub Enough : {A : Type 0} → ℕ → List ℕ → List ℕ → List A → Type 0
Enough n pass goals table = (n ≤ length pass) × (n ≤ length goals) × (4 * n ≤ length table)

-- The number of the refusal.
abbrev pub tally_fault_number : TallyFault → ℕ
tally_fault_number ShortMemory = 15

-- With enough memory the table is filled with the choices over all walks of at most k moves; with less it stays as
-- found.
pub record Fills {A : Type 0} (K : Algebra A) (p : Prog) (pass goals : List ℕ) (k : ℕ) (was after : List A)
    (r : Result (Unit {0}) TallyFault) : Type 0 where
  pub accepts : Enough (length p.stages) pass goals was → r ≡ Ok tt
  pub fills :
      Enough (length p.stages) pass goals was
      → Filled K (tallied K p.moves (among pass) (among goals) k) (length p.stages) was after
  pub refuses : (Enough (length p.stages) pass goals was → ⊥) → r ≡ Err ShortMemory
  pub leaves : (Enough (length p.stages) pass goals was → ⊥) → after ≡ was
