-- The cases of a check's outcome exclude each other, and leave none out.
use Rattle.std.specs.Prelude.{◌≡◌, ℕ, ◌⊎◌, List, Ok, Err, Result}
use Rattle.program.specs.Meaning.{Prog, Limits}
use Rattle.checker.specs.declared.faults.CheckFault.{CheckFault}
use Rattle.checker.specs.Faults.{fault_number}
use Rattle.checker.specs.Outcomes.{Memory, Accepted, Refused}
use Rattle.checker.specs.Checks.{Check}

-- 0 where the check is made, and else the number of the refusal.
abbrev pub answer_number : Result ℕ CheckFault → ℕ
answer_number (Ok k) = 0
answer_number (Err e) = fault_number e

-- Two outcomes that fit one program, text and memory have one number.
abbrev pub OutcomesExclusive : Type 0
OutcomesExclusive =
    (p : Prog) (text : List ℕ) (was a b : Memory) (r q : Result ℕ CheckFault)
    → Check p text was a r → Check p text was b q → answer_number r ≡ answer_number q

-- Once a text is read, the check is made on any program and memory, or a refusal fits.
abbrev pub OutcomesComplete : Type 0
OutcomesComplete = (p : Prog) → Limits p → (was : Memory) → Accepted p was ⊎ ((e : CheckFault) × Refused p was e)
