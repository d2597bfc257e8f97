-- The bytes of the answers to a page.
use Rattle.std.specs.Prelude.{ℕ, ◌+◌, ◌-◌, ◌/◌, ◌%◌, ◌^◌, ◌≤◌, Bool, cond, List, [], ◌∷◌, ◌++◌, Ok, Err, codes, decimal}
use Rattle.std.specs.Prelude.{Result, ◌==◌}
use Rattle.checker.specs.declared.faults.CheckFault.{CheckFault}
use Rattle.checker.specs.Faults as check
use Rattle.page.specs.declared.faults.ConsoleFault.{ConsoleFault}
use Rattle.page.specs.declared.faults.ConsoleFault.TheVariants.{Page, Rule}
use Rattle.layout.specs.Faults.{fault_number, fault_line}

-- A line with a name (its `=` too) and a number.
abbrev pub field : List ℕ → ℕ → List ℕ
field name n = name ++ (decimal n ++ 10 ∷ [])

-- Numbers with commas between them.
abbrev pub listed : List ℕ → List ℕ
listed [] = []
listed (n ∷ []) = decimal n
listed (n ∷ m ∷ ns) = decimal n ++ 44 ∷ listed (m ∷ ns)

-- Line k holds at the stage of the word.
abbrev pub holds_in : ℕ → ℕ → Bool
holds_in k word = (word / 2 ^ k) % 2 == 1

-- The stages from s on at which line k holds, where the words of a sheet begin with that of s.
abbrev pub stages_from : ℕ → ℕ → List ℕ → List ℕ
stages_from k s [] = []
stages_from k s (word ∷ words) = cond (holds_in k word) (s ∷ stages_from k (s + 1) words) (stages_from k (s + 1) words)

-- The stages that a sheet names for line k.
abbrev pub stages_of : ℕ → List ℕ → List ℕ
stages_of k sheet = stages_from k 0 sheet

abbrev pub holds_line : List ℕ → List ℕ
holds_line stages = codes "holds=" ++ (listed stages ++ 10 ∷ [])

-- A refusal, with the line of the page or the stage that it names.
abbrev pub refused : ConsoleFault → List ℕ
refused (Page fault) = field (codes "refused=") (fault_number fault) ++ field (codes "line=") (fault_line fault)
refused (Rule fault) = field (codes "refused=") (check.fault_number fault) ++ field (codes "at=")
    (check.fault_stage fault)

-- The console's answer to a rule: the number of its lines and the stages at which it holds, or the refusal.
abbrev pub Answer : Type 0
Answer = Result (ℕ × List ℕ) CheckFault

abbrev pub answer_bytes : Answer → List ℕ
answer_bytes (Ok a) = field (codes "lines=") a.0 ++ holds_line a.1
answer_bytes (Err fault) = refused (Rule fault)

-- The answer from what a check gave and the sheet that it left: the stages are those of the last line.
abbrev pub answer_of : Result ℕ CheckFault → List ℕ → Answer
answer_of (Ok lines) sheet = Ok (lines, stages_of (lines - 1) sheet)
answer_of (Err fault) sheet = Err fault

-- The bytes for rule n.
abbrev pub rule_bytes : ℕ → Answer → List ℕ
rule_bytes n answer = field (codes "rule=") n ++ answer_bytes answer

-- A rule has from 1 to 32 lines.
abbrev pub Lined : Result ℕ CheckFault → Type 0
Lined (Ok lines) = (1 ≤ lines) × (lines ≤ 32)
Lined (Err fault) = Unit {0}
