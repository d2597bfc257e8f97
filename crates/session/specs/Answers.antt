-- What a call is answered.
use Rattle.std.specs.Prelude.{◌≡◌, ℕ, Bool, true, false, List, length, take, Ok, Err, vec_items, Result}
use Rattle.std.specs.declared.alloc.AllocError.{AllocError}
use Rattle.program.specs.declared.edit.Edit.TheVariants as edit
use Rattle.program.specs.Meaning.{Prog}
use Rattle.program.specs.Edits.{Caps}
use Rattle.program.specs.Steps.{step}
use Rattle.program.specs.Tidy.{Tidy}
use Rattle.checker.specs.declared.faults.CheckFault.{CheckFault}
use Rattle.checker.specs.Outcomes.{Memory, Enough}
use Rattle.checker.specs.Checks.{Check}
use Rattle.session.specs.declared.calls.Call.{Call}
use Rattle.session.specs.declared.calls.Call.TheVariants as call
use Rattle.session.specs.declared.calls.Verdict.{Verdict}
use Rattle.session.specs.declared.calls.Answer.{Answer}
use Rattle.session.specs.declared.calls.Answer.TheVariants.{Edited, Checked}
use Rattle.session.specs.Reckoned.{after}

-- What a check told, of the memory before and after it: the words of the sheet, one a stage, or the refusal.
abbrev pub Told : Prog → List ℕ → Memory → Memory → Result Verdict CheckFault → Type 0
Told p text was after (Ok v) =
    Check p text was after (Ok v.lines) × (vec_items v.words ≡ take (length p.stages) after.sheet)
Told p text was after (Err e) = Check p text was after (Err e)

-- The answer to a check of the text on p: it had memory enough, and told this.
abbrev pub Answered : Prog → List ℕ → Answer → Type 0
Answered p text (Edited r) = ⊥
Answered p text (Checked r) =
    (was : Memory) × (after : Memory) × Enough (length p.stages) was × Told p text was after r

-- The answer to a call on p: to an edit that of its step.
abbrev pub Answers : Caps → Prog → Call → Answer → Type 0
Answers caps p (call.Edit e) (Edited r) = r ≡ (step caps p e).answer
Answers caps p (call.Edit e) (Checked r) = ⊥
Answers caps p (call.Check text) a = Answered p (vec_items text) a

-- A call was made on a tidy program p, and left the program q; or there was no memory for its answer, and it was not.
abbrev pub Makes : Caps → Prog → Call → Result Answer AllocError → Prog → Type 0
Makes caps p c (Ok a) q = Tidy p → Answers caps p c a × (q ≡ after caps p c)
Makes caps p c (Err e) q = q ≡ p

-- Whether a call is an open, mark or lay: one of those that may change which rules hold.
abbrev pub changes : Call → Bool
changes (call.Edit (edit.Open m)) = true
changes (call.Edit (edit.Mark s m)) = true
changes (call.Edit (edit.Lay s d t)) = true
changes (call.Edit (edit.Cut k a)) = false
changes (call.Edit edit.Join) = false
changes (call.Check text) = false

abbrev pub accepted : Answer → Bool
accepted (Edited (Ok n)) = true
accepted (Edited (Err e)) = false
accepted (Checked (Ok v)) = true
accepted (Checked (Err e)) = false
