-- What holds of any list of calls, and of the answers that were given to them.
use Rattle.std.specs.Prelude.{◌≡◌, ℕ, ◌<◌, ◌≤◌, T, ◌↔◌, List, length, take, Ok, Err, vec_items, Result, Vec}
use Rattle.std.specs.Prelude.{slice_index, slice_index_or}
use Rattle.std.specs.declared.alloc.Global.{Global}
use Rattle.tctl.specs.Rules.{Rule}
use Rattle.tctl.specs.Holds.{Holds}
use Rattle.program.specs.declared.EditFault.TheVariants.{NothingToJoin}
use Rattle.program.specs.declared.edit.Edit.TheVariants as edit
use Rattle.program.specs.Meaning.{Prog}
use Rattle.program.specs.Edits.{Caps}
use Rattle.program.specs.Graphs.{graph}
use Rattle.program.specs.Tidy.{Tidy}
use Rattle.rules.specs.Lines.{rule_at}
use Rattle.rules.specs.Postorder.{lines_of}
use Rattle.reader.specs.Grammar.{Reading}
use Rattle.sheet.specs.Sheets.{bit}
use Rattle.cutting.specs.Minute.{minute}
use Rattle.cutting.specs.Theorems.{Agree}
use Rattle.session.specs.declared.calls.Call.{Call}
use Rattle.session.specs.declared.calls.Call.TheVariants as call
use Rattle.session.specs.declared.calls.Answer.{Answer}
use Rattle.session.specs.declared.calls.Answer.TheVariants.{Edited, Checked}
use Rattle.session.specs.declared.calls.OutOfMemory.{OutOfMemory}
use Rattle.session.specs.Reckoned.{reckoned}
use Rattle.session.specs.Answers.{Answers, changes, accepted}

abbrev pub call_at : List Call → ℕ → Call
call_at calls i = slice_index_or calls i (call.Edit edit.Join)

abbrev pub answer_at : List Answer → ℕ → Answer
answer_at given i = slice_index_or given i (Edited (Err NothingToJoin))

-- From call i on, and before call j, no open, mark or lay was accepted.
abbrev pub Quiet : List Call → List Answer → ℕ → ℕ → Type 0
Quiet calls given i j =
    (n : ℕ) → i ≤ n → n < j → T (changes (call_at calls n)) → T (accepted (answer_at given n)) → ⊥

-- The call is a check of a text that is read as this rule.
abbrev pub Asks : Call → Rule → Type 0
Asks (call.Edit e) rule = ⊥
Asks (call.Check text) rule = Reading (vec_items text) rule

-- The answer is that of an accepted check, with these words.
abbrev pub Tells : Answer → List ℕ → Type 0
Tells (Edited r) words = ⊥
Tells (Checked (Ok v)) words = vec_items v.words ≡ words
Tells (Checked (Err e)) words = ⊥

-- Call i was a check of this rule, was accepted, and told these words.
pub record Accepted (calls : List Call) (given : List Answer) (i : ℕ) (rule : Rule) (words : List ℕ) : Type 0 where
  pub within : i < length calls
  pub asked : Asks (call_at calls i) rule
  pub told : Tells (answer_at given i) words

-- The words name stage s for line k.
abbrev pub Named : List ℕ → ℕ → ℕ → Type 0
Named words k s = T (bit k (slice_index words s))

-- Each call got an answer: an edit that of the program reckoned until then, and a check what it says of that program.
-- The program `left` is what is reckoned from all calls.
pub record AnsweredAll (caps : Caps) (start : Prog) (calls : List Call) (given : List Answer) (left : Prog)
    : Type 0 where
  pub each : length given ≡ length calls
  pub answers : (i : ℕ) → i < length calls
      → Answers caps (reckoned caps start calls i) (call_at calls i) (answer_at given i)
  pub leaves : left ≡ reckoned caps start calls (length calls)

-- The calls were made on a store with the program `start`, were given these answers, and left the program `left`.
pub record Main (caps : Caps) (start : Prog) (calls : List Call) (given : List Answer) (left : Prog) : Type 0 where
  pub answered : AnsweredAll caps start calls given left
  -- an accepted check names for each line of its rule exactly the stages at which it holds minute by minute, in the
  -- program reckoned until then
  pub minutely : (i : ℕ) (rule : Rule) (words : List ℕ) → Accepted calls given i rule words
      → (k s : ℕ) → k < length (lines_of rule)
      → Named words k s ↔ Holds (minute (graph (reckoned caps start calls i))) (rule_at (lines_of rule) k) s
  -- two accepted checks of one rule, with no open, mark or lay accepted between them, name for each line the same
  -- stages
  pub steady : (i j : ℕ) (rule : Rule) (words words' : List ℕ) → i ≤ j → Quiet calls given i j
      → Accepted calls given i rule words → Accepted calls given j rule words'
      → (k s : ℕ) → k < length (lines_of rule) → Named words k s ↔ Named words' k s
  -- and so for every rule, checked or not; and a program may be checked before exactly if it may be after
  pub minute_agrees : (i : ℕ)
      → Agree (graph (reckoned caps start calls i)) (minute (graph (reckoned caps start calls i)))
  pub quiet_agrees : (i j : ℕ) → i ≤ j → Quiet calls given i j
      → Agree (graph (reckoned caps start calls i)) (graph (reckoned caps start calls j))
  -- all that is reckoned is tidy
  pub tidy : (i : ℕ) → Tidy (reckoned caps start calls i)

-- All calls were made, or, where memory ran out, as many of the first as have answers.
abbrev pub Performed : Caps → Prog → List Call → Result (Vec Answer Global) OutOfMemory → Prog → Type 0
Performed caps start calls (Ok given) left = Main caps start calls (vec_items given) left
Performed caps start calls (Err short) left =
    let given = vec_items short.answers in
    (length given ≤ length calls) × Main caps start (take (length given) calls) given left
