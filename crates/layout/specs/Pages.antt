-- Pages: lines in their order, and the edits that they make in a store.
use Rattle.std.specs.Prelude.{◌≡◌, ℕ, ◌+◌, ◌<◌, ◌≤◌, List, [], ◌∷◌, ◌++◌, map, length, Some, None, Ok, Err, Option}
use Rattle.std.specs.Prelude.{Result, ◌≢◌}
use Rattle.std.specs.Borrow.{Bor}
use Rattle.program.specs.declared.EditFault.{EditFault}
use Rattle.program.specs.Meaning.{Prog}
use Rattle.program.specs.Edits.{Caps, Out, accepted, open_step, lay_step}
use Rattle.layout.specs.declared.line.PageLine.{PageLine}
use Rattle.layout.specs.declared.loading.Part.{Part}
use Rattle.layout.specs.declared.loading.Part.TheVariants.{Stages, Moves, Rules}
use Rattle.layout.specs.declared.faults.PageFault.{PageFault}
use Rattle.layout.specs.declared.faults.PageFault.TheVariants.{TooLong, OutOfForm, Edit}
use Rattle.layout.specs.Lines.{Line, stage, move, rule, write, Fits, line_of}

abbrev pub most_bytes : ℕ
most_bytes = 16384

-- The parts of a page stand in this order.
abbrev pub rank : Part → ℕ
rank Stages = 0
rank Moves = 1
rank Rules = 2

abbrev pub part_of : Line → Part
part_of (stage marks) = Stages
part_of (move leaves minutes enters) = Moves
part_of (rule text) = Rules

-- The bytes of lines, each ended by byte 10.
abbrev pub bytes_of : List Line → List ℕ
bytes_of [] = []
bytes_of (l ∷ ls) = write l ++ 10 ∷ bytes_of ls

-- The line may follow one of the part.
pub record Follows (part : Part) (line : Line) : Type 0 where
  pub fits : Fits line
  pub later : rank part ≤ rank (part_of line)

-- Lines in form, from the part on.
abbrev pub InForm : Part → List Line → Type 0
InForm part [] = Unit {0}
InForm part (l ∷ ls) = Follows part l × InForm (part_of l) ls

-- The part of the last line.
abbrev pub last_part : Part → List Line → Part
last_part part [] = part
last_part part (l ∷ ls) = last_part (part_of l) ls

-- No line that may follow the part stands at the front of the bytes.
abbrev pub NoLine : Part → List ℕ → Type 0
NoLine part bytes = (line : Line) (rest : List ℕ) → Follows part line → bytes ≢ write line ++ 10 ∷ rest

-- The line at the front of bytes, and what follows it.
abbrev pub NextLine : Part → List ℕ → Option (PageLine × Bor (List ℕ)) → Type 0
NextLine part bytes (Some p) = Follows part (line_of p.0) × (bytes ≡ write (line_of p.0) ++ 10 ∷ p.1.now)
NextLine part bytes None = NoLine part bytes

-- What a line does in a store. A rule does nothing there.
abbrev pub edit_step : Caps → Prog → Line → Out
edit_step caps p (stage marks) = open_step caps p marks
edit_step caps p (move leaves minutes enters) = lay_step caps p leaves minutes enters
edit_step caps p (rule text) = accepted 0 p

-- Whether an edit was accepted.
abbrev pub verdict : Result ℕ EditFault → Result (Unit {0}) EditFault
verdict (Ok n) = Ok tt
verdict (Err e) = Err e

pub record Edited (o : Out) (r : Result (Unit {0}) EditFault) (p : Prog) : Type 0 where
  pub answers : r ≡ verdict o.answer
  pub leaves : p ≡ o.after

-- What a store holds after the edits of lines.
abbrev pub after : Caps → Prog → List Line → Prog
after caps p [] = p
after caps p (l ∷ ls) = after caps (edit_step caps p l).after ls

-- Each of the edits is accepted.
abbrev pub Accepted : Caps → Prog → List Line → Type 0
Accepted caps p [] = Unit {0}
Accepted caps p (l ∷ ls) = (verdict (edit_step caps p l).answer ≡ Ok tt) × Accepted caps (edit_step caps p l).after ls

-- The texts of the rules among lines, in their order.
abbrev pub texts_of : List Line → List (List ℕ)
texts_of [] = []
texts_of (stage marks ∷ ls) = texts_of ls
texts_of (move leaves minutes enters ∷ ls) = texts_of ls
texts_of (rule text ∷ ls) = text ∷ texts_of ls

-- The bytes of rules.
abbrev pub rules_of : List (List ℕ) → List ℕ
rules_of texts = bytes_of (map rule texts)

-- A page begins with lines in form, each accepted by a store that then holds the program q; rest follows them.
pub record Took (caps : Caps) (p : Prog) (page : List ℕ) (lines : List Line) (rest : List ℕ) (q : Prog) : Type 0 where
  pub splits : page ≡ bytes_of lines ++ rest
  pub form : InForm Stages lines
  pub accepted : Accepted caps p lines
  pub leaves : q ≡ after caps p lines

-- The whole page is in form and its edits are accepted; `rules` are the bytes from the first rule on.
pub record Whole (caps : Caps) (p : Prog) (page rules : List ℕ) (q : Prog) : Type 0 where
  pub lines : List Line
  pub short : length page ≤ most_bytes
  pub took : Took caps p page lines [] q
  pub rules_are : rules ≡ rules_of (texts_of lines)

-- Line k is the first that is out of form or refused; it is out of form, and the store holds what those before it made.
pub record BreaksForm (caps : Caps) (p : Prog) (page : List ℕ) (k : ℕ) (q : Prog) : Type 0 where
  pub lines : List Line
  pub rest : List ℕ
  pub short : length page ≤ most_bytes
  pub took : Took caps p page lines rest q
  pub more : 0 < length rest
  pub breaks : NoLine (last_part Stages lines) rest
  pub number : k ≡ length lines + 1

-- Line k is the first that is out of form or refused; its edit is refused, and the store holds what those before it
-- made.
pub record BreaksEdit (caps : Caps) (p : Prog) (page : List ℕ) (k : ℕ) (fault : EditFault) (q : Prog) : Type 0 where
  pub lines : List Line
  pub line : Line
  pub rest : List ℕ
  pub short : length page ≤ most_bytes
  pub took : Took caps p page lines (write line ++ 10 ∷ rest) q
  pub follows : Follows (last_part Stages lines) line
  pub refused : (edit_step caps q line).answer ≡ Err fault
  pub number : k ≡ length lines + 1

abbrev pub Refuses : Caps → Prog → List ℕ → PageFault → Prog → Type 0
Refuses caps p page TooLong q = (most_bytes < length page) × (q ≡ p)
Refuses caps p page (OutOfForm k) q = BreaksForm caps p page k q
Refuses caps p page (Edit k fault) q = BreaksEdit caps p page k fault q

abbrev pub Loads : Caps → Prog → List ℕ → Result (Bor (List ℕ)) PageFault → Prog → Type 0
Loads caps p page (Ok rules) q = Whole caps p page rules.now q
Loads caps p page (Err fault) q = Refuses caps p page fault q
