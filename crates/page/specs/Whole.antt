-- What the console answers to a page.
use Rattle.std.specs.Prelude.{◌≡◌, ℕ, ◌+◌, ◌≤◌, List, [], ◌++◌, length}
use Rattle.program.specs.Meaning.{Prog, most_stages, most_moves}
use Rattle.program.specs.Edits.{Caps}
use Rattle.page.specs.declared.faults.ConsoleFault.TheVariants.{Page}
use Rattle.page.specs.declared.pages.Summary.{Summary}
use Rattle.page.specs.declared.pages.Summary.TheVariants.{Answered, Refused}
use Rattle.layout.specs.Lines.{Line}
use Rattle.layout.specs.Pages.{most_bytes, Took, texts_of, Refuses}
use Rattle.page.specs.Answers.{Answer, refused}
use Rattle.page.specs.Console.{AllAnswered, bytes_from, checked_among}

-- The console's store has room for all that a program may have.
abbrev pub full_room : Caps
full_room = record { stages = most_stages; moves = most_moves }

-- The whole page is in form and its edits are accepted; each of its rules is answered on the program that they make.
pub record PageAnswered (caps : Caps) (start : Prog) (page bytes : List ℕ) (stages moves checked declined : ℕ) : Type 0
  where
    pub lines : List Line
    pub made : Prog
    pub answers : List Answer
    pub short : length page ≤ most_bytes
    pub took : Took caps start page lines [] made
    pub answered : AllAnswered made (texts_of lines) answers
    pub bytes_are : bytes ≡ bytes_from 0 answers
    pub stages_are : stages ≡ length made.stages
    pub moves_are : moves ≡ length made.moves
    pub checked_is : checked ≡ checked_among answers
    pub declined_is : checked + declined ≡ length answers

-- A page is answered rule by rule, or refused for the first line that is out of form or has a refused edit.
abbrev pub AnswersPage : Caps → Prog → List ℕ → List ℕ → Summary → Type 0
AnswersPage caps start page bytes (Answered stages moves rules) =
    PageAnswered caps start page bytes stages moves rules.checked rules.refused
AnswersPage caps start page bytes (Refused fault) =
    ((left : Prog) × Refuses caps start page fault left) × (bytes ≡ refused (Page fault))

-- The answer to a page is appended to the bytes before.
pub record AddsPage (caps : Caps) (start : Prog) (page before after : List ℕ) (summary : Summary) : Type 0 where
  pub bytes : List ℕ
  pub adds : after ≡ before ++ bytes
  pub answers : AnswersPage caps start page bytes summary
