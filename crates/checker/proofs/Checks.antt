-- A check of the lines of a rule is one of its text, and no two cases of a check of a text fit at once.
use Rattle.std.proofs.Common.{◌≡◌, ℕ, ◌≤◌, ◌⊎◌, List, length, Ok, Err, Result, sym, refl, ap, ◌∙◌, subst, inl, inr}
use Rattle.std.proofs.Common.{arith}
use Rattle.program.specs.Meaning.{Prog}
use Rattle.rules.specs.declared.line.Line.{Line}
use Rattle.rules.specs.Lines.{most_lines}
use Rattle.rules.specs.Postorder.{lines_of, Small, Large}
use Rattle.tctl.specs.Rules.{Rule}
use Rattle.reader.specs.declared.ReadFault.{ReadFault}
use Rattle.reader.specs.declared.ReadFault.TheVariants.{TooLong, NotARule, NumberTooLarge, TooManyLines}
use Rattle.reader.specs.Grammar.{Reading}
use Rattle.reader.specs.Answer as reader
use Rattle.reader.proofs.Readings.{one_reading_lem}
use Rattle.checker.specs.declared.faults.CheckFault.{CheckFault}
use Rattle.checker.specs.declared.faults.CheckFault.TheVariants.{Text, NoStage, DeadEnd, StillCycle, ShortMemory}
use Rattle.checker.specs.Outcomes.{Memory, Outcome}
use Rattle.checker.specs.Checks.{Reads, Checks, Check}
use Rattle.checker.specs.Theorems.{answer_number, OutcomesExclusive}
use Rattle.checker.proofs.Exclusive.{one_number, not_made}

pub of_lines : (p : Prog) (text : List ℕ) (was after : Memory) (r : Result ℕ CheckFault)
    → Checks p text was after r → Check p text was after r
of_lines p text was after (Ok k) h = h
of_lines p text was after (Err (Text e)) h = absurd h.2.0
of_lines p text was after (Err NoStage) h = h
of_lines p text was after (Err (DeadEnd s)) h = h
of_lines p text was after (Err (StillCycle s)) h = h
of_lines p text was after (Err ShortMemory) h = h

small_large : {A : Type 0} (ls : List Line) → Small ls → Large ls → A
small_large ls small large = absurd (omega (arith, small large.0 large.1, large.2))

module _ (text : List ℕ) where
  -- what is said of the lines of one reading holds of those of another
  same_lines : (X : List Line → Type 0) (f g : Rule) → Reading text f → Reading text g → X (lines_of f) → X (lines_of g)
  same_lines X f g a b x = subst (λ (h : Rule). X (lines_of h)) (one_reading_lem text f g a b) x

  one_fault : (e d : ReadFault) → reader.Refused text e → reader.Refused text d → reader.fault_number e
      ≡ reader.fault_number d
  one_fault TooLong TooLong a b = refl
  one_fault TooLong NotARule a b = absurd (omega (arith, a, b.0))
  one_fault TooLong NumberTooLarge a b = absurd (omega (arith, a, b.0))
  one_fault TooLong TooManyLines a b = absurd (omega (arith, a, b.0))
  one_fault NotARule TooLong a b = absurd (omega (arith, a.0, b))
  one_fault NotARule NotARule a b = refl
  one_fault NotARule NumberTooLarge a b = absurd (a.1 b.1.0 b.1.1)
  one_fault NotARule TooManyLines a b = absurd (a.1 b.1.0 b.1.1)
  one_fault NumberTooLarge TooLong a b = absurd (omega (arith, a.0, b))
  one_fault NumberTooLarge NotARule a b = absurd (b.1 a.1.0 a.1.1)
  one_fault NumberTooLarge NumberTooLarge a b = refl
  one_fault NumberTooLarge TooManyLines a b =
      small_large (lines_of a.1.0) (same_lines Small b.1.0 a.1.0 b.1.1 a.1.1 b.1.2) a.1.2
  one_fault TooManyLines TooLong a b = absurd (omega (arith, a.0, b))
  one_fault TooManyLines NotARule a b = absurd (b.1 a.1.0 a.1.1)
  one_fault TooManyLines NumberTooLarge a b =
      small_large (lines_of b.1.0) (same_lines Small a.1.0 b.1.0 a.1.1 b.1.1 a.1.2) b.1.2
  one_fault TooManyLines TooManyLines a b = refl

  not_read : {A : Type 0} (e : ReadFault) → reader.Refused text e → (rule : Rule) → Reads text rule → A
  not_read TooLong a rule r = absurd (omega (arith, a, r.short))
  not_read NotARule a rule r = absurd (a.1 rule r.reading)
  not_read NumberTooLarge a rule r =
      small_large (lines_of a.1.0) (same_lines Small rule a.1.0 r.reading a.1.1 r.small) a.1.2
  not_read TooManyLines a rule r =
      let few = same_lines (λ ls. length ls ≤ most_lines) rule a.1.0 r.reading a.1.1 r.few in
      absurd (omega (arith, few, a.1.3))

  module _ (p : Prog) (was : Memory) where
    one_answer : (ls ms : List Line) (a b : Memory) (r q : Result ℕ CheckFault)
        → Outcome p ls was a r → Outcome p ms was b q → answer_number r ≡ answer_number q
    one_answer ls ms a b (Ok k) (Ok j) x y = refl
    one_answer ls ms a b (Ok k) (Err d) x y = absurd (not_made p was d y.0 x.0)
    one_answer ls ms a b (Err e) (Ok j) x y = absurd (not_made p was e x.0 y.0)
    one_answer ls ms a b (Err e) (Err d) x y = one_number p was e d x.0 y.0

    -- the text is refused, or its lines are checked
    abbrev Split : Memory → Result ℕ CheckFault → Type 0
    Split a r = ((e : ReadFault) × (r ≡ Err (Text e)) × reader.Refused text e) ⊎ Checks p text was a r

    split : (a : Memory) (r : Result ℕ CheckFault) → Check p text was a r → Split a r
    split a (Ok k) h = inr h
    split a (Err (Text e)) h = inl (e, refl, h.0)
    split a (Err NoStage) h = inr h
    split a (Err (DeadEnd s)) h = inr h
    split a (Err (StillCycle s)) h = inr h
    split a (Err ShortMemory) h = inr h

    both_ways : (a b : Memory) (r q : Result ℕ CheckFault) → Split a r → Split b q → answer_number r ≡ answer_number q
    both_ways a b r q (inl x) (inl y) =
        ap answer_number x.1 ∙ one_fault x.0 y.0 x.2 y.2 ∙ ap answer_number (sym y.1)
    both_ways a b r q (inl x) (inr y) = not_read x.0 x.2 y.0 y.1
    both_ways a b r q (inr x) (inl y) = not_read y.0 y.2 x.0 x.1
    both_ways a b r q (inr x) (inr y) = one_answer (lines_of x.0) (lines_of y.0) a b r q x.2 y.2

pub outcomes_exclusive_lem : OutcomesExclusive
outcomes_exclusive_lem p text was a b r q h k =
    both_ways text p was a b r q (split text p was a r h) (split text p was b q k)
