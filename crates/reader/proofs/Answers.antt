-- A text has one answer.
use Rattle.std.proofs.Common.{◌≡◌, ℕ, ◌≤◌, List, length, Ok, Err, Result, sym, refl, ap, ◌∙◌, subst, arith}
use Rattle.tctl.specs.Rules as tree
use Rattle.rules.specs.declared.line.Line.{Line}
use Rattle.rules.specs.declared.rule.Rule.{Rule}
use Rattle.rules.specs.Lines.{most_lines}
use Rattle.rules.specs.Postorder.{lines_of, Small, Large}
use Rattle.reader.specs.declared.ReadFault.{ReadFault}
use Rattle.reader.specs.declared.ReadFault.TheVariants.{TooLong, NotARule, NumberTooLarge, TooManyLines}
use Rattle.reader.specs.Grammar.{Reading}
use Rattle.reader.specs.Answer.{Refused, Accepted, Answers, Same}
use Rattle.reader.proofs.Readings.{one_reading_lem}

not_both : (ls : List Line) → Small ls → Large ls → ⊥
not_both ls s (k, h, n) = omega (arith, s k h)

-- what holds of a reading's lines holds of those of every other
of_other : {text : List ℕ} {f g : tree.Rule} (P : List Line → Type 0) → Reading text f → Reading text g → P (lines_of f)
    → P (lines_of g)
of_other {text} {f} {g} P x y p = subst (λ h. P (lines_of h)) (one_reading_lem text f g x y) p

-- an accepted text is not refused
accepted_only : (text : List ℕ) (r : Rule) (e : ReadFault) → Accepted text r → Refused text e → ⊥
accepted_only text r TooLong a x = omega (arith, a.short)
accepted_only text r NotARule a x = x.1 a.rule a.reading
accepted_only text r NumberTooLarge a (l, (f, y, n)) = not_both (lines_of f) (of_other Small a.reading y a.small) n
accepted_only text r TooManyLines a (l, (f, y, s, n)) =
    omega (arith, of_other (λ ls. length ls ≤ most_lines) a.reading y a.few)

one_fault : (text : List ℕ) (d e : ReadFault) → Refused text d → Refused text e → d ≡ e
one_fault text TooLong TooLong x y = refl
one_fault text TooLong NotARule x y = absurd (omega (arith, y.0))
one_fault text TooLong NumberTooLarge x y = absurd (omega (arith, y.0))
one_fault text TooLong TooManyLines x y = absurd (omega (arith, y.0))
one_fault text NotARule TooLong x y = absurd (omega (arith, x.0))
one_fault text NotARule NotARule x y = refl
one_fault text NotARule NumberTooLarge x (l, (f, r, n)) = absurd (x.1 f r)
one_fault text NotARule TooManyLines x (l, (f, r, s, n)) = absurd (x.1 f r)
one_fault text NumberTooLarge TooLong x y = absurd (omega (arith, x.0))
one_fault text NumberTooLarge NotARule (l, (f, r, n)) y = absurd (y.1 f r)
one_fault text NumberTooLarge NumberTooLarge x y = refl
one_fault text NumberTooLarge TooManyLines (l, (f, r, n)) (m, (g, q, s, k)) =
    absurd (not_both (lines_of g) s (of_other Large r q n))
one_fault text TooManyLines TooLong x y = absurd (omega (arith, x.0))
one_fault text TooManyLines NotARule (l, (f, r, s, n)) y = absurd (y.1 f r)
one_fault text TooManyLines NumberTooLarge (l, (f, r, s, n)) (m, (g, q, k)) =
    absurd (not_both (lines_of f) s (of_other Large q r k))
one_fault text TooManyLines TooManyLines x y = refl

pub one_answer : (text : List ℕ) (r s : Result Rule ReadFault) → Answers text r → Answers text s → Same r s
one_answer text (Ok r) (Ok s) a b =
    a.lines ∙ ap lines_of (one_reading_lem text a.rule b.rule a.reading b.reading) ∙ sym b.lines
one_answer text (Ok r) (Err e) a b = accepted_only text r e a b
one_answer text (Err e) (Ok r) a b = accepted_only text r e b a
one_answer text (Err d) (Err e) a b = one_fault text d e a b
