-- What is known once a text is read to its end.
use Rattle.std.proofs.Common.{◌≡◌, ℕ, ◌≤◌, Bool, true, false, List, [], length, take, MatchBool}
use Rattle.std.proofs.Common.{sym, ap, ◌∙◌, subst, arith}
use Rattle.std.specs.Bool.{then_some}
use Rattle.std.specs.List.{AllByRecursion}
use Rattle.tctl.specs.Rules as tree
use Rattle.rules.specs.Lines.{WellFormed, most_lines}
use Rattle.rules.specs.Postorder.{lines_of, Small, Large}
use Rattle.rules.proofs.Postorder.{Lettered, put_formed}
use Rattle.signs.specs.Signs.{signs}
use Rattle.signs.proofs.Letters.{Fair, signs_fair}
use Rattle.reader.specs.declared.draft.Draft.{Draft}
use Rattle.reader.specs.Reads.{Ends, Drafted, DraftOf}
use Rattle.reader.specs.Drafts.{Drawn}
use Rattle.reader.specs.Parts.{spell_formula, tree_formula}
use Rattle.reader.specs.Grammar.{Reading}
use Rattle.reader.proofs.Letters.{formula_lettered}
use Rattle.reader.proofs.Readings.{reading_from, reading_to}
use Rattle.reader.proofs.Steps.{TookRule, trailing}

lettered : {text : List ℕ} {f : tree.Rule} → Reading text f → Lettered f
lettered {text} r =
    let p = reading_to r in
    let fair = subst (AllByRecursion Fair) p.1 (signs_fair text) in
    subst Lettered (sym p.2) (formula_lettered p.0 [] fair).0

drafted : {text rest : List ℕ} {d0 d : Draft} {n : ℕ} → TookRule text rest d0 d n → Drawn d0 [] → signs rest ≡ []
    → Drafted text d
drafted {text} h w e =
    record {
      rule = tree_formula h.part;
      reading = reading_from text h.part (h.splits ∙ ap (spell_formula h.part) e);
      drawn = h.adds [] w;
    }

-- a rule is read from the front of the text, and what is left has no sign or has one
pub draft_of_lem : {text rest : List ℕ} {d0 d : Draft} {n : ℕ} (ended : Bool) → TookRule text rest d0 d n → Drawn d0 []
    → Ends rest ended → DraftOf text (then_some ended d)
draft_of_lem true h w e = drafted h w e
draft_of_lem false h w (s, after, b) = λ f r. let p = reading_to r in trailing h b p.0 p.1

module _ {text : List ℕ} {d : Draft} (k : Drafted text d) where
  small : d.large ≡ false → Small (lines_of k.rule)
  small e = subst (λ b. MatchBool b (Large (lines_of k.rule)) (Small (lines_of k.rule))) e k.drawn.noted

  module _ (fine : d.large ≡ false) (room : d.count ≤ most_lines) where
    few : length (lines_of k.rule) ≤ most_lines
    few = omega (arith, room, k.drawn.counted)

    kept : take d.count d.lines ≡ lines_of k.rule
    kept =
        let n : d.count ≡ length (lines_of k.rule) = omega (arith, room, k.drawn.counted) in
        ap (λ i. take i d.lines) n ∙ k.drawn.kept (small fine) few

    pub formed : WellFormed (take d.count d.lines)
    formed =
        subst WellFormed (sym kept)
        (put_formed k.rule [] (lettered k.reading) (λ i h. absurd (omega arith)) (small fine))
