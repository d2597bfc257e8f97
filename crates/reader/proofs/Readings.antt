-- A reading of a text, in the grammar and as the readers take it.
use Rattle.std.proofs.Common.{◌≡◌, ℕ, List, [], sym, ap, ◌∙◌}
use Rattle.std.specs.List.{AllByRecursion}
use Rattle.std.proofs.ByRecursion.{All-append}
use Rattle.std.proofs.lemmas.List.{append-nil}
use Rattle.tctl.specs.Rules.{Rule, Bound}
use Rattle.rules.specs.declared.line.Quantifier.{Quantifier}
use Rattle.signs.specs.declared.Sign.{Sign}
use Rattle.signs.specs.declared.Sign.TheVariants.{Close, OpenSquare, CloseSquare, Each}
use Rattle.signs.specs.Signs.{signs}
use Rattle.signs.specs.Writing.{Good}
use Rattle.signs.proofs.Writing.{signs_right}
use Rattle.reader.specs.Grammar.{IsBound, IsRule, IsTerm, IsItem, until_signs, Reading}
use Rattle.reader.specs.Grammar as grammar
use Rattle.reader.specs.Parts.{Formula, spell_formula, tree_formula}
use Rattle.reader.proofs.Grammar.{rule_parted, formula_is}
use Rattle.reader.proofs.Unique.{formula_same}

good_bound : {ss : List Sign} {b : Bound} → IsBound ss b → AllByRecursion Good ss
good_bound grammar.plain = (λ e. cc, tt)
good_bound grammar.at_most =
    (λ e. cc, (λ e. cc, tt))
good_bound grammar.at_least =
    (λ e. cc, (λ e. cc, tt))

good_until : (q : Quantifier) (ss bs us : List Sign) → AllByRecursion Good ss → AllByRecursion Good bs
    → AllByRecursion Good us → AllByRecursion Good (until_signs q ss bs us)
good_until q ss bs us x y z =
    let close : Good CloseSquare = λ e. cc in
    let first : Good (Each q) = λ e. cc in
    let open_square : Good OpenSquare = λ e. cc in
    (first, (open_square, All-append Good ss _ x (All-append Good bs _ y (All-append Good us _ z (close, tt)))))

-- the grammar takes no bad sign
mutual
  good_rule : {ss : List Sign} {f : Rule} → IsRule ss f → AllByRecursion Good ss
  good_rule (grammar.term t) = good_term t
  good_rule (grammar.bar r t) =
      All-append Good _ _ (good_rule r) (λ e. cc, good_term t)

  good_term : {ss : List Sign} {f : Rule} → IsTerm ss f → AllByRecursion Good ss
  good_term (grammar.item i) = good_item i
  good_term (grammar.amp t i) =
      All-append Good _ _ (good_term t) (λ e. cc, good_item i)

  good_item : {ss : List Sign} {f : Rule} → IsItem ss f → AllByRecursion Good ss
  good_item grammar.one_sign = (λ e. cc, tt)
  good_item grammar.letter_sign = (λ e. cc, tt)
  good_item (grammar.bang i) = (λ e. cc, good_item i)
  good_item (grammar.round r) =
      let close : Good Close = λ e. cc in
      (λ e. cc, All-append Good _ _ (good_rule r) (close, tt))
  good_item (grammar.some l b r) = good_until _ _ _ _ (good_rule l) (good_bound b) (good_rule r)
  good_item (grammar.each l b r) = good_until _ _ _ _ (good_rule l) (good_bound b) (good_rule r)

pub reading_from : (text : List ℕ) (p : Formula) → signs text ≡ spell_formula p [] → Reading text (tree_formula p)
reading_from text p e =
    let r = formula_is p in
    let w = (signs_right text (spell_formula p [])).1 (e, good_rule r) in
    record { signs = spell_formula p []; written = w; grammar = r }

pub reading_to : {text : List ℕ} {f : Rule} → Reading text f
    → (p : Formula) × (signs text ≡ spell_formula p []) × (f ≡ tree_formula p)
reading_to {text} r =
    let h = rule_parted r.grammar in
    (h.part, ((signs_right text r.signs).0 r.written).0 ∙ sym (append-nil r.signs) ∙ h.spells [], h.grows)

pub one_reading_lem : (text : List ℕ) (f g : Rule) → Reading text f → Reading text g → f ≡ g
one_reading_lem text f g r s =
    let x = reading_to r in
    let y = reading_to s in
    x.2 ∙ ap tree_formula (formula_same x.0 y.0 [] [] (sym x.1 ∙ y.1) (tt, tt) (tt, tt)).0 ∙ sym y.2
