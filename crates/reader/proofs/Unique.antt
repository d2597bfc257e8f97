-- A text has at most one reading.
use Rattle.std.proofs.Common.{◌≡◌, List, ◌∷◌, sym, refl, subst}
use Rattle.signs.specs.declared.Sign.{Sign}
use Rattle.signs.specs.declared.Sign.TheVariants.{Close, CloseSquare, Amp, Bar}
use Rattle.reader.specs.Parts.{Limit, plain, at_most, at_least, Formula, Terms, Term, Items, Item, terms, no_term, bar}
use Rattle.reader.specs.Parts.{items, no_item, amp, one, letter, not, round, until, spell_limit, spell_formula}
use Rattle.reader.specs.Parts.{spell_terms, spell_term, spell_items, spell_item}
use Rattle.reader.specs.Reads.{Without, NoAmp, NoJoint}

abbrev Same : {F : Type 0} → F → F → List Sign → List Sign → Type 0
Same p q ss us = (p ≡ q) × (ss ≡ us)

-- after a limit something else stands
pub limit_free : (b : Limit) (ss : List Sign) → NoJoint (spell_limit b ss)
limit_free plain ss =
    (λ e. cc, λ e. cc)
limit_free (at_most n) ss =
    (λ e. cc, λ e. cc)
limit_free (at_least n) ss =
    (λ e. cc, λ e. cc)

pub limit_same : (b d : Limit) (ss us : List Sign) → spell_limit b ss ≡ spell_limit d us → Same b d ss us
limit_same plain plain ss us e = (refl, cc)
limit_same plain (at_most n) ss us e = cc
limit_same plain (at_least n) ss us e = cc
limit_same (at_most m) plain ss us e = cc
limit_same (at_most m) (at_most n) ss us e = (cc, cc)
limit_same (at_most m) (at_least n) ss us e = cc
limit_same (at_least m) plain ss us e = cc
limit_same (at_least m) (at_most n) ss us e = cc
limit_same (at_least m) (at_least n) ss us e = (cc, cc)

-- terms end before no &
pub terms_free : (ts : Terms) (ss : List Sign) → NoAmp ss → NoAmp (spell_terms ts ss)
unfolding spell_terms
terms_free no_term ss p = p
terms_free (bar t ts) ss p = λ e. cc

pub barred : {P : Type 0} (s : Sign) (ss us : List Sign) → ss ≡ s ∷ us → Without s ss → P
barred s ss us e p = absurd (subst (Without s) e p refl)

pub close_free : (ss : List Sign) → NoJoint (Close ∷ ss)
close_free ss = (λ e. cc, λ e. cc)

pub square_free : (ss : List Sign) → NoJoint (CloseSquare ∷ ss)
square_free ss = (λ e. cc, λ e. cc)

mutual
  unfolding spell_formula

  pub formula_same : (f g : Formula) (ss us : List Sign) → spell_formula f ss ≡ spell_formula g us → NoJoint ss
      → NoJoint us → Same f g ss us
  formula_same (terms t ts) (terms v vs) ss us e p q =
      let a =
      term_same t v (spell_terms ts ss) (spell_terms vs us) e (terms_free ts ss p.0) (terms_free vs us q.0) in
      let b = terms_same ts vs ss us a.1 p q in
      (cc (a.0, b.0), b.1)

  pub terms_same : (ts vs : Terms) (ss us : List Sign) → spell_terms ts ss ≡ spell_terms vs us → NoJoint ss
      → NoJoint us → Same ts vs ss us
  terms_same no_term no_term ss us e p q = (refl, e)
  terms_same no_term (bar v vs) ss us e p q = barred Bar ss _ e p.1
  terms_same (bar t ts) no_term ss us e p q = barred Bar us _ (sym e) q.1
  terms_same (bar t ts) (bar v vs) ss us e p q =
      let h : spell_term t (spell_terms ts ss) ≡ spell_term v (spell_terms vs us) = cc in
      let a =
      term_same t v (spell_terms ts ss) (spell_terms vs us) h (terms_free ts ss p.0) (terms_free vs us q.0) in
      let b = terms_same ts vs ss us a.1 p q in
      (cc (a.0, b.0), b.1)

  pub term_same : (t v : Term) (ss us : List Sign) → spell_term t ss ≡ spell_term v us → NoAmp ss → NoAmp us
      → Same t v ss us
  term_same (items i is) (items j js) ss us e p q =
      let a = item_same i j (spell_items is ss) (spell_items js us) e in
      let b = items_same is js ss us a.1 p q in
      (cc (a.0, b.0), b.1)

  pub items_same : (is js : Items) (ss us : List Sign) → spell_items is ss ≡ spell_items js us → NoAmp ss → NoAmp us
      → Same is js ss us
  items_same no_item no_item ss us e p q = (refl, e)
  items_same no_item (amp j js) ss us e p q = barred Amp ss _ e p
  items_same (amp i is) no_item ss us e p q = barred Amp us _ (sym e) q
  items_same (amp i is) (amp j js) ss us e p q =
      let h : spell_item i (spell_items is ss) ≡ spell_item j (spell_items js us) = cc in
      let a = item_same i j (spell_items is ss) (spell_items js us) h in
      let b = items_same is js ss us a.1 p q in
      (cc (a.0, b.0), b.1)

  pub item_same : (i j : Item) (ss us : List Sign) → spell_item i ss ≡ spell_item j us → Same i j ss us
  item_same one one ss us e = (refl, cc)
  item_same one (letter m) ss us e = cc
  item_same one (not j) ss us e = cc
  item_same one (round h) ss us e = cc
  item_same one (until r h d l) ss us e = cc
  item_same (letter k) one ss us e = cc
  item_same (letter k) (letter m) ss us e = (cc, cc)
  item_same (letter k) (not j) ss us e = cc
  item_same (letter k) (round h) ss us e = cc
  item_same (letter k) (until r h d l) ss us e = cc
  item_same (not i) one ss us e = cc
  item_same (not i) (letter m) ss us e = cc
  item_same (not i) (not j) ss us e =
      let n : spell_item i ss ≡ spell_item j us = cc in
      let a = item_same i j ss us n in
      (cc a.0, a.1)
  item_same (not i) (round h) ss us e = cc
  item_same (not i) (until r h d l) ss us e = cc
  item_same (round f) one ss us e = cc
  item_same (round f) (letter m) ss us e = cc
  item_same (round f) (not j) ss us e = cc
  item_same (round f) (round h) ss us e =
      let n : spell_formula f (Close ∷ ss) ≡ spell_formula h (Close ∷ us) = cc in
      let a = formula_same f h (Close ∷ ss) (Close ∷ us) n (close_free ss) (close_free us) in
      (cc a.0, cc a.1)
  item_same (round f) (until r h d l) ss us e = cc
  item_same (until q f b g) one ss us e = cc
  item_same (until q f b g) (letter m) ss us e = cc
  item_same (until q f b g) (not j) ss us e = cc
  item_same (until q f b g) (round h) ss us e = cc
  item_same (until q f b g) (until r h d l) ss us e =
      let fs = spell_limit b (spell_formula g (CloseSquare ∷ ss)) in
      let hs = spell_limit d (spell_formula l (CloseSquare ∷ us)) in
      let n : spell_formula f fs ≡ spell_formula h hs = cc in
      let same : q ≡ r = cc in
      let x = formula_same f h fs hs n (limit_free b _) (limit_free d _) in
      let y = limit_same b d _ _ x.1 in
      let z = formula_same g l (CloseSquare ∷ ss) (CloseSquare ∷ us) y.1 (square_free ss) (square_free us) in
      (cc (same, x.0, y.0, z.0), cc z.1)
