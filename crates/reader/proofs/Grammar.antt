-- The parts that the readers take are those of the grammar.
use Rattle.std.proofs.Common.{◌≡◌, List, [], ◌∷◌, ◌++◌, sym, refl, ap, ◌∙◌, subst}
use Rattle.std.proofs.lemmas.List.{append_assoc, append-nil}
use Rattle.tctl.specs.Rules as tree
use Rattle.tctl.specs.Rules.{Rule}
use Rattle.rules.specs.declared.line.Bound.{Bound}
use Rattle.rules.specs.declared.line.Bound.TheVariants.{AtMost, AtLeast}
use Rattle.rules.specs.declared.line.Quantifier.{Quantifier}
use Rattle.rules.specs.declared.line.Quantifier.TheVariants as quantifier
use Rattle.rules.specs.Lines.{until_rule}
use Rattle.signs.specs.declared.Sign.{Sign}
use Rattle.signs.specs.declared.Sign.TheVariants.{Open, Close, OpenSquare, CloseSquare, Bang, Amp, Bar, Each}
use Rattle.reader.specs.Grammar.{IsBound, IsRule, IsTerm, IsItem, until_signs}
use Rattle.reader.specs.Grammar as grammar
use Rattle.reader.specs.Parts.{Limit, plain, at_most, at_least, Formula, Terms, Term, Items, Item, terms, no_term, bar}
use Rattle.reader.specs.Parts.{items, no_item, amp, one, letter, not, round, until, spell_limit, bound_of}
use Rattle.reader.specs.Parts.{spell_formula, spell_terms, spell_term, spell_items, spell_item, tree_formula}
use Rattle.reader.specs.Parts.{tree_terms, tree_term, tree_items, tree_item}
use Rattle.reader.proofs.Steps.{snoc_item, spell_snoc_item, tree_snoc_item, snoc_term, spell_snoc_term, tree_snoc_term}

tree_bound : Bound → tree.Bound
tree_bound (AtMost c) = tree.most c
tree_bound (AtLeast c) = tree.least c

some_is : (b : Bound) (f g : Rule) → tree.some_run f (tree_bound b) g ≡ until_rule quantifier.Some b f g
unfolding tree_bound
some_is (AtMost c) f g = refl
some_is (AtLeast c) f g = refl

each_is : (b : Bound) (f g : Rule) → tree.each_run f (tree_bound b) g ≡ until_rule quantifier.All b f g
unfolding tree_bound
each_is (AtMost c) f g = refl
each_is (AtLeast c) f g = refl

-- from the grammar to parts

-- signs ss that are the tree f are a part, written before any others
pub record Parted {F : Type 0} (spell : F → List Sign → List Sign) (grown : F → Rule)
    (ss : List Sign) (f : Rule) : Type 0 where
  pub part : F
  pub spells : (us : List Sign) → ss ++ us ≡ spell part us
  pub grows : f ≡ grown part

abbrev PartedRule : List Sign → Rule → Type 0
PartedRule ss f = Parted spell_formula tree_formula ss f

abbrev PartedTerm : List Sign → Rule → Type 0
PartedTerm ss f = Parted spell_term tree_term ss f

abbrev PartedItem : List Sign → Rule → Type 0
PartedItem ss f = Parted spell_item tree_item ss f

snoc_formula : Formula → Term → Formula
snoc_formula (terms t ts) u = terms t (snoc_term ts u)

spell_snoc_formula : (p : Formula) (u : Term) (ss : List Sign)
    → spell_formula (snoc_formula p u) ss ≡ spell_formula p (Bar ∷ spell_term u ss)
unfolding spell_formula snoc_formula
spell_snoc_formula (terms t ts) u ss = ap (spell_term t) (spell_snoc_term ts u ss)

tree_snoc_formula : (p : Formula) (u : Term)
    → tree_formula (snoc_formula p u) ≡ tree.either (tree_formula p) (tree_term u)
unfolding tree_formula snoc_formula
tree_snoc_formula (terms t ts) u = tree_snoc_term ts u (tree_term t)

snoc_in_term : Term → Item → Term
snoc_in_term (items i is) j = items i (snoc_item is j)

spell_snoc_in_term : (p : Term) (j : Item) (ss : List Sign)
    → spell_term (snoc_in_term p j) ss ≡ spell_term p (Amp ∷ spell_item j ss)
unfolding spell_formula snoc_in_term
spell_snoc_in_term (items i is) j ss = ap (spell_item i) (spell_snoc_item is j ss)

tree_snoc_in_term : (p : Term) (j : Item) → tree_term (snoc_in_term p j) ≡ tree.both (tree_term p) (tree_item j)
unfolding tree_formula snoc_in_term
tree_snoc_in_term (items i is) j = tree_snoc_item is j (tree_item i)

parted_term : {ss : List Sign} {f : Rule} → PartedTerm ss f → PartedRule ss f
unfolding spell_formula tree_formula
parted_term h = record { part = terms h.part no_term; spells = h.spells; grows = h.grows }

parted_item : {ss : List Sign} {f : Rule} → PartedItem ss f → PartedTerm ss f
unfolding spell_formula tree_formula
parted_item h = record { part = items h.part no_item; spells = h.spells; grows = h.grows }

parted_bar : {ss us : List Sign} {f g : Rule} → PartedRule ss f
    → PartedTerm us g → PartedRule (ss ++ (Bar ∷ us)) (tree.either f g)
parted_bar {ss} {us} h k =
    record {
      part = snoc_formula h.part k.part;
      spells = λ vs.
          append_assoc ss (Bar ∷ us) vs ∙ h.spells (Bar ∷ (us ++ vs)) ∙ ap (λ xs. spell_formula h.part (Bar ∷ xs))
          (k.spells vs)
          ∙ sym (spell_snoc_formula h.part k.part vs);
      grows = cc (h.grows, k.grows, tree_snoc_formula h.part k.part);
    }

parted_amp : {ss us : List Sign} {f g : Rule} → PartedTerm ss f → PartedItem us g
    → PartedTerm (ss ++ (Amp ∷ us)) (tree.both f g)
parted_amp {ss} {us} h k =
    record {
      part = snoc_in_term h.part k.part;
      spells = λ vs.
          append_assoc ss (Amp ∷ us) vs ∙ h.spells (Amp ∷ (us ++ vs)) ∙ ap (λ xs. spell_term h.part (Amp ∷ xs))
          (k.spells vs)
          ∙ sym (spell_snoc_in_term h.part k.part vs);
      grows = cc (h.grows, k.grows, tree_snoc_in_term h.part k.part);
    }

parted_bang : {ss : List Sign} {f : Rule} → PartedItem ss f
    → PartedItem (Bang ∷ ss) (tree.not f)
unfolding spell_formula tree_formula
parted_bang h =
    record { part = not h.part; spells = λ vs. ap (λ xs. Bang ∷ xs) (h.spells vs); grows = ap tree.not h.grows }

parted_round : {ss : List Sign} {f : Rule} → PartedRule ss f
    → PartedItem (Open ∷ (ss ++ (Close ∷ []))) f
unfolding spell_formula tree_formula
parted_round {ss} h =
    record {
      part = round h.part;
      spells = λ vs. ap (λ xs. Open ∷ xs) (append_assoc ss (Close ∷ []) vs ∙ h.spells (Close ∷ vs));
      grows = h.grows;
    }

-- a bound as the readers take it
record Bounded (bs : List Sign) (b : tree.Bound) : Type 0 where
  limit : Limit
  spells : (us : List Sign) → bs ++ us ≡ spell_limit limit us
  bound : b ≡ tree_bound (bound_of limit)

bounded : {bs : List Sign} {b : tree.Bound} → IsBound bs b → Bounded bs b
unfolding tree_bound
bounded grammar.plain = record { limit = plain; spells = λ us. refl; bound = refl }
bounded (grammar.at_most {c}) = record { limit = at_most c; spells = λ us. refl; bound = refl }
bounded (grammar.at_least {c}) = record { limit = at_least c; spells = λ us. refl; bound = refl }

until_spelled : {ss bs us : List Sign} {f g : Rule} {b : tree.Bound} (q : Quantifier) (h : PartedRule ss f)
    (m : Bounded bs b) (k : PartedRule us g) (vs : List Sign)
    → until_signs q ss bs us ++ vs ≡ spell_item (until q h.part m.limit k.part) vs
unfolding spell_formula
until_spelled {ss} {bs} {us} q h m k vs =
    let bound = m.spells (us ++ (CloseSquare ∷ vs)) ∙ ap (spell_limit m.limit) (k.spells (CloseSquare ∷ vs)) in
    let left = h.spells (bs ++ (us ++ (CloseSquare ∷ vs))) ∙ ap (spell_formula h.part) bound in
    ap (λ xs. Each q ∷ OpenSquare ∷ xs) (simp append_assoc left)

parted_some : {ss bs us : List Sign} {f g : Rule} {b : tree.Bound} → PartedRule ss f → Bounded bs b → PartedRule us g
    → PartedItem (until_signs quantifier.Some ss bs us) (tree.some_run f b g)
unfolding spell_formula tree_formula
parted_some h m k =
    let grown = some_is (bound_of m.limit) (tree_formula h.part) (tree_formula k.part) in
    record {
      part = until quantifier.Some h.part m.limit k.part;
      spells = until_spelled quantifier.Some h m k;
      grows = cc (h.grows, k.grows, m.bound, grown);
    }

parted_each : {ss bs us : List Sign} {f g : Rule} {b : tree.Bound} → PartedRule ss f → Bounded bs b → PartedRule us g
    → PartedItem (until_signs quantifier.All ss bs us) (tree.each_run f b g)
unfolding spell_formula tree_formula
parted_each h m k =
    let grown = each_is (bound_of m.limit) (tree_formula h.part) (tree_formula k.part) in
    record {
      part = until quantifier.All h.part m.limit k.part;
      spells = until_spelled quantifier.All h m k;
      grows = cc (h.grows, k.grows, m.bound, grown);
    }

mutual
  unfolding spell_formula tree_formula

  pub rule_parted : {ss : List Sign} {f : Rule} → IsRule ss f → PartedRule ss f
  rule_parted (grammar.term t) = parted_term (term_parted t)
  rule_parted (grammar.bar r t) = parted_bar (rule_parted r) (term_parted t)

  term_parted : {ss : List Sign} {f : Rule} → IsTerm ss f → PartedTerm ss f
  term_parted (grammar.item i) = parted_item (item_parted i)
  term_parted (grammar.amp t i) = parted_amp (term_parted t) (item_parted i)

  item_parted : {ss : List Sign} {f : Rule} → IsItem ss f → PartedItem ss f
  item_parted grammar.one_sign = record { part = one; spells = λ vs. refl; grows = refl }
  item_parted (grammar.letter_sign {k}) = record { part = letter k; spells = λ vs. refl; grows = refl }
  item_parted (grammar.bang i) = parted_bang (item_parted i)
  item_parted (grammar.round r) = parted_round (rule_parted r)
  item_parted (grammar.some l b r) = parted_some (rule_parted l) (bounded b) (rule_parted r)
  item_parted (grammar.each l b r) = parted_each (rule_parted l) (bounded b) (rule_parted r)

-- from parts to the grammar

limit_app : (b : Limit) (xs us : List Sign) → spell_limit b (xs ++ us) ≡ spell_limit b xs ++ us
limit_app plain xs us = refl
limit_app (at_most n) xs us = refl
limit_app (at_least n) xs us = refl

-- what is written before xs and then us is written before xs, and then us follows
mutual
  unfolding spell_formula

  formula_app : (p : Formula) (xs us : List Sign) → spell_formula p (xs ++ us) ≡ spell_formula p xs ++ us
  formula_app (terms t ts) xs us = ap (spell_term t) (terms_app ts xs us) ∙ term_app t (spell_terms ts xs) us

  terms_app : (ts : Terms) (xs us : List Sign) → spell_terms ts (xs ++ us) ≡ spell_terms ts xs ++ us
  terms_app no_term xs us = refl
  terms_app (bar t ts) xs us =
      ap (λ ys. Bar ∷ ys) (ap (spell_term t) (terms_app ts xs us) ∙ term_app t (spell_terms ts xs) us)

  term_app : (t : Term) (xs us : List Sign) → spell_term t (xs ++ us) ≡ spell_term t xs ++ us
  term_app (items i is) xs us = ap (spell_item i) (items_app is xs us) ∙ item_app i (spell_items is xs) us

  items_app : (is : Items) (xs us : List Sign) → spell_items is (xs ++ us) ≡ spell_items is xs ++ us
  items_app no_item xs us = refl
  items_app (amp i is) xs us =
      ap (λ ys. Amp ∷ ys) (ap (spell_item i) (items_app is xs us) ∙ item_app i (spell_items is xs) us)

  item_app : (i : Item) (xs us : List Sign) → spell_item i (xs ++ us) ≡ spell_item i xs ++ us
  item_app one xs us = refl
  item_app (letter k) xs us = refl
  item_app (not i) xs us = ap (λ ys. Bang ∷ ys) (item_app i xs us)
  item_app (round f) xs us = ap (λ ys. Open ∷ ys) (formula_app f (Close ∷ xs) us)
  item_app (until q f b g) xs us =
      ap (λ ys. Each q ∷ OpenSquare ∷ ys)
      (ap (λ ys. spell_formula f (spell_limit b ys)) (formula_app g (CloseSquare ∷ xs) us)
      ∙ ap (spell_formula f) (limit_app b (spell_formula g (CloseSquare ∷ xs)) us)
      ∙ formula_app f (spell_limit b (spell_formula g (CloseSquare ∷ xs))) us)

limit_is : (b : Limit) → IsBound (spell_limit b []) (tree_bound (bound_of b))
unfolding tree_bound
limit_is plain = grammar.plain
limit_is (at_most n) = grammar.at_most
limit_is (at_least n) = grammar.at_least

until_is : {ss bs us : List Sign} {f g : Rule} (q : Quantifier) (b : Bound) → IsRule ss f → IsBound bs (tree_bound b)
    → IsRule us g → IsItem (until_signs q ss bs us) (until_rule q b f g)
unfolding tree_bound
until_is quantifier.Some (AtMost c) l m r = grammar.some l m r
until_is quantifier.Some (AtLeast c) l m r = grammar.some l m r
until_is quantifier.All (AtMost c) l m r = grammar.each l m r
until_is quantifier.All (AtLeast c) l m r = grammar.each l m r

-- the signs of E or A, apart
until_parts : (q : Quantifier) (f : Formula) (b : Limit) (g : Formula)
    → until_signs q (spell_formula f []) (spell_limit b []) (spell_formula g []) ≡ spell_item (until q f b g) []
unfolding spell_formula
until_parts q f b g =
    let e = formula_app g [] (CloseSquare ∷ []) in
    let m = limit_app b [] (spell_formula g (CloseSquare ∷ [])) in
    let l = formula_app f [] (spell_limit b (spell_formula g (CloseSquare ∷ []))) in
    cc

mutual
  unfolding spell_formula tree_formula

  pub formula_is : (p : Formula) → IsRule (spell_formula p []) (tree_formula p)
  formula_is (terms t ts) =
      subst (λ ss. IsRule ss (tree_terms ts (tree_term t))) (sym (term_app t [] (spell_terms ts [])))
      (terms_is ts (grammar.term (term_is t)))

  terms_is : (ts : Terms) {ss : List Sign} {f : Rule} → IsRule ss f → IsRule (ss ++ spell_terms ts []) (tree_terms ts f)
  terms_is no_term {ss} {f} r = subst (λ us. IsRule us f) (sym (append-nil ss)) r
  terms_is (bar t ts) {ss} {f} r =
      subst (λ us. IsRule us (tree_terms ts (tree.either f (tree_term t))))
      (append_assoc ss (Bar ∷ spell_term t []) (spell_terms ts []) ∙ ap (λ us. ss ++ (Bar ∷ us))
      (sym (term_app t [] (spell_terms ts []))))
      (terms_is ts (grammar.bar r (term_is t)))

  term_is : (t : Term) → IsTerm (spell_term t []) (tree_term t)
  term_is (items i is) =
      subst (λ ss. IsTerm ss (tree_items is (tree_item i))) (sym (item_app i [] (spell_items is [])))
      (items_is is (grammar.item (item_is i)))

  items_is : (is : Items) {ss : List Sign} {f : Rule} → IsTerm ss f → IsTerm (ss ++ spell_items is []) (tree_items is f)
  items_is no_item {ss} {f} t = subst (λ us. IsTerm us f) (sym (append-nil ss)) t
  items_is (amp i is) {ss} {f} t =
      subst (λ us. IsTerm us (tree_items is (tree.both f (tree_item i))))
      (append_assoc ss (Amp ∷ spell_item i []) (spell_items is []) ∙ ap (λ us. ss ++ (Amp ∷ us))
      (sym (item_app i [] (spell_items is []))))
      (items_is is (grammar.amp t (item_is i)))

  item_is : (i : Item) → IsItem (spell_item i []) (tree_item i)
  item_is one = grammar.one_sign
  item_is (letter k) = grammar.letter_sign
  item_is (not i) = grammar.bang (item_is i)
  item_is (round f) =
      subst (λ ss. IsItem (Open ∷ ss) (tree_formula f)) (sym (formula_app f [] (Close ∷ [])))
      (grammar.round (formula_is f))
  item_is (until q f b g) =
      subst (λ ss. IsItem ss (until_rule q (bound_of b) (tree_formula f) (tree_formula g))) (until_parts q f b g)
      (until_is q (bound_of b) (formula_is f) (limit_is b) (formula_is g))
