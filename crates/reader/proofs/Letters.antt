-- A part whose signs name letters from a to p is a tree with such letters.
use Rattle.std.proofs.Common.{List, ◌∷◌}
use Rattle.std.specs.List.{AllByRecursion}
use Rattle.tctl.specs.Rules.{Rule}
use Rattle.rules.specs.declared.line.Bound.{Bound}
use Rattle.rules.specs.declared.line.Bound.TheVariants.{AtMost, AtLeast}
use Rattle.rules.specs.declared.line.Quantifier.{Quantifier}
use Rattle.rules.specs.declared.line.Quantifier.TheVariants.{Some, All as Every}
use Rattle.rules.specs.Lines.{until_rule}
use Rattle.rules.proofs.Postorder.{Lettered}
use Rattle.signs.specs.declared.Sign.{Sign}
use Rattle.signs.specs.declared.Sign.TheVariants.{Close, CloseSquare}
use Rattle.signs.proofs.Letters.{Fair}
use Rattle.reader.specs.Parts.{Limit, plain, at_most, at_least, Formula, Terms, Term, Items, Item, terms, no_term, bar}
use Rattle.reader.specs.Parts.{items, no_item, amp, one, letter, not, round, until, spell_limit, bound_of}
use Rattle.reader.specs.Parts.{spell_formula, spell_terms, spell_term, spell_items, spell_item, tree_formula}
use Rattle.reader.specs.Parts.{tree_terms, tree_term, tree_items, tree_item}

limit_fair : (b : Limit) (ss : List Sign) → AllByRecursion Fair (spell_limit b ss) → AllByRecursion Fair ss
limit_fair plain ss a = a.1
limit_fair (at_most n) ss a = a.1.1
limit_fair (at_least n) ss a = a.1.1

until_lettered : (q : Quantifier) (b : Bound) (f g : Rule) → Lettered f → Lettered g → Lettered (until_rule q b f g)
until_lettered Some (AtMost c) f g x y = (x, y)
until_lettered Some (AtLeast c) f g x y = (x, y)
until_lettered Every (AtMost c) f g x y = (x, y)
until_lettered Every (AtLeast c) f g x y = (x, y)

mutual
  unfolding spell_formula tree_formula

  pub formula_lettered : (f : Formula) (ss : List Sign) → AllByRecursion Fair (spell_formula f ss)
      → Lettered (tree_formula f) × AllByRecursion Fair ss
  formula_lettered (terms t ts) ss a =
      let x = term_lettered t (spell_terms ts ss) a in
      terms_lettered ts (tree_term t) ss x.0 x.1

  terms_lettered : (ts : Terms) (f : Rule) (ss : List Sign) → Lettered f → AllByRecursion Fair (spell_terms ts ss)
      → Lettered (tree_terms ts f) × AllByRecursion Fair ss
  terms_lettered no_term f ss l a = (l, a)
  terms_lettered (bar t ts) f ss l a =
      let x = term_lettered t (spell_terms ts ss) a.1 in
      terms_lettered ts _ ss (l, x.0) x.1

  term_lettered : (t : Term) (ss : List Sign) → AllByRecursion Fair (spell_term t ss)
      → Lettered (tree_term t) × AllByRecursion Fair ss
  term_lettered (items i is) ss a =
      let x = item_lettered i (spell_items is ss) a in
      items_lettered is (tree_item i) ss x.0 x.1

  items_lettered : (is : Items) (f : Rule) (ss : List Sign) → Lettered f → AllByRecursion Fair (spell_items is ss)
      → Lettered (tree_items is f) × AllByRecursion Fair ss
  items_lettered no_item f ss l a = (l, a)
  items_lettered (amp i is) f ss l a =
      let x = item_lettered i (spell_items is ss) a.1 in
      items_lettered is _ ss (l, x.0) x.1

  item_lettered : (i : Item) (ss : List Sign) → AllByRecursion Fair (spell_item i ss)
      → Lettered (tree_item i) × AllByRecursion Fair ss
  item_lettered one ss a = (tt, a.1)
  item_lettered (letter k) ss a = (a.0, a.1)
  item_lettered (not i) ss a = item_lettered i ss a.1
  item_lettered (round f) ss a =
      let x = formula_lettered f (Close ∷ ss) a.1 in
      (x.0, x.1.1)
  item_lettered (until q f b g) ss a =
      let x = formula_lettered f (spell_limit b (spell_formula g (CloseSquare ∷ ss))) a.1.1 in
      let y = formula_lettered g (CloseSquare ∷ ss) (limit_fair b _ x.1) in
      (until_lettered q (bound_of b) _ _ x.0 y.0, y.1.1)
