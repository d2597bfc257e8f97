-- The parts of a text as the readers take them, how each is written in signs, and the tree that it is.
use Rattle.std.specs.Prelude.{ℕ, List, ◌∷◌}
use Rattle.tctl.specs.Rules as tree
use Rattle.tctl.specs.Rules.{Rule}
use Rattle.rules.specs.declared.line.Bound.{Bound}
use Rattle.rules.specs.declared.line.Bound.TheVariants.{AtMost, AtLeast}
use Rattle.rules.specs.declared.line.Quantifier.{Quantifier}
use Rattle.rules.specs.Lines.{until_rule}
use Rattle.signs.specs.declared.Sign.{Sign}
use Rattle.signs.specs.declared.Sign.TheVariants.{Open, Close, OpenSquare, CloseSquare, Bang, Amp, Bar, Each, Until}
use Rattle.signs.specs.declared.Sign.TheVariants.{UntilAtMost, UntilAtLeast, Letter, Number}

pub data Limit : Type 0 where
  plain : Limit
  at_most : ℕ → Limit
  at_least : ℕ → Limit

mutual
  -- a rule is terms joined by |
  pub data Formula : Type 0 where
    terms : Term → Terms → Formula

  pub data Terms : Type 0 where
    no_term : Terms
    bar : Term → Terms → Terms

  -- a term is items joined by &
  pub data Term : Type 0 where
    items : Item → Items → Term

  pub data Items : Type 0 where
    no_item : Items
    amp : Item → Items → Items

  pub data Item : Type 0 where
    one : Item
    letter : ℕ → Item
    not : Item → Item
    round : Formula → Item
    until : Quantifier → Formula → Limit → Formula → Item

-- a limit as signs, before others
abbrev pub spell_limit : Limit → List Sign → List Sign
spell_limit plain ss = Until ∷ ss
spell_limit (at_most n) ss = UntilAtMost ∷ Number n ∷ ss
spell_limit (at_least n) ss = UntilAtLeast ∷ Number n ∷ ss

abbrev pub bound_of : Limit → Bound
bound_of plain = AtLeast 0
bound_of (at_most n) = AtMost n
bound_of (at_least n) = AtLeast n

unfoldable mutual
  pub spell_formula : Formula → List Sign → List Sign
  spell_formula (terms t ts) ss = spell_term t (spell_terms ts ss)

  pub spell_terms : Terms → List Sign → List Sign
  spell_terms no_term ss = ss
  spell_terms (bar t ts) ss = Bar ∷ spell_term t (spell_terms ts ss)

  pub spell_term : Term → List Sign → List Sign
  spell_term (items i is) ss = spell_item i (spell_items is ss)

  pub spell_items : Items → List Sign → List Sign
  spell_items no_item ss = ss
  spell_items (amp i is) ss = Amp ∷ spell_item i (spell_items is ss)

  pub spell_item : Item → List Sign → List Sign
  spell_item one ss = Number 1 ∷ ss
  spell_item (letter k) ss = Letter k ∷ ss
  spell_item (not i) ss = Bang ∷ spell_item i ss
  spell_item (round f) ss = Open ∷ spell_formula f (Close ∷ ss)
  spell_item (until q f b g) ss =
      Each q ∷ OpenSquare ∷ spell_formula f (spell_limit b (spell_formula g (CloseSquare ∷ ss)))

unfoldable mutual
  pub tree_formula : Formula → Rule
  tree_formula (terms t ts) = tree_terms ts (tree_term t)

  -- | groups to the left: f is what was read, the left part of the next
  pub tree_terms : Terms → Rule → Rule
  tree_terms no_term f = f
  tree_terms (bar t ts) f = tree_terms ts (tree.either f (tree_term t))

  pub tree_term : Term → Rule
  tree_term (items i is) = tree_items is (tree_item i)

  pub tree_items : Items → Rule → Rule
  tree_items no_item f = f
  tree_items (amp i is) f = tree_items is (tree.both f (tree_item i))

  pub tree_item : Item → Rule
  tree_item one = tree.one
  tree_item (letter k) = tree.letter k
  tree_item (not i) = tree.not (tree_item i)
  tree_item (round f) = tree_formula f
  tree_item (until q f b g) = until_rule q (bound_of b) (tree_formula f) (tree_formula g)

-- what stands after E or A
pub data Body : Type 0 where
  body : Formula → Limit → Formula → Body

unfoldable pub spell_body : Body → List Sign → List Sign
spell_body (body f b g) ss = OpenSquare ∷ spell_formula f (spell_limit b (spell_formula g (CloseSquare ∷ ss)))

unfoldable pub tree_body : Quantifier → Body → Rule
tree_body q (body f b g) = until_rule q (bound_of b) (tree_formula f) (tree_formula g)
