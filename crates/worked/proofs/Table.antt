-- The table of worked cases passes the tests.
use Rattle.std.proofs.Common.{List, [], ◌∷◌, refl}
use Rattle.rules.specs.declared.line.Quantifier.TheVariants.{Some, All}
use Rattle.signs.specs.Signs.{sign, more, signs_after}
use Rattle.reader.specs.Parts.{Limit, plain, at_most, at_least, Formula, terms, no_term, items, no_item, amp}
use Rattle.reader.specs.Parts.{Item, one, letter, not, round, until, spell_formula, tree_formula}
use Rattle.worked.specs.Cases.{cases, WorkedCases}
use Rattle.worked.proofs.Rows.{rows_right}

-- An item alone, and `E` and `A` before a square bracket with two items.
abbrev just : Item → Formula
just i = terms (items i no_item) no_term

abbrev E : Item → Limit → Item → Item
E f bound g = until Some (just f) bound (just g)

abbrev A : Item → Limit → Item → Item
A f bound g = until All (just f) bound (just g)

abbrev a : Item
a = letter 0

abbrev b : Item
b = letter 1

abbrev c : Item
c = letter 2

-- The parts that each text is made of, in the order of the table.
abbrev parts : List Formula
parts =
    just (E one (at_most 180) c)
    ∷ just (E one (at_most 179) c)
    ∷ just (A one (at_most 1000) c)
    ∷ just (E (not c) (at_least 500) c)
    ∷ just (A one plain a)
    ∷ just (A a (at_least 60) b)
    ∷ just (A a (at_least 61) b)
    ∷ just (not (E one (at_most 130) c))
    ∷ just (E one (at_most 50) (round (terms (items (E one (at_most 130) c) (amp a no_item)) no_term)))
    ∷ just (A one (at_least 5) one)
    ∷ just (A one (at_least 5) one)
    ∷ []

pub worked_cases_lem : WorkedCases
unfolding sign more signs_after spell_formula tree_formula
worked_cases_lem = rows_right cases parts refl tt
