-- The grammar: which signs are a rule, and which rule they are.
use Rattle.std.specs.Prelude.{ℕ, List, [], ◌∷◌, ◌++◌}
use Rattle.tctl.specs.Rules.{Rule, Bound, one, letter, not, both, either, some_run, each_run, most, least}
use Rattle.rules.specs.declared.line.Quantifier.{Quantifier}
use Rattle.rules.specs.declared.line.Quantifier.TheVariants.{Some, All}
use Rattle.signs.specs.declared.Sign.{Sign}
use Rattle.signs.specs.declared.Sign.TheVariants.{Open, Close, OpenSquare, CloseSquare, Bang, Amp, Bar, Each, Until}
use Rattle.signs.specs.declared.Sign.TheVariants.{UntilAtMost, UntilAtLeast, Letter, Number}
use Rattle.signs.specs.Writing.{Writes}

-- A bound is `U`, which is `U>=0`, or `U<=` or `U>=` with a number.
pub data IsBound : List Sign → Bound → Type 0 where
  plain : IsBound (Until ∷ []) (least 0)
  at_most : {c : ℕ} → IsBound (UntilAtMost ∷ Number c ∷ []) (most c)
  at_least : {c : ℕ} → IsBound (UntilAtLeast ∷ Number c ∷ []) (least c)

-- `E` or `A`, and then `[`, a rule, a bound, a rule and `]`.
abbrev pub until_signs : Quantifier → List Sign → List Sign → List Sign → List Sign
until_signs q ss bs us = Each q ∷ OpenSquare ∷ (ss ++ (bs ++ (us ++ (CloseSquare ∷ []))))

mutual
  -- A rule is terms joined by `|`, which groups to the left.
  pub data IsRule : List Sign → Rule → Type 0 where
    term : {ss : List Sign} {f : Rule} → IsTerm ss f → IsRule ss f
    bar : {ss us : List Sign} {f g : Rule} → IsRule ss f → IsTerm us g → IsRule (ss ++ (Bar ∷ us)) (either f g)

  -- A term is items joined by `&`, which groups to the left.
  pub data IsTerm : List Sign → Rule → Type 0 where
    item : {ss : List Sign} {f : Rule} → IsItem ss f → IsTerm ss f
    amp : {ss us : List Sign} {f g : Rule} → IsTerm ss f → IsItem us g → IsTerm (ss ++ (Amp ∷ us)) (both f g)

  -- An item is `1`, a letter, `!` before an item, a rule in round brackets, or `E[` or `A[`, a rule, a bound, a rule
  -- and `]`.
  pub data IsItem : List Sign → Rule → Type 0 where
    one_sign : IsItem (Number 1 ∷ []) one
    letter_sign : {k : ℕ} → IsItem (Letter k ∷ []) (letter k)
    bang : {ss : List Sign} {f : Rule} → IsItem ss f → IsItem (Bang ∷ ss) (not f)
    round : {ss : List Sign} {f : Rule} → IsRule ss f → IsItem (Open ∷ (ss ++ (Close ∷ []))) f
    some : {ss bs us : List Sign} {f g : Rule} {b : Bound} → IsRule ss f → IsBound bs b → IsRule us g
        → IsItem (until_signs Some ss bs us) (some_run f b g)
    each : {ss bs us : List Sign} {f g : Rule} {b : Bound} → IsRule ss f → IsBound bs b → IsRule us g
        → IsItem (until_signs All ss bs us) (each_run f b g)

-- The text is read as the rule f.
pub record Reading (text : List ℕ) (f : Rule) : Type 0 where
  pub signs : List Sign
  pub written : Writes text signs
  pub grammar : IsRule signs f
