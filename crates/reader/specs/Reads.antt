-- What the readers promise.
use Rattle.std.specs.Prelude.{◌≡◌, ℕ, ◌-◌, ◌<◌, Bool, List, [], ◌∷◌, length, MatchBool, Option, ◌≢◌}
use Rattle.std.specs.Borrow.{Bor}
use Rattle.std.specs.declared.option.Option.TheVariants as option
use Rattle.tctl.specs.Rules.{Rule}
use Rattle.rules.specs.declared.line.Bound.{Bound}
use Rattle.rules.specs.declared.line.Bound.TheVariants.{AtMost, AtLeast}
use Rattle.rules.specs.declared.line.Line.{Line}
use Rattle.rules.specs.declared.line.Quantifier.{Quantifier}
use Rattle.rules.specs.Postorder.{put, lines_of}
use Rattle.signs.specs.declared.Sign.{Sign}
use Rattle.signs.specs.declared.Sign.TheVariants.{Amp, Bar}
use Rattle.signs.specs.Signs.{signs, cap}
use Rattle.signs.specs.First.{Begins}
use Rattle.reader.specs.declared.draft.Draft.{Draft}
use Rattle.reader.specs.declared.parts.Reader.{Reader}
use Rattle.reader.specs.Drafts.{Drawn}
use Rattle.reader.specs.Grammar.{Reading}
use Rattle.reader.specs.Parts.{Limit, spell_limit, bound_of, spell_formula, spell_term, spell_item, spell_body}
use Rattle.reader.specs.Parts.{tree_formula, tree_term, tree_item, tree_body}

-- the signs do not go on with s
abbrev pub Without : Sign → List Sign → Type 0
Without s [] = Unit {0}
Without s (t ∷ ts) = t ≡ s → ⊥

abbrev pub Anything : List Sign → Type 0
Anything ss = Unit {0}

abbrev pub NoAmp : List Sign → Type 0
NoAmp ss = Without Amp ss

abbrev pub NoJoint : List Sign → Type 0
NoJoint ss = Without Amp ss × Without Bar ss

-- the text is a part of the grammar, written out by spell, and then rest; the lines of its tree are noted, the last of
-- them under the number
pub record Took {F : Type 0} (spell : F → List Sign → List Sign) (tree : F → Rule) (Stop : List Sign → Type 0)
    (text rest : List ℕ) (before after : Draft) (number : ℕ) : Type 0 where
  pub part : F
  pub splits : signs text ≡ spell part (signs rest)
  pub adds : (ls : List Line) → Drawn before ls → Drawn after (put (tree part) ls)
  pub last : number ≡ after.count - 1
  pub stops : Stop (signs rest)
  pub shorter : length rest < length text

-- the text does not begin with a part that is followed as Stop says
abbrev pub Lacks : {F : Type 0} → (F → List Sign → List Sign) → (List Sign → Type 0) → List ℕ → Type 0
Lacks {F} spell Stop text = (p : F) (ss : List Sign) → signs text ≡ spell p ss → Stop ss → ⊥

abbrev pub Reads : {F : Type 0} → (F → List Sign → List Sign) → (F → Rule) → (List Sign → Type 0) → Reader → Reader
    → Option ℕ → Type 0
Reads spell tree Stop before after (option.Some number) =
    Took spell tree Stop before.rest.now after.rest.now before.draft after.draft number
Reads spell tree Stop before after option.None = Lacks spell Stop before.rest.now

-- a rule is read up to what is neither | nor &, a term up to what is no &
abbrev pub ReadsRule : Reader → Reader → Option ℕ → Type 0
ReadsRule before after r = Reads spell_formula tree_formula NoJoint before after r

abbrev pub ReadsTerm : Reader → Reader → Option ℕ → Type 0
ReadsTerm before after r = Reads spell_term tree_term NoAmp before after r

abbrev pub ReadsItem : Reader → Reader → Option ℕ → Type 0
ReadsItem before after r = Reads spell_item tree_item Anything before after r

-- what stands after E or A
abbrev pub ReadsBody : Quantifier → Reader → Reader → Option ℕ → Type 0
ReadsBody q before after r = Reads spell_body (tree_body q) Anything before after r

-- a bound as the code tells it
abbrev pub told_bound : Bound → Bound
told_bound (AtMost n) = AtMost (cap n)
told_bound (AtLeast n) = AtLeast (cap n)

pub record TookLimit (text : List ℕ) (b : Bound) (rest : List ℕ) : Type 0 where
  pub limit : Limit
  pub splits : signs text ≡ spell_limit limit (signs rest)
  pub bound : b ≡ told_bound (bound_of limit)
  pub shorter : length rest < length text

abbrev pub Limits : List ℕ → Option (Bound × Bor (List ℕ)) → Type 0
Limits text (option.Some p) = TookLimit text p.0 p.1.now
Limits text option.None = (b : Limit) (ss : List Sign) → signs text ≢ spell_limit b ss

-- whether a text has no sign left
abbrev pub Ends : List ℕ → Bool → Type 0
Ends text r = MatchBool r (signs text ≡ []) ((s : Sign) × (rest : List ℕ) × Begins text s rest)

-- the text is read as a rule, whose lines the draft stands for
pub record Drafted (text : List ℕ) (d : Draft) : Type 0 where
  pub rule : Rule
  pub reading : Reading text rule
  pub drawn : Drawn d (lines_of rule)

abbrev pub DraftOf : List ℕ → Option Draft → Type 0
DraftOf text (option.Some d) = Drafted text d
DraftOf text option.None = (f : Rule) → Reading text f → ⊥
