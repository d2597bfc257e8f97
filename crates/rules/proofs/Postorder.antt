-- The lines of a rule are well formed where its letters are those from a to p and its numbers small.
use Rattle.std.proofs.Common.{ℕ, ◌<◌, ◌≤◌, List, [], ◌∷◌, ◌++◌, length, get_or, sym, refl, subst, inl, inr}
use Rattle.std.proofs.Common.{eq-or-lt_of_le, arith}
use Rattle.std.proofs.lemmas.List.{get_or_append_left, get_or_push, length_push}
use Rattle.tctl.specs.Rules.{Rule, one, letter, not, both, either, some_run, each_run}
use Rattle.rules.specs.declared.line.Quantifier.TheVariants.{Some, All}
use Rattle.rules.specs.declared.line.Line.{Line}
use Rattle.rules.specs.declared.line.Line.TheVariants.{One, Letter, Not, And, Or, Until}
use Rattle.rules.specs.Lines.{Formed, WellFormed, largest_number}
use Rattle.rules.specs.Postorder.{bound_line, last, after_two, put, line_number, Small, Large}

-- every letter of the rule is one of sixteen
abbrev pub Lettered : Rule → Type 0
Lettered one = Unit {0}
Lettered (letter a) = a < 16
Lettered (not f) = Lettered f
Lettered (both f g) = Lettered f × Lettered g
Lettered (either f g) = Lettered f × Lettered g
Lettered (some_run f b g) = Lettered f × Lettered g
Lettered (each_run f b g) = Lettered f × Lettered g

-- what is so of each line before a new one, and of that, is so of each
push_cases : (P : ℕ → Line → Type 0) (ls : List Line) (l : Line) → ((k : ℕ) → k < length ls → P k (get_or ls k One))
    → P (length ls) l → (k : ℕ) → k < length (ls ++ (l ∷ [])) → P k (get_or (ls ++ (l ∷ [])) k One)
push_cases P ls l before here k h =
    elim (eq-or-lt_of_le {n = k} {m = length ls} (omega (arith, length_push ls l))) [
      | inl e ↦ subst (P k) (sym (get_or_push ls l One k (sym e))) (subst (λ n. P n l) (sym e) here)
      | inr lt ↦ subst (P k) (sym (get_or_append_left ls (l ∷ []) One k lt)) (before k lt)
    ]

-- of a line before the last, and of the last
at_front : (P : Line → Type 0) (ls : List Line) (l : Line) (k : ℕ) → k < length ls → P (get_or (ls ++ (l ∷ [])) k One)
    → P (get_or ls k One)
at_front P ls l k h p = subst P (get_or_append_left ls (l ∷ []) One k h) p

at_last : (P : Line → Type 0) (ls : List Line) (l : Line) → P (get_or (ls ++ (l ∷ [])) (length ls) One) → P l
at_last P ls l p = subst P (get_or_push ls l One (length ls) refl) p

pub small_front : (ls : List Line) (l : Line) → Small (ls ++ (l ∷ [])) → Small ls
small_front ls l s k h = at_front (λ x. line_number x ≤ largest_number) ls l k h (s k (omega (arith, length_push ls l)))

pub small_last : (ls : List Line) (l : Line) → Small (ls ++ (l ∷ [])) → line_number l ≤ largest_number
small_last ls l s = at_last (λ x. line_number x ≤ largest_number) ls l (s (length ls) (omega (arith, length_push ls l)))

pub small_push : (ls : List Line) (l : Line) → Small ls → line_number l ≤ largest_number → Small (ls ++ (l ∷ []))
small_push ls l s h = push_cases (λ k x. line_number x ≤ largest_number) ls l s h

pub large_push : (ls : List Line) (l : Line) → Large ls → Large (ls ++ (l ∷ []))
large_push ls l (k, h, n) = (
  k,
  omega (arith, length_push ls l),
  subst (λ x. largest_number < line_number x)
      (sym (get_or_append_left ls (l ∷ []) One k h)) n,
)

pub large_last : (ls : List Line) (l : Line) → largest_number < line_number l → Large (ls ++ (l ∷ []))
large_last ls l n = (
  length ls,
  omega (arith, length_push ls l),
  subst (λ x. largest_number < line_number x)
      (sym (get_or_push ls l One (length ls) refl)) n,
)

longer_two : (make : ℕ → ℕ → Line) (ls ms ns : List Line) → length ls < length ms → length ms < length ns
    → length ls < length (after_two make ms ns)
longer_two make ls ms ns p q = omega (arith, length_push ns (make (last ms) (last ns)))

-- a rule adds a line at least
pub put_longer : (f : Rule) (ls : List Line) → length ls < length (put f ls)
put_longer one ls = omega (arith, length_push ls One)
put_longer (letter a) ls = omega (arith, length_push ls (Letter a))
put_longer (not f) ls = omega (arith, put_longer f ls, length_push (put f ls) (Not (last (put f ls))))
put_longer (both f g) ls = longer_two And ls (put f ls) (put g (put f ls)) (put_longer f ls) (put_longer g (put f ls))
put_longer (either f g) ls = longer_two Or ls (put f ls) (put g (put f ls)) (put_longer f ls) (put_longer g (put f ls))
put_longer (some_run f b g) ls =
    longer_two (λ i j. Until Some i (bound_line b) j) ls (put f ls) (put g (put f ls)) (put_longer f ls)
    (put_longer g (put f ls))
put_longer (each_run f b g) ls =
    longer_two (λ i j. Until All i (bound_line b) j) ls (put f ls) (put g (put f ls)) (put_longer f ls)
    (put_longer g (put f ls))

formed_push : (ls : List Line) (l : Line) → WellFormed ls → Formed (length ls) l → WellFormed (ls ++ (l ∷ []))
formed_push ls l w h = push_cases Formed ls l w h

-- what stood before a rule's lines is small where all is
put_small : (f : Rule) (ls : List Line) → Small (put f ls) → Small ls
put_small one ls s = small_front ls _ s
put_small (letter a) ls s = small_front ls _ s
put_small (not f) ls s = put_small f ls (small_front (put f ls) _ s)
put_small (both f g) ls s = put_small f ls (put_small g (put f ls) (small_front _ _ s))
put_small (either f g) ls s = put_small f ls (put_small g (put f ls) (small_front _ _ s))
put_small (some_run f b g) ls s = put_small f ls (put_small g (put f ls) (small_front _ _ s))
put_small (each_run f b g) ls s = put_small f ls (put_small g (put f ls) (small_front _ _ s))

-- a line after those of two parts f and g, which are well formed where they are small
formed_two : (make : ℕ → ℕ → Line) (f g : Rule) (ls : List Line)
    → let ms = put f ls in let ns = put g ms in (WellFormed ls → Small ms → WellFormed ms)
    → (WellFormed ms → Small ns → WellFormed ns) → WellFormed ls → Small (after_two make ms ns)
    → (last ms < length ns → last ns < length ns → Formed (length ns) (make (last ms) (last ns)))
    → WellFormed (after_two make ms ns)
formed_two make f g ls left right w s here =
    let ms = put f ls in let ns = put g ms in
    let t = small_front ns _ s in
    formed_push ns (make (last ms) (last ns)) (right (left w (put_small g ms t)) t)
    (here (omega (arith, put_longer f ls, put_longer g ms)) (omega (arith, put_longer g ms)))

-- where the lines that stand already are well formed, those of a rule are so too
pub put_formed : (f : Rule) (ls : List Line) → Lettered f → WellFormed ls → Small (put f ls) → WellFormed (put f ls)
put_formed one ls a w s = formed_push ls One w tt
put_formed (letter k) ls a w s = formed_push ls (Letter k) w a
put_formed (not f) ls a w s =
    let ms = put f ls in
    formed_push ms (Not (last ms)) (put_formed f ls a w (small_front ms _ s)) (omega (arith, put_longer f ls))
put_formed (both f g) ls a w s =
    formed_two And f g ls (put_formed f ls a.0) (put_formed g (put f ls) a.1) w s (λ p q. (p, q))
put_formed (either f g) ls a w s =
    formed_two Or f g ls (put_formed f ls a.0) (put_formed g (put f ls) a.1) w s (λ p q. (p, q))
put_formed (some_run f b g) ls a w s =
    formed_two (λ i j. Until Some i (bound_line b) j) f g ls (put_formed f ls a.0)
    (put_formed g (put f ls) a.1) w s
    (λ p q. (p, q, small_last _ _ s))
put_formed (each_run f b g) ls a w s =
    formed_two (λ i j. Until All i (bound_line b) j) f g ls (put_formed f ls a.0) (put_formed g (put f ls) a.1) w s
    (λ p q. (p, q, small_last _ _ s))
