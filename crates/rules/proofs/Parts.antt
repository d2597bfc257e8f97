-- The lines of a rule stand for its parts.
use Rattle.std.proofs.Common.{◌≡◌, ℕ, ◌+◌, ◌<◌, List, [], ◌∷◌, ◌++◌, length, get_or, sym, refl, ap, ◌∙◌, arith}
use Rattle.std.proofs.lemmas.List.{append_assoc, length_push, get_or_append_left, get_or_push}
use Rattle.tctl.specs.Rules.{Rule, one, letter, not, both, either, some_run, each_run, most, least}
use Rattle.tctl.specs.Rules as tree
use Rattle.rules.specs.declared.line.Quantifier.TheVariants.{Some, All}
use Rattle.rules.specs.declared.line.Line.{Line}
use Rattle.rules.specs.declared.line.Line.TheVariants.{One, Letter, Not, And, Or, Until}
use Rattle.rules.specs.Lines.{until_rule, rule_from, rules_of, rule_at}
use Rattle.rules.specs.Postorder.{bound_line, last, after_one, after_two, put, lines_of, parts_of, LinesStand}
use Rattle.rules.specs.Postorder.{LinesTell}
use Rattle.rules.proofs.Postorder.{put_longer}

rules_push : (rs : List Rule) (ls : List Line) (l : Line)
    → rules_of rs (ls ++ (l ∷ [])) ≡ rules_of rs ls ++ (rule_from (rules_of rs ls) l ∷ [])
rules_push rs [] l = refl
rules_push rs (m ∷ ls) l = rules_push (rs ++ (rule_from rs m ∷ [])) ls l

rules_length : (rs : List Rule) (ls : List Line) → length (rules_of rs ls) ≡ length rs + length ls
rules_length rs [] = omega arith
rules_length rs (l ∷ ls) = omega (arith, rules_length (rs ++ (rule_from rs l ∷ [])) ls, length_push rs (rule_from rs l))

-- the last part of a rule is the rule itself
parts_end : (f : Rule) → (rs : List Rule) × (parts_of f ≡ rs ++ (f ∷ []))
parts_end one = ([], refl)
parts_end (letter a) = ([], refl)
parts_end (not f) = (parts_of f, refl)
parts_end (both f g) = (parts_of f ++ parts_of g, refl)
parts_end (either f g) = (parts_of f ++ parts_of g, refl)
parts_end (some_run f b g) = (parts_of f ++ parts_of g, refl)
parts_end (each_run f b g) = (parts_of f ++ parts_of g, refl)

some_back : (b : tree.Bound) (f g : Rule) → until_rule Some (bound_line b) f g ≡ some_run f b g
some_back (most c) f g = refl
some_back (least c) f g = refl

each_back : (b : tree.Bound) (f g : Rule) → until_rule All (bound_line b) f g ≡ each_run f b g
each_back (most c) f g = refl
each_back (least c) f g = refl

-- the lines of f after ls stand for those before and for the parts of f
abbrev Goes : Rule → List Line → Type 0
Goes f ls = rules_of [] (put f ls) ≡ rules_of [] ls ++ parts_of f

-- the last line stands for f
goes_last : (f : Rule) (ls : List Line) → Goes f ls → get_or (rules_of [] (put f ls)) (last (put f ls)) one ≡ f
goes_last f ls h =
    let p = parts_end f in
    let e : rules_of [] (put f ls) ≡ (rules_of [] ls ++ p.0) ++ (f ∷ []) =
    h ∙ ap (λ xs. rules_of [] ls ++ xs) p.1 ∙ sym (append_assoc (rules_of [] ls) p.0 (f ∷ [])) in
    let k : length (rules_of [] ls ++ p.0) ≡ last (put f ls) =
    omega (arith, rules_length [] (put f ls), ap length e, length_push (rules_of [] ls ++ p.0) f) in
    ap (λ xs. get_or xs (last (put f ls)) one) e ∙ get_or_push (rules_of [] ls ++ p.0) f one (last (put f ls)) k

-- one line more, after those of a part
goes_one : (make : ℕ → Line) (grow : Rule → Rule) (f : Rule) (ls : List Line) → Goes f ls
    → ((rs : List Rule) (i : ℕ) → rule_from rs (make i) ≡ grow (get_or rs i one))
    → rules_of [] (after_one make (put f ls)) ≡ rules_of [] ls ++ (parts_of f ++ (grow f ∷ []))
goes_one make grow f ls h from =
    let ms = put f ls in
    let rs = rules_of [] ms in
    rules_push [] ms (make (last ms)) ∙ ap (λ x. rs ++ (x ∷ [])) (from rs (last ms) ∙ ap grow (goes_last f ls h))
    ∙ ap (λ xs. xs ++ (grow f ∷ [])) h ∙ append_assoc (rules_of [] ls) (parts_of f) (grow f ∷ [])

-- one line more, after those of two parts
goes_two : (make : ℕ → ℕ → Line) (grow : Rule → Rule → Rule) (f g : Rule) (ls : List Line) → Goes f ls
    → Goes g (put f ls)
    → ((rs : List Rule) (i j : ℕ) → rule_from rs (make i j) ≡ grow (get_or rs i one) (get_or rs j one))
    → rules_of [] (after_two make (put f ls) (put g (put f ls)))
    ≡ rules_of [] ls ++ (parts_of f ++ parts_of g ++ (grow f g ∷ []))
goes_two make grow f g ls h k from =
    let ms = put f ls in
    let ns = put g ms in
    let rs = rules_of [] ns in
    let i = last ms in
    let j = last ns in
    let below : i < length (rules_of [] ms) = omega (arith, rules_length [] ms, put_longer f ls) in
    let left : get_or rs i one ≡ f =
    ap (λ xs. get_or xs i one) k ∙ get_or_append_left (rules_of [] ms) (parts_of g) one i below ∙ goes_last f ls h in
    let right : get_or rs j one ≡ g = goes_last g ms k in
    let both-parts = from rs i j ∙ ap (λ x. grow x (get_or rs j one)) left ∙ ap (grow f) right in
    let before = k ∙ ap (λ xs. xs ++ parts_of g) h ∙ append_assoc (rules_of [] ls) (parts_of f) (parts_of g) in
    rules_push [] ns (make i j) ∙ ap (λ x. rs ++ (x ∷ [])) both-parts ∙ ap (λ xs. xs ++ (grow f g ∷ [])) before
    ∙ append_assoc (rules_of [] ls) (parts_of f ++ parts_of g) (grow f g ∷ [])

put_goes : (f : Rule) (ls : List Line) → Goes f ls
put_goes one ls = rules_push [] ls One
put_goes (letter a) ls = rules_push [] ls (Letter a)
put_goes (not f) ls = goes_one Not not f ls (put_goes f ls) (λ rs i. refl)
put_goes (both f g) ls = goes_two And both f g ls (put_goes f ls) (put_goes g (put f ls)) (λ rs i j. refl)
put_goes (either f g) ls = goes_two Or either f g ls (put_goes f ls) (put_goes g (put f ls)) (λ rs i j. refl)
put_goes (some_run f b g) ls =
    goes_two (λ i j. Until Some i (bound_line b) j) (λ x y. some_run x b y) f g ls (put_goes f ls)
    (put_goes g (put f ls))
    (λ rs i j. some_back b (get_or rs i one) (get_or rs j one))
put_goes (each_run f b g) ls =
    goes_two (λ i j. Until All i (bound_line b) j) (λ x y. each_run x b y) f g ls (put_goes f ls)
    (put_goes g (put f ls))
    (λ rs i j. each_back b (get_or rs i one) (get_or rs j one))

pub lines_stand_lem : LinesStand
lines_stand_lem f =
    record {
      count = omega (arith, rules_length [] (lines_of f), ap length (put_goes f []));
      each = λ k. ap (λ rs. get_or rs k one) (put_goes f []);
      whole = goes_last f [] (put_goes f []);
    }

pub lines_tell_lem : LinesTell
lines_tell_lem f g e = sym (lines_stand_lem f).whole ∙ ap (λ ls. rule_at ls (last ls)) e ∙ (lines_stand_lem g).whole
