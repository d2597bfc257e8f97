-- The rule of a line is made of those of its parts, which are rules of earlier lines.
use Rattle.std.proofs.Common.{◌≡◌, ℕ, zero, suc, ◌+◌, ◌<◌, ◌≤◌, List, [], ◌∷◌, ◌++◌, length, get_or, sym, refl, ap, ◌∙◌}
use Rattle.std.proofs.Common.{not-suc-le-zero, zero-add, arith}
use Rattle.std.proofs.lemmas.List.{length_push, get_or_append_left, get_or_push}
use Rattle.tctl.specs.Rules.{Rule, one, not, both, either}
use Rattle.rules.specs.declared.line.Line.{Line}
use Rattle.rules.specs.declared.line.Line.TheVariants as line
use Rattle.rules.specs.Lines.{until_rule, rule_from, rules_of, rule_at, Formed}

-- what may stand at a place may stand at a later one
pub formed_more : (k m : ℕ) (l : Line) → k ≤ m → Formed k l → Formed m l
formed_more k m line.One h w = tt
formed_more k m (line.Letter a) h w = w
formed_more k m (line.Not i) h w = omega arith
formed_more k m (line.And i j) h w = (omega (arith, w.0), omega (arith, w.1))
formed_more k m (line.Or i j) h w = (omega (arith, w.0), omega (arith, w.1))
formed_more k m (line.Until q i b j) h w = (omega (arith, w.0), omega (arith, w.1), w.2)

rule_same : (k : ℕ) (l : Line) → Formed k l → (rs rs' : List Rule)
    → ((j : ℕ) → j < k → get_or rs j one ≡ get_or rs' j one) → rule_from rs l ≡ rule_from rs' l
rule_same k line.One w rs rs' e = refl
rule_same k (line.Letter a) w rs rs' e = refl
rule_same k (line.Not i) w rs rs' e = ap not (e i w)
rule_same k (line.And i j) w rs rs' e = ap (λ x. both x (get_or rs j one)) (e i w.0) ∙ ap (both (get_or rs' i one))
    (e j w.1)
rule_same k (line.Or i j) w rs rs' e = ap (λ x. either x (get_or rs j one)) (e i w.0) ∙ ap (either (get_or rs' i one))
    (e j w.1)
rule_same k (line.Until q i b j) w rs rs' e =
    ap (λ x. until_rule q b x (get_or rs j one)) (e i w.0) ∙ ap (until_rule q b (get_or rs' i one)) (e j w.1)

rules_kept : (ls : List Line) (rs : List Rule) (j : ℕ) → j < length rs → get_or (rules_of rs ls) j one ≡ get_or rs j one
rules_kept [] rs j h = refl
rules_kept (l ∷ ls) rs j h =
    let n = length_push rs (rule_from rs l) in
    rules_kept ls (rs ++ (rule_from rs l ∷ [])) j (omega arith) ∙ get_or_append_left rs (rule_from rs l ∷ []) one j h

rules_next : (ls : List Line) (rs : List Rule) (k m : ℕ) → k < length ls → length rs + k ≡ m
    → Formed m (get_or ls k line.One)
    → get_or (rules_of rs ls) m one ≡ rule_from (rules_of rs ls) (get_or ls k line.One)
rules_next [] rs k m h e w = absurd (not-suc-le-zero h)
rules_next (l ∷ ls) rs zero m h e w =
    let n = length_push rs (rule_from rs l) in
    let z : length rs ≡ m = omega arith in
    rules_kept ls (rs ++ (rule_from rs l ∷ [])) m (omega arith) ∙ get_or_push rs (rule_from rs l) one m z
    ∙ rule_same m l w rs (rules_of (rs ++ (rule_from rs l ∷ [])) ls)
    (λ j b. sym (rules_kept ls (rs ++ (rule_from rs l ∷ [])) j (omega arith)
    ∙ get_or_append_left rs (rule_from rs l ∷ []) one j (omega arith)))
rules_next (l ∷ ls) rs (suc k) m h e w =
    let n = length_push rs (rule_from rs l) in
    rules_next ls (rs ++ (rule_from rs l ∷ [])) k m (omega arith) (omega arith) w

-- The rule of a line is made of those of its parts.
pub rule_at-formed : (ls : List Line) (k : ℕ) → k < length ls → Formed k (get_or ls k line.One) → rule_at ls k
    ≡ rule_from (rules_of [] ls) (get_or ls k line.One)
rule_at-formed ls k h w = rules_next ls [] k k h (zero-add k) w
