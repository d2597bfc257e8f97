-- Where the rules of lines hold, from where those of their parts do.
use Rattle.std.proofs.Common.{◌≡◌, ℕ, ◌<◌, Bool, false, List, [], length, get_or, sym, refl, ap, ◌∙◌}
use Rattle.tctl.specs.Graph.{Graph, size}
use Rattle.tctl.specs.Rules.{Rule, one}
use Rattle.tctl.specs.Checker.{non, table, at, open?, where_holds, ◌and◌, ◌or◌}
use Rattle.tctl.proofs.Basics.{table_at}
use Rattle.rules.specs.declared.line.Quantifier.{Quantifier}
use Rattle.rules.specs.declared.line.Quantifier.TheVariants as quantifier
use Rattle.rules.specs.declared.line.Bound.{Bound}
use Rattle.rules.specs.declared.line.Bound.TheVariants as bound
use Rattle.rules.specs.declared.line.Line.{Line}
use Rattle.rules.specs.declared.line.Line.TheVariants as line
use Rattle.rules.specs.Lines.{until_rule, rule_from, rules_of, rule_at, Formed}
use Rattle.rules.proofs.Ruled.{rule_at-formed}
use Rattle.sheet.specs.Sheets.{until_list, line_list}
use Rattle.sheet.proofs.Sets.{table_same}

table_self : (n : ℕ) (f : ℕ → Bool) → table n (at (table n f)) ≡ table n f
table_self n f = table_same (at (table n f)) f n (λ s h. table_at f false n s h)

until_self : (p : Graph) (q : Quantifier) (b : Bound) (f g : List Bool) → table (size p) (at (until_list p q b f g))
    ≡ until_list p q b f g
until_self p quantifier.Some (bound.AtMost c) f g = table_self (size p) _
until_self p quantifier.Some (bound.AtLeast c) f g = table_self (size p) _
until_self p quantifier.All (bound.AtMost c) f g = table_self (size p) _
until_self p quantifier.All (bound.AtLeast c) f g = table_self (size p) _

pub line_self : (p : Graph) (col : ℕ → List Bool) (l : Line)
    → table (size p) (at (line_list p col l)) ≡ line_list p col l
line_self p col line.One = table_self (size p) _
line_self p col (line.Letter a) = table_self (size p) _
line_self p col (line.Not i) = table_self (size p) _
line_self p col (line.And i j) = table_self (size p) _
line_self p col (line.Or i j) = table_self (size p) _
line_self p col (line.Until q i b j) = until_self p q b (col i) (col j)

until_holds : (p : Graph) (q : Quantifier) (b : Bound) (f g : Rule) → where_holds p (until_rule q b f g)
    ≡ until_list p q b (where_holds p f) (where_holds p g)
until_holds p quantifier.Some (bound.AtMost c) f g = refl
until_holds p quantifier.Some (bound.AtLeast c) f g = refl
until_holds p quantifier.All (bound.AtMost c) f g = refl
until_holds p quantifier.All (bound.AtLeast c) f g = refl

pub line_holds : (p : Graph) (rs : List Rule) (l : Line) → where_holds p (rule_from rs l)
    ≡ line_list p (λ j. where_holds p (get_or rs j one)) l
line_holds p rs line.One = refl
line_holds p rs (line.Letter a) = refl
line_holds p rs (line.Not i) = refl
line_holds p rs (line.And i j) = refl
line_holds p rs (line.Or i j) = refl
line_holds p rs (line.Until q i b j) = until_holds p q b (get_or rs i one) (get_or rs j one)

pub line_same : (p : Graph) (k : ℕ) (l : Line) → Formed k l → (col col' : ℕ → List Bool)
    → ((j : ℕ) → j < k → col j ≡ col' j) → line_list p col l ≡ line_list p col' l
line_same p k line.One w col col' e = refl
line_same p k (line.Letter a) w col col' e = refl
line_same p k (line.Not i) w col col' e = ap (λ (x : List Bool). table (size p) (λ s. open? p s and non (at x s)))
    (e i w)
line_same p k (line.And i j) w col col' e =
    ap (λ (x : List Bool). table (size p) (λ s. at x s and at (col j) s)) (e i w.0)
    ∙ ap (λ (x : List Bool). table (size p) (λ s. at (col' i) s and at x s)) (e j w.1)
line_same p k (line.Or i j) w col col' e =
    ap (λ (x : List Bool). table (size p) (λ s. at x s or at (col j) s)) (e i w.0)
    ∙ ap (λ (x : List Bool). table (size p) (λ s. at (col' i) s or at x s)) (e j w.1)
line_same p k (line.Until q i b j) w col col' e =
    ap (λ (x : List Bool). until_list p q b x (col j)) (e i w.0)
    ∙ ap (λ (x : List Bool). until_list p q b (col' i) x) (e j w.1)

-- Where line k holds, from the columns of the lines before it.
pub column_is : (p : Graph) (ls : List Line) (k : ℕ) (col : ℕ → List Bool) → k < length ls
    → Formed k (get_or ls k line.One)
    → ((j : ℕ) → j < k → col j ≡ where_holds p (rule_at ls j))
    → table (size p) (at (line_list p col (get_or ls k line.One))) ≡ where_holds p (rule_at ls k)
column_is p ls k col h w e =
    line_self p col (get_or ls k line.One)
    ∙ line_same p k (get_or ls k line.One) w col (λ j. where_holds p (rule_at ls j)) e
    ∙ sym (line_holds p (rules_of [] ls) (get_or ls k line.One))
    ∙ ap (where_holds p) (sym (rule_at-formed ls k h w))
