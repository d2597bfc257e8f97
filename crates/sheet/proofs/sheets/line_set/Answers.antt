use Rattle.std.proofs.Common.{◌≡◌, ℕ, get_or, sym, ap, ◌∙◌, rules}
use Rattle.tctl.specs.Holds.{marked}
use Rattle.tctl.specs.Checker.{non, at, open?, ◌and◌, ◌or◌}
use Rattle.sheet.specs.Sets.{has, stage_count, timed}
use Rattle.sheet.specs.Sheets.{bit, column, line_list}
use Rattle.sheet.proofs.Sets.{same_stages}
use Rattle.sheet.proofs.Bits.{column_at, columns_at}
use Rattle.sheet.proofs.sheets.line_set.Goals as goal

pub returns-in-One-clause-is : goal.returns-in-One-clause-is
returns-in-One-clause-is c =
    let paths = c.args.paths.now in
    let p = timed paths in
    let n = stage_count paths in
    let sheet = c.args.sheet.now in
    same_stages paths.stages.now (has c.fill.new.self) (λ (s : ℕ). open? p s)
    (λ s h. let e = c.fill.ensures.told s h in search rules)
    ∙ ap (line_list p (column n sheet)) (sym c.in-One.is)

pub returns-in-Letter-clause-is : goal.returns-in-Letter-clause-is
returns-in-Letter-clause-is c =
    let paths = c.args.paths.now in
    let p = timed paths in
    let letter = c.in-Letter.letter in
    let n = stage_count paths in
    same_stages paths.stages.now (has c.fill-in-Letter.new.self) (λ (s : ℕ). open? p s and marked p s letter)
    (λ s h. let e = c.fill-in-Letter.ensures.told s h in search rules)
    ∙ ap (line_list p (column n c.args.sheet.now)) (sym c.in-Letter.is)

pub returns-in-Not-clause-is : goal.returns-in-Not-clause-is
returns-in-Not-clause-is c =
    let paths = c.args.paths.now in
    let p = timed paths in
    let i = c.in-Not.i in
    let col = column (stage_count paths) c.args.sheet.now in
    let holds = c.fill-in-Not.new.self in
    same_stages paths.stages.now (has holds) (λ (s : ℕ). open? p s and non (at (col i) s))
    (λ s h.
    let e : has holds s ≡ (open? p s and non (bit i (get_or c.args.sheet.now s 0))) =
    (let o = c.fill-in-Not.ensures.told s h in search rules) in
    e ∙ ap (λ x. open? p s and non x) (column_at (stage_count paths) c.args.sheet.now i s h))
    ∙ ap (line_list p col) (sym c.in-Not.is)

pub returns-in-And-clause-is : goal.returns-in-And-clause-is
returns-in-And-clause-is c =
    let paths = c.args.paths.now in
    let p = timed paths in
    let i = c.in-And.i in
    let j = c.in-And.j in
    let sheet = c.args.sheet.now in
    let col = column (stage_count paths) sheet in
    let holds = c.fill-in-And.new.self in
    same_stages paths.stages.now (has holds) (λ (s : ℕ). at (col i) s and at (col j) s)
    (λ s h.
    let e : has holds s ≡ (bit i (get_or sheet s 0) and bit j (get_or sheet s 0)) =
    (let o = c.fill-in-And.ensures.told s h in search rules) in
    e ∙ columns_at (stage_count paths) sheet ◌and◌ i j s h)
    ∙ ap (line_list p col) (sym c.in-And.is)

pub returns-in-Or-clause-is : goal.returns-in-Or-clause-is
returns-in-Or-clause-is c =
    let paths = c.args.paths.now in
    let p = timed paths in
    let i = c.in-Or.i in
    let j = c.in-Or.j in
    let sheet = c.args.sheet.now in
    let col = column (stage_count paths) sheet in
    let holds = c.fill-in-Or.new.self in
    same_stages paths.stages.now (has holds) (λ (s : ℕ). at (col i) s or at (col j) s)
    (λ s h.
    let e : has holds s ≡ (bit i (get_or sheet s 0) or bit j (get_or sheet s 0)) =
    (let o = c.fill-in-Or.ensures.told s h in search rules) in
    e ∙ columns_at (stage_count paths) sheet ◌or◌ i j s h)
    ∙ ap (line_list p col) (sym c.in-Or.is)
