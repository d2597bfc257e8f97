use Rattle.std.proofs.Common.{◌≡◌, string_bytes, decimal, rules, refl, sym, ap, ◌∙◌}
use Rattle.page.specs.Answers.{holds_in, listed, stages_of}
use Rattle.page.proofs.Printed.{joined_listed, positions_stages}
use Rattle.page.proofs.answers.write_holds.Goals as goal

pub returns : goal.returns
returns c =
    let k = c.args.line in
    let sheet = c.args.sheet.now in
    let text = c.in_ok-stages.ensures.text in
    let places = c.positions.ensures.runs text.0 text.0.seen text.1 in
    let found = places.2.1 (holds_in k) (search rules) in
    let ends = places.2.0 text.2 in
    let read : places.0.items ≡ sheet = search rules in
    let e : string_bytes c.in_ok-stages.stages ≡ listed (stages_of k sheet) =
    text.3 decimal (λ n. refl) ∙ joined_listed text.0.items
    ∙ ap listed (found.1 text.2 ∙ positions_stages k 0 places.0.items ∙ ap (stages_of k) read) in
    rw (sym e) (search rules)
