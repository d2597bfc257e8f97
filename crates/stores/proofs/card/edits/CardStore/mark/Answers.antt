use Rattle.std.proofs.Common.{◌≡◌, ℕ, ◌<◌, List, length, get_or, take, set, sym, refl, ap, ◌∙◌, arith}
use lib.Seq.{take-set-lt}
use Rattle.std.proofs.lemmas.List.{get_or-take, length-take}
use Rattle.program.specs.declared.Stage.{Stage}
use Rattle.program.specs.declared.Move.{Move}
use Rattle.program.specs.declared.edit.Edit.TheVariants as edit
use Rattle.program.specs.Meaning.{prog, no_stage}
use Rattle.program.specs.Edits.{with_marks}
use Rattle.program.proofs.Doing.{same_prog, marks_one}
use Rattle.program.proofs.Kept.{does_tidy}
use Rattle.stores.specs.Cards.{card_caps}
use Rattle.stores.proofs.card.edits.CardStore.mark.Goals as goal

-- xs are the records of a table, and ss the first n of them
card_marked : (n s m : ℕ) (xs ss : List Stage) (ms : List Move) (r : Stage) → take n xs ≡ ss → s < length ss
    → r ≡ record { marks = m; kind = (get_or xs s no_stage).kind }
    → prog (take n (set xs s r)) ms ≡ with_marks (prog ss ms) s m
card_marked n s m xs ss ms r e h marked =
    let below : s < n = let l = ap length e in let k = length-take n xs in omega arith in
    let kind : get_or xs s no_stage ≡ get_or ss s no_stage =
    sym (get_or-take n xs s no_stage below) ∙ ap (λ ys. get_or ys s no_stage) e in
    same_prog _ _
    (take-set-lt _ _ _ _ below ∙ ap (λ ys. set ys s r) e
    ∙ ap (set ss s) (marked ∙ ap (λ (f : Stage). record { marks = m; kind = f.kind }) kind)) refl

pub returns : goal.returns
returns c =
    let card = c.args.self.now in
    let allowed = c.in_ok-open_stage.ensures in
    let s = c.args.stage in
    let m = c.args.marks in
    let table = c.stages in
    let n = table.inside.table.count in
    let marked = card_marked n s m _ card.stages card.moves _ table.view_is allowed.stage c.set_marks.ensures in
    let does = marks_one _ _ s m allowed.stage allowed.shown marked in
    record { does = does; tidy = does_tidy card_caps _ _ (edit.Mark s m) _ (λ _. does); kept = refl }
