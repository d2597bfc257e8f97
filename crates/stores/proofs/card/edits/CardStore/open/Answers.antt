use Rattle.std.proofs.Common.{[], ◌∷◌, ◌++◌, refl, ap, ◌∙◌}
use Rattle.std.proofs.lemmas.Result.{err_from_is_err_and}
use Rattle.program.specs.declared.Stage.{Stage}
use Rattle.program.specs.declared.edit.Edit.TheVariants as edit
use Rattle.program.proofs.Doing.{opens, same_prog}
use Rattle.program.proofs.Kept.{does_tidy}
use Rattle.stores.specs.Cards.{card_caps}
use Rattle.stores.proofs.Refusals.{refuses}
use Rattle.stores.proofs.card.edits.CardStore.open.Goals as goal

pub returns-in_err-opened-clause-does : goal.returns-in_err-opened-clause-does
returns-in_err-opened-clause-does c =
    let p = err_from_is_err_and c.from_residual.result c.from_residual.ensures.1 in
    rw (p.1, p.2) (refuses _ _ _ (c.in_err-opened.ensures card_caps refl))

pub returns-clause-tidy : goal.returns-clause-tidy
returns-clause-tidy c =
    let allowed = c.in_ok-opened.ensures in
    let stages = c.push.ensures.appended ∙ ap (λ (v : Stage). c.args.self.now.stages ++ (v ∷ [])) allowed.is in
    does_tidy card_caps _ _ (edit.Open c.args.marks) _
    (λ _. opens card_caps _ _ _ _ refl allowed.fits (same_prog _ _ stages refl))
