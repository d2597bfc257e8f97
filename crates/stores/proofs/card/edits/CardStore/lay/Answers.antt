use Rattle.std.proofs.Common.{refl}
use Rattle.std.proofs.lemmas.Result.{err_from_is_err_and}
use Rattle.program.specs.declared.edit.Edit.TheVariants as edit
use Rattle.program.proofs.Doing.{lays}
use Rattle.program.proofs.Kept.{does_tidy}
use Rattle.stores.specs.Cards.{card_caps}
use Rattle.stores.proofs.Refusals.{refuses}
use Rattle.stores.proofs.card.edits.CardStore.lay.Goals as goal

pub returns-in_err-laid-clause-does : goal.returns-in_err-laid-clause-does
returns-in_err-laid-clause-does c =
    let p = err_from_is_err_and c.from_residual.result c.from_residual.ensures.1 in
    rw (p.1, p.2) (refuses _ _ _ (c.in_err-laid.ensures card_caps refl))

pub returns-clause-tidy : goal.returns-clause-tidy
returns-clause-tidy c =
    let a = c.in_ok-laid.ensures in
    does_tidy card_caps _ _ (edit.Lay c.args.leaves c.args.minutes c.args.enters) _
    (λ _. lays card_caps _ _ _ _ _ _ a.leaves_stage a.enters_stage a.leaves_open a.enters_open a.short refl a.fits cc)
