use Rattle.std.proofs.Common.{refl}
use Rattle.program.specs.declared.edit.Edit.TheVariants as edit
use Rattle.program.proofs.Doing.{cuts}
use Rattle.program.proofs.Kept.{does_tidy}
use Rattle.stores.specs.Cards.{card_caps}
use Rattle.stores.proofs.card.edits.CardStore.cut.Goals as goal

pub returns-clause-tidy : goal.returns-clause-tidy
returns-clause-tidy c =
    let a = c.in_ok-pieces.ensures in
    does_tidy card_caps _ _ (edit.Cut c.args.k c.args.place) _
    (λ _. cuts card_caps _ _ _ _ _ a.real a.inside refl a.stage_fits a.move_fits cc)
