use Rattle.std.proofs.Common.{◌∙◌, ap, refl}
use Rattle.std.specs.List.{remove}
use Rattle.std.proofs.lemmas.Option.{MatchOption-at_some}
use Rattle.program.specs.declared.edit.Edit.TheVariants as edit
use Rattle.program.proofs.Doing.{same_prog}
use Rattle.program.proofs.Kept.{does_tidy}
use Rattle.stores.specs.Joints.{JoinAllowed}
use Rattle.stores.specs.Cards.{card_caps}
use Rattle.stores.proofs.Joints.{joined_does, ends_kept_by_join, removed_last}
use Rattle.stores.proofs.card.edits.CardStore.join.Goals as goal

pub invariant_of-self-clause-ends : goal.invariant_of-self-clause-ends
invariant_of-self-clause-ends c =
    let card = c.args.self.now in
    let j = c.in_ok-joint.joint in
    let a = MatchOption-at_some _ (JoinAllowed _) j c.in_ok-joint.ensures.ok_part c.find_joint.ensures in
    let moves = c.take_out.ensures ∙ ap (λ ms. remove ms j.out_of) c.replace.ensures in
    let stages = c.take_out-2.ensures ∙ removed_last card.stages j.stage a.last in
    ends_kept_by_join _ j a _ (same_prog _ _ stages moves) card.ends

pub returns : goal.returns
returns c =
    let card = c.args.self.now in
    let j = c.in_ok-joint.joint in
    let a = MatchOption-at_some _ (JoinAllowed _) j c.in_ok-joint.ensures.ok_part c.find_joint.ensures in
    let moves = c.take_out.ensures ∙ ap (λ ms. remove ms j.out_of) c.replace.ensures in
    let stages = c.take_out-2.ensures ∙ removed_last card.stages j.stage a.last in
    let does = joined_does _ j a _ (same_prog _ _ stages moves) in
    record { does = does; tidy = does_tidy card_caps _ _ edit.Join _ does; kept = refl }
