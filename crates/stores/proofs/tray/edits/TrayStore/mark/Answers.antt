use Rattle.program.specs.declared.edit.Edit.TheVariants as edit
use Rattle.program.proofs.Doing.{marks_one}
use Rattle.program.proofs.Kept.{does_tidy}
use Rattle.stores.specs.Records.{stage_layout}
use Rattle.stores.specs.Trays.{areas_room}
use Rattle.stores.proofs.Areas.{below-in_use}
use Rattle.stores.proofs.Trays.{tray_marked}
use Rattle.stores.proofs.Kept.{ends_kept_by_mark}
use Rattle.stores.proofs.tray.edits.TrayStore.mark.Goals as goal

pub invariant_of-self-clause-stage_area : goal.invariant_of-self-clause-stage_area
invariant_of-self-clause-stage_area c =
    let tray = c.args.self.now in
    let a = c.in_ok-found.ensures in
    let below = below-in_use stage_layout tray.stage_count _ tray.areas.now.stages.items a.stage in
    (tray_marked _ _ _ _ tray.stage_area tray.move_area _ c.args.marks _ _ below a.is c.put.ensures.items).stage_area

pub invariant_of-self-clause-ends : goal.invariant_of-self-clause-ends
invariant_of-self-clause-ends c =
    let tray = c.args.self.now in
    let a = c.in_ok-found.ensures in
    let below = below-in_use stage_layout tray.stage_count _ tray.areas.now.stages.items a.stage in
    let marked = tray_marked _ _ _ _ tray.stage_area tray.move_area _ c.args.marks _ _ below a.is c.put.ensures.items in
    ends_kept_by_mark _ _ c.args.stage c.args.marks marked.is tray.ends

pub returns-clause-does : goal.returns-clause-does
returns-clause-does c =
    let tray = c.args.self.now in
    let a = c.in_ok-found.ensures in
    let below = below-in_use stage_layout tray.stage_count _ tray.areas.now.stages.items a.stage in
    let marked = tray_marked _ _ _ _ tray.stage_area tray.move_area _ c.args.marks _ _ below a.is c.put.ensures.items in
    marks_one _ _ _ _ a.stage a.shown marked.is

pub returns-clause-tidy : goal.returns-clause-tidy
returns-clause-tidy c =
    does_tidy (areas_room c.args.self.now.areas.now) _ _ (edit.Mark c.args.stage c.args.marks) _
    (λ _. returns-clause-does c)
