use Rattle.std.proofs.Common.{sym, arith}
use Rattle.std.proofs.lemmas.Result.{err_from_is_err_and}
use Rattle.program.specs.declared.edit.Edit.TheVariants as edit
use Rattle.program.proofs.Doing.{opens}
use Rattle.program.proofs.Kept.{does_tidy}
use Rattle.stores.specs.Records.{stage_layout}
use Rattle.stores.specs.Trays.{areas_room}
use Rattle.stores.specs.InUse.{length_in_use}
use Rattle.stores.proofs.Trays.{tray_opened}
use Rattle.stores.proofs.Refusals.{refuses}
use Rattle.stores.proofs.Kept.{ends_kept_by_open}
use Rattle.stores.proofs.tray.edits.TrayStore.open.Goals as goal

pub returns-in_err-opened-clause-does : goal.returns-in_err-opened-clause-does
returns-in_err-opened-clause-does c =
    let p = err_from_is_err_and c.from_residual.result c.from_residual.ensures.1 in
    rw (p.1, p.2)
    (refuses _ _ _ (c.in_err-opened.ensures (areas_room c.args.self.now.areas.now) (sym c.stage_capacity.ensures)))

pub invariant_of-self-clause-stage_area : goal.invariant_of-self-clause-stage_area
invariant_of-self-clause-stage_area c =
    let tray = c.args.self.now in
    (tray_opened _ _ _ _ tray.stage_area tray.move_area _ _ _ c.in_ok-opened.ensures.is c.put.ensures.items).stage_area

pub invariant_of-self-clause-ends : goal.invariant_of-self-clause-ends
invariant_of-self-clause-ends c =
    let tray = c.args.self.now in
    let allowed = c.in_ok-opened.ensures in
    let opened = tray_opened _ _ _ _ tray.stage_area tray.move_area _ _ _ allowed.is c.put.ensures.items in
    ends_kept_by_open _ _ c.args.marks opened.is tray.ends

pub returns-clause-does : goal.returns-clause-does
returns-clause-does c =
    let tray = c.args.self.now in
    let allowed = c.in_ok-opened.ensures in
    let opened = tray_opened _ _ _ _ tray.stage_area tray.move_area _ _ _ allowed.is c.put.ensures.items in
    let n = length_in_use stage_layout tray.stage_count _ in
    let fits = allowed.fits in
    let room = c.stage_capacity.ensures in
    opens (areas_room tray.areas.now) _ _ _ _ n (omega arith) opened.is

pub returns-clause-tidy : goal.returns-clause-tidy
returns-clause-tidy c =
    does_tidy (areas_room c.args.self.now.areas.now) _ _ (edit.Open c.args.marks) _ (λ _. returns-clause-does c)
