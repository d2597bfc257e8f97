use Rattle.std.proofs.Common.{sym, arith}
use Rattle.std.proofs.lemmas.Result.{err_from_is_err_and}
use Rattle.program.specs.declared.edit.Edit.TheVariants as edit
use Rattle.program.proofs.Doing.{lays}
use Rattle.program.proofs.Kept.{does_tidy}
use Rattle.stores.specs.Trays.{areas_room}
use Rattle.stores.specs.InUse.{moves_counted}
use Rattle.stores.proofs.Trays.{tray_laid}
use Rattle.stores.proofs.Refusals.{refuses}
use Rattle.stores.proofs.Kept.{ends_kept_by_lay}
use Rattle.stores.proofs.tray.edits.TrayStore.lay.Goals as goal

pub returns-in_err-laid-clause-does : goal.returns-in_err-laid-clause-does
returns-in_err-laid-clause-does c =
    let p = err_from_is_err_and c.from_residual.result c.from_residual.ensures.1 in
    rw (p.1, p.2)
    (refuses _ _ _ (c.in_err-laid.ensures (areas_room c.args.self.now.areas.now) (sym c.move_capacity.ensures)))

pub invariant_of-self-clause-move_area : goal.invariant_of-self-clause-move_area
invariant_of-self-clause-move_area c =
    let tray = c.args.self.now in
    (tray_laid _ _ _ _ tray.stage_area tray.move_area _ _ _ _ _ c.in_ok-laid.ensures.is c.put.ensures.items).move_area

pub invariant_of-self-clause-ends : goal.invariant_of-self-clause-ends
invariant_of-self-clause-ends c =
    let tray = c.args.self.now in
    let a = c.in_ok-laid.ensures in
    let laid = tray_laid _ _ _ _ tray.stage_area tray.move_area _ _ _ _ _ a.is c.put.ensures.items in
    ends_kept_by_lay _ _ _ _ _ _ _ a laid.is tray.ends

pub returns-clause-does : goal.returns-clause-does
returns-clause-does c =
    let tray = c.args.self.now in
    let a = c.in_ok-laid.ensures in
    let laid = tray_laid _ _ _ _ tray.stage_area tray.move_area _ _ _ _ _ a.is c.put.ensures.items in
    let n = moves_counted tray.move_count _ in
    let fits = a.fits in
    let room = c.move_capacity.ensures in
    lays (areas_room tray.areas.now) _ _ _ _ _ _ a.leaves_stage a.enters_stage a.leaves_open a.enters_open a.short n
    (omega arith) laid.is

pub returns-clause-tidy : goal.returns-clause-tidy
returns-clause-tidy c =
    does_tidy (areas_room c.args.self.now.areas.now) _ _ (edit.Lay c.args.leaves c.args.minutes c.args.enters) _
    (λ _. returns-clause-does c)
