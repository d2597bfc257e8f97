use Rattle.std.proofs.Common.{arith}
use Rattle.program.specs.declared.edit.Edit.TheVariants as edit
use Rattle.program.proofs.Doing.{cuts}
use Rattle.program.proofs.Kept.{does_tidy}
use Rattle.stores.specs.Trays.{areas_room}
use Rattle.stores.specs.InUse.{stages_counted, moves_counted}
use Rattle.stores.proofs.Trays.{tray_cut}
use Rattle.stores.proofs.Kept.{ends_kept_by_cut}
use Rattle.stores.proofs.tray.edits.TrayStore.cut.Goals as goal

pub invariant_of-self : goal.invariant_of-self
invariant_of-self c =
    let tray = c.args.self.now in
    let a = c.in_ok-pieces.ensures in
    let first = c.put.ensures.items in
    let second = c.put-2.ensures.items in
    let stage = c.put-3.ensures.items in
    let s = stages_counted tray.stage_count tray.areas.now.stages.items in
    let n = moves_counted tray.move_count tray.areas.now.moves.items in
    let real = a.real in
    let cut = tray_cut _ _ _ _ tray.stage_area tray.move_area _ _ _ _ _ _ _ a (omega arith) first second stage in
    let stage_fits = a.stage_fits in
    let move_fits = a.move_fits in
    let rs = c.stage_capacity.ensures in
    let rm = c.move_capacity.ensures in
    record {
      stage_area = cut.stage_area;
      move_area = cut.move_area;
      stage_room = omega (arith, c.put-3.ensures.len);
      move_room = omega (arith, c.put.ensures.len, c.put-2.ensures.len);
      ends = ends_kept_by_cut _ _ _ _ _ _ a cut.is tray.ends;
    }

pub returns-clause-does : goal.returns-clause-does
returns-clause-does c =
    let tray = c.args.self.now in
    let a = c.in_ok-pieces.ensures in
    let first = c.put.ensures.items in
    let second = c.put-2.ensures.items in
    let stage = c.put-3.ensures.items in
    let s = stages_counted tray.stage_count tray.areas.now.stages.items in
    let n = moves_counted tray.move_count tray.areas.now.moves.items in
    let real = a.real in
    let cut = tray_cut _ _ _ _ tray.stage_area tray.move_area _ _ _ _ _ _ _ a (omega arith) first second stage in
    let stage_fits = a.stage_fits in
    let move_fits = a.move_fits in
    let rs = c.stage_capacity.ensures in
    let rm = c.move_capacity.ensures in
    cuts (areas_room tray.areas.now) _ _ _ _ _ a.real a.inside s (omega arith) (omega arith) cut.is

pub returns-clause-tidy : goal.returns-clause-tidy
returns-clause-tidy c =
    does_tidy (areas_room c.args.self.now.areas.now) _ _ (edit.Cut c.args.k c.args.place) _ (λ _. returns-clause-does c)
