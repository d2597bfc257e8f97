use Rattle.std.proofs.Common.{◌≡◌, suc, ◌-◌, sym, ◌∙◌, arith}
use Rattle.std.proofs.lemmas.Option.{MatchOption-at_some}
use Rattle.program.specs.declared.edit.Edit.TheVariants as edit
use Rattle.program.proofs.Kept.{does_tidy}
use Rattle.stores.specs.Joints.{JoinAllowed}
use Rattle.stores.specs.Trays.{areas_room}
use Rattle.stores.specs.InUse.{stages_counted, moves_counted}
use Rattle.stores.proofs.Trays.{tray_joined}
use Rattle.stores.proofs.Joints.{joined_does, ends_kept_by_join}
use Rattle.stores.proofs.tray.edits.TrayStore.join.Goals as goal

pub invariant_of-self : goal.invariant_of-self
invariant_of-self c =
    let tray = c.args.self.now in
    let j = c.in_ok-joint.joint in
    let a = MatchOption-at_some _ (JoinAllowed _) j c.in_ok-joint.ensures.ok_part c.find_joint.ensures in
    let s = stages_counted tray.stage_count tray.areas.now.stages.items in
    let n = moves_counted tray.move_count tray.areas.now.moves.items in
    let into = a.enters.real in
    let out = a.leaves.real in
    let last : tray.stage_count ≡ suc j.stage = sym s ∙ a.last in
    let some : tray.move_count ≡ suc (tray.move_count - 1) = omega arith in
    let joined =
    tray_joined _ _ _ _ tray.stage_area tray.move_area j _ _ _ _ last some (omega arith) (omega arith)
    c.put.ensures.items c.take_out.ensures.items c.take_out-2.ensures.items in
    record {
      stage_area = joined.stage_area;
      move_area = joined.move_area;
      stage_room = omega (arith, c.take_out-2.ensures.len);
      move_room = omega (arith, c.put.ensures.len, c.take_out.ensures.len);
      ends = ends_kept_by_join _ j a _ joined.is tray.ends;
    }

pub returns-clause-does : goal.returns-clause-does
returns-clause-does c =
    let tray = c.args.self.now in
    let j = c.in_ok-joint.joint in
    let a = MatchOption-at_some _ (JoinAllowed _) j c.in_ok-joint.ensures.ok_part c.find_joint.ensures in
    let s = stages_counted tray.stage_count tray.areas.now.stages.items in
    let n = moves_counted tray.move_count tray.areas.now.moves.items in
    let into = a.enters.real in
    let out = a.leaves.real in
    let last : tray.stage_count ≡ suc j.stage = sym s ∙ a.last in
    let some : tray.move_count ≡ suc (tray.move_count - 1) = omega arith in
    let joined =
    tray_joined _ _ _ _ tray.stage_area tray.move_area j _ _ _ _ last some (omega arith) (omega arith)
    c.put.ensures.items c.take_out.ensures.items c.take_out-2.ensures.items in
    joined_does _ j a _ joined.is

pub returns-clause-tidy : goal.returns-clause-tidy
returns-clause-tidy c = does_tidy (areas_room c.args.self.now.areas.now) _ _ edit.Join _ (returns-clause-does c)
