use Rattle.std.proofs.Common.{◌≡◌, ◌+◌, ◌-◌, ◌*◌, ◌≤◌, length, min, replicate, ap, ◌∙◌, arith}
use borrow.Rule.Slice.PartMut.{put_mid}
use Rattle.std.proofs.lemmas.List.{length-take, length-drop, take_at}
use Rattle.stores.specs.Areas.{taken_out}
use Rattle.stores.proofs.Gaps.{copied_taken_out, length-taken_out, last_place}
use Rattle.stores.proofs.tray.records.take_out.Goals as goal

pub returns-clause-items : goal.returns-clause-items
returns-clause-items c =
    let w = c.args.width in
    let n = c.args.count in
    let k = c.args.k in
    let bs = c.args.area.now.items in
    let last = w * (n - 1) in
    let some = c.requires.0 in
    let end = last_place w n k some in
    let long : w * n ≤ length bs = omega (arith, c.requires.1, c.args.area.now.ok.0) in
    let gap : last + w - last ≡ w = omega arith in
    let same : length c.deref_mut.result.now ≡ length bs =
    omega (arith, c.deref_mut.ensures.len, c.copy_within.ensures.len, c.args.area.now.ok.0) in
    let fits : min w (length c.deref_mut.result.now - last) ≡ w = omega arith in
    let zeros : c.fill.new.self ≡ replicate w 0 =
    c.fill.ensures.after (λ y e. e) ∙ rw (gap, length-take, length-drop, fits) in
    let done : put_mid last (last + w - last) c.deref_mut.result.now c.fill.new.self ≡ taken_out w n k bs =
    rw (gap, zeros, c.deref_mut.ensures.value, c.copy_within.ensures.items) (copied_taken_out bs w n k some long) in
    let whole : length (taken_out w n k bs) ≡ c.copy_within.new.self.len =
    omega (arith, length-taken_out bs w n k some long, c.copy_within.ensures.len, c.args.area.now.ok.0) in
    take_at _ _ _ (ap length done ∙ whole) ∙ done
