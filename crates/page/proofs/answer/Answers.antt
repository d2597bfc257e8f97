use Rattle.std.proofs.Common.{◌≡◌, length, vec_len, rules, ap, ◌∙◌}
use Rattle.program.specs.Meaning.{most_stages, most_moves}
use Rattle.stores.specs.Trays.{room_for_stages, room_for_moves}
use Rattle.stores.specs.InTray.{tray_room}
use Rattle.page.specs.Whole.{full_room}
use Rattle.page.proofs.answer.Goals as goal

pub returns-clause-answers : goal.returns-clause-answers
returns-clause-answers c =
    let tray = c.new-tray.result in
    let stages : room_for_stages (vec_len tray.areas.now.stages) ≡ most_stages =
    ap room_for_stages (c.new-tray.ensures.long.stages ∙ c.in_ok-stages.ensures.len) in
    let moves : room_for_moves (vec_len tray.areas.now.moves) ≡ most_moves =
    ap room_for_moves (c.new-tray.ensures.long.moves ∙ c.in_ok-moves.ensures.len) in
    let room : tray_room tray ≡ full_room =
    ap (λ n. record { stages = n; moves = room_for_moves (vec_len tray.areas.now.moves) }) stages
    ∙ ap (λ n. record { stages = most_stages; moves = n }) moves in
    rw c.reserve-first.ensures.items at rw room at rw c.new-tray.ensures.holds at c.in-Ok.ensures.adds

pub returns-in_default-clause-unchanged : goal.returns-in_default-clause-unchanged
returns-in_default-clause-unchanged c =
    let n : c.len-before.result ≡ length c.args.out.now.items = search rules in
    c.truncate.ensures.items ∙ rw n (rw c.reserve-first.ensures.items at c.in_default.ensures.kept)
