use Rattle.std.proofs.Common.{rules, arith, ◌≡◌, length}
use Rattle.std.proofs.lemmas.List.{ext_get_or}
use Rattle.program.specs.Meaning.{no_move}
use Rattle.program.proofs.lists.copy_moves.Goals as goal

pub returns : goal.returns
returns g c =
    let p = g.P.Program.meaning c.args.program.now in
    let moves = c.ask_each.new.records.items in
    let long : length moves ≡ length p.moves = search rules in
    ext_get_or no_move moves p.moves long
    (λ k h. let e = c.ask_each.ensures.each k (omega (arith, h, long, c.move_count.ensures)) no_move in search rules)
