use Rattle.std.proofs.Common.{◌-◌, ◌<◌, ◌≤◌, length, take, ap, ◌∙◌, arith}
use Rattle.std.proofs.lemmas.List.{length-take-le}
use Rattle.std.specs.List.{remove}
use Rattle.stores.proofs.Gaps.{take_copied_removed}
use Rattle.stores.proofs.card.tables.Table.take_out.Goals as goal

pub returns : goal.returns
returns g c =
    let n = c.self.inside.table.count in
    let xs = c.self.inside.table.records in
    let inside : n ≤ length xs = omega (arith, c.self.invariant) in
    let below : c.args.k < n =
    omega (arith, ap length c.self.view_is, length-take-le n xs inside, c.requires) in
    ap (take (n - 1)) c.copy_within.ensures.after ∙ take_copied_removed xs n c.args.k below inside
    ∙ ap (λ ys. remove ys c.args.k) c.self.view_is
