use Rattle.std.proofs.Common.{sym, ◌∙◌, arith}
use Rattle.std.proofs.lemmas.List.{get_or_past}
use Rattle.program.specs.Meaning.{no_move}
use Rattle.stores.specs.Areas.{in_use}
use Rattle.stores.specs.Records.{move_layout}
use Rattle.stores.specs.InUse.{length_in_use}
use Rattle.stores.proofs.Areas.{get_or-in_use}
use Rattle.stores.proofs.tray.edits.TrayProgram.move_at.Goals as goal

pub returns-then-k-self : goal.returns-then-k-self
returns-then-k-self c =
    rw c.deref.ensures.value at c.read.ensures ∙ sym (get_or-in_use move_layout _ _ _ no_move c.if-k-self.true)

pub returns-else-k-self : goal.returns-else-k-self
returns-else-k-self c =
    let tray = c.args.self.now in
    let bs = tray.areas.now.moves.items in
    let n = tray.move_count in
    sym (get_or_past (in_use move_layout n bs) _ no_move (omega (arith, length_in_use move_layout n bs)))
