use Rattle.std.proofs.Common.{sym, ◌∙◌, arith}
use Rattle.std.proofs.lemmas.List.{get_or_past}
use Rattle.program.specs.Meaning.{no_stage}
use Rattle.stores.specs.Areas.{in_use}
use Rattle.stores.specs.Records.{stage_layout}
use Rattle.stores.specs.InUse.{length_in_use}
use Rattle.stores.proofs.Areas.{get_or-in_use}
use Rattle.stores.proofs.tray.edits.TrayProgram.stage.Goals as goal

pub returns-then-s-self : goal.returns-then-s-self
returns-then-s-self c =
    rw c.deref.ensures.value at c.read.ensures ∙ sym (get_or-in_use stage_layout _ _ _ no_stage c.if-s-self.true)

pub returns-else-s-self : goal.returns-else-s-self
returns-else-s-self c =
    let tray = c.args.self.now in
    let bs = tray.areas.now.stages.items in
    let n = tray.stage_count in
    sym (get_or_past (in_use stage_layout n bs) _ no_stage (omega (arith, length_in_use stage_layout n bs)))
