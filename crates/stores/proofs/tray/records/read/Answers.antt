use Rattle.std.proofs.Common.{ap, ◌∙◌, length, [], get_or, ◌/◌}
use Rattle.stores.proofs.Areas.{get_or-first_chunks}
use Rattle.stores.proofs.tray.records.read.Goals as goal

pub returns : goal.returns
returns g c =
    let bs = c.args.area.now in
    let n = c.args.n in
    let w = g.row.WIDTH in
    c.from_bytes.ensures
    ∙ ap g.R.Record.layout.read (ap (λ cs. get_or cs n []) c.as_chunks.ensures.front
    ∙ get_or-first_chunks w (length bs / w) n bs c.requires.in_area)
