use Rattle.views.proofs.Views.{view_of}
use Rattle.views.proofs.minute.MinuteView.new.Goals as goal

pub returns : goal.returns
returns g c =
    let t = c.of.result in
    let x = c.args.program.now in
    view_of t (g.P.Program.meaning x) (g.met.P.Program.limits x) c.of.ensures
