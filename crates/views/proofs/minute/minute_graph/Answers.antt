use Rattle.views.proofs.Minutes.{graph_minute}
use Rattle.views.proofs.minute.minute_graph.Goals as goal

pub returns : goal.returns
returns c = graph_minute
