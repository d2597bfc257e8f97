-- The timed graph of a program, over which rules have their meaning: the one way from its lists to the theory.
use Rattle.std.specs.Prelude.{List, map}
use Rattle.program.specs.declared.Stage.{Stage}
use Rattle.program.specs.declared.Move.{Move}
use Rattle.tctl.specs.Graph as timed
use Rattle.program.specs.Meaning.{Prog, prog}
use Rattle.program.specs.Edits.{is_open}

abbrev pub timed_stage : Stage → timed.Stage
timed_stage s = record { marks = s.marks; shown = is_open s.kind }

abbrev pub timed_move : Move → timed.Move
timed_move m = record { leaves = m.leaves; minutes = m.minutes; enters = m.enters }

abbrev pub graph : Prog → timed.Graph
graph p = record { stages = map timed_stage p.stages; moves = map timed_move p.moves }

-- The timed graph of the program that two lists are.
abbrev pub graph_of : List Stage → List Move → timed.Graph
graph_of stages moves = graph (prog stages moves)
