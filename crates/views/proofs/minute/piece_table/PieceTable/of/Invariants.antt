use Rattle.views.proofs.TableMoves.{Filled}
use Rattle.views.proofs.minute.piece_table.PieceTable.of.Given as goal

abbrev pub invariant-loop-k : goal.invariant-loop-k
invariant-loop-k g l = Filled (g.P.Program.meaning l.program) l.entry-items l.k l.pieces
