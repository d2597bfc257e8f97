use Rattle.std.proofs.Common.{◌+◌, ap, add-one, arith}
use Rattle.views.proofs.TableMoves.{pieces_before}
use Rattle.views.proofs.minute.piece_table.PieceTable.of.Goals as goal

pub returns : goal.returns
returns g c = λ k l.
    let f = c.loop-k.invariant in
    let p = g.P.Program.meaning c.args.program.now in
    omega (arith, f.begun (k + 1) (omega arith), f.begun k (omega arith), ap (pieces_before p) (add-one k))
