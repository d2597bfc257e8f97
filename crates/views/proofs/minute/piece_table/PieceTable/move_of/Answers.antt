use Rattle.std.proofs.Common.{◌≡◌, ◌-◌, ◌+◌, ◌<◌, ◌≤◌, take, subst, rules, arith, leb}
use Rattle.std.proofs.lemmas.List.Sorted.{IsPartitionPoint-from_clause, IsPartitionedBy-leb}
use Rattle.views.specs.PieceTable.{first_piece}
use Rattle.views.proofs.TableMoves.{first_rises, move_begun}
use Rattle.views.proofs.minute.piece_table.PieceTable.move_of.Goals as goal

found : (c : goal.After-partition_point)
    → (0 < c.partition_point.result) × (c.partition_point.result ≤ c.args.moves)
    × (first_piece c.args.self.now.first (c.partition_point.result - 1) ≤ c.args.piece)
    × (c.args.piece < first_piece c.args.self.now.first c.partition_point.result)
found c =
    let t = c.args.self.now in
    let xs = take c.args.moves t.first in
    move_begun t.first t.rising c.args.moves c.args.piece c.partition_point.result t.all t.begins
    c.requires.few c.requires.real c.partition_point.ensures.bound
    (IsPartitionPoint-from_clause (λ x. leb x c.args.piece) xs c.partition_point.result
    c.partition_point.ensures.partitioned
    (IsPartitionedBy-leb (λ x. x) xs c.args.piece (first_rises t.first t.rising t.all c.args.moves))
    (λ a r f' k. search rules))

pub overflow_sub-result : goal.overflow_sub-result
overflow_sub-result c = (found c).0

pub returns-clause-begun : goal.returns-clause-begun
returns-clause-begun c = (found c).2

pub returns-clause-goes_on : goal.returns-clause-goes_on
returns-clause-goes_on c =
    let h = found c in
    let z : c.partition_point.result ≡ c.partition_point.result - 1 + 1 = omega (arith, h.0) in
    subst (λ k. c.args.piece < first_piece c.args.self.now.first k) z h.3
