use Rattle.layout.proofs.Decimals.{Front}
use Rattle.layout.proofs.number.read_number.Given as goal

abbrev pub invariant-loop-b : goal.invariant-loop-b
invariant-loop-b l = Front l.text l.b-index l.value
