use Rattle.std.proofs.Common.{ℕ, cond, get_or, sym, ap, ◌∙◌, arith}
use Rattle.tally.specs.Walks.{among}
use Rattle.tally.specs.Rounds.{over, begins}
use Rattle.tally.proofs.Rounds.{over_same}
use Rattle.tally.proofs.rows.turn.Goals as goal

pub returns : goal.returns
returns g c =
    let K = g.T.Tally.algebra in
    let n = c.args.walks.now.stages in
    let moves = c.args.walks.now.moves.now in
    let pass = among c.args.walks.now.pass.now in
    let one = c.begin_row.ensures in
    let two = c.pour.ensures in
    let three = c.settle.ensures in
    let was = λ (t : ℕ). get_or c.args.table.now t K.none in
    let begun = λ (t : ℕ). get_or c.begin_row.new.table t K.none in
    record {
      next = λ s h.
          three.copied s h ∙ two.poured s h
          ∙ ap (λ x. K.choice x (cond (pass s) (over K begun moves s) K.none)) (one.written s h)
          ∙ ap (λ x. K.choice (begins K (among c.args.walks.now.goals.now) s) (cond (pass s) x K.none))
          (over_same K n begun was one.below moves c.args.walks.now.within s);
      above = λ i h. three.above i (omega arith) ∙ two.above i h ∙ one.above i (omega arith);
      told = λ t s h. sym (one.below s h) ∙ sym (two.below s h) ∙ three.told t s h ∙ sym (three.copied s h);
    }
