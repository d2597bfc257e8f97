use Rattle.std.proofs.Common.{sym, ◌∙◌, arith}
use Rattle.tally.specs.Walks.{among}
use Rattle.tally.proofs.Rounds.{rounds_tally}
use Rattle.tally.proofs.rows.tallies.Goals as goal

pub returns : goal.returns
returns g c =
    let K = g.T.Tally.algebra in
    let pass = among c.args.walks.now.pass.now in
    let goals = among c.args.walks.now.goals.now in
    record {
      results = λ s h.
          c.clear.ensures.below s h ∙ c.repeat.ensures.results s h
          ∙ sym (rounds_tally K g.met.T.Tally.lawful c.args.walks.now.moves.now pass goals c.args.k s);
      cleared = c.clear.ensures.cleared;
      rest = λ i h. c.clear.ensures.above i h ∙ c.repeat.ensures.above i (omega arith);
    }
