use Rattle.tally.proofs.Sweeps.{chosen_of_all_lem}
use Rattle.tally.proofs.rows.chosen_of_all.Goals as goal

pub returns : goal.returns
returns g c = chosen_of_all_lem g.T.Tally.algebra g.met.T.Tally.lawful
