use Rattle.sheet.proofs.Settled.{reach_settled}
use Rattle.sheet.proofs.untils.reach.Goals as goal

pub tell-requires-clause-settles : goal.tell-requires-clause-settles
tell-requires-clause-settles c = reach_settled c.args.paths.now _ _
