use Rattle.std.proofs.Common.{◌≡◌, sym, subst}
use Rattle.program.specs.Meaning.{prog}
use Rattle.checker.specs.Outcomes.{AllOnward}
use Rattle.checker.proofs.rows.check_chained.Goals as goal

pub check_paths-requires-clause-onward : goal.check_paths-requires-clause-onward
check_paths-requires-clause-onward c =
    let lists = c.args.lists.now in
    let paths = c.along.result in
    let same : prog paths.stages.now paths.moves.now ≡ prog lists.stages.now lists.moves.now = λ i.
    prog (c.along.ensures.stages i).now (c.along.ensures.moves i).now in
    subst AllOnward (sym same) c.requires.onward
