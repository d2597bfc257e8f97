use Rattle.std.proofs.Common.{◌≡◌, sym, subst}
use Rattle.program.specs.Meaning.{prog}
use Rattle.checker.specs.Outcomes.{AllOnward}
use Rattle.checker.proofs.rows.check_rows.Goals as goal

pub check_paths-requires-clause-onward : goal.check_paths-requires-clause-onward
check_paths-requires-clause-onward c =
    let lists = c.args.lists.now in
    let paths = c.of.result in
    let same : prog paths.stages.now paths.moves.now ≡ prog lists.stages.now lists.moves.now = λ i.
    prog (c.of.ensures.stages i).now (c.of.ensures.moves i).now in
    subst AllOnward (sym same) c.in_default.ensures
