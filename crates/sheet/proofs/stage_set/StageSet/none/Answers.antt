use Rattle.std.proofs.Common.{ltb, ap}
use Rattle.std.proofs.lemmas.List.{get_or-replicate}
use Rattle.program.specs.Meaning.{most_stages}
use Rattle.sheet.proofs.stage_set.StageSet.none.Goals as goal

pub returns : goal.returns
returns c = λ s h. ap (ltb 0) (get_or-replicate most_stages s 0 0 h)
