use Rattle.std.proofs.Common.{ℕ, Option, None}
use Rattle.std.proofs.lemmas.List.{get_or-replicate}
use Rattle.program.specs.Meaning.{most_stages}
use Rattle.settle.proofs.links.Links.none.Goals as goal

pub returns : goal.returns
returns c stage low = let none : Option ℕ = None in get_or-replicate most_stages stage none none low
