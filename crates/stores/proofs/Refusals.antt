-- How a store shows that an edit which it refuses does what its step says.
use Rattle.std.proofs.Common.{◌≡◌, Err, refl}
use Rattle.program.specs.declared.EditFault.{EditFault}
use Rattle.program.specs.Meaning.{Prog}
use Rattle.program.specs.Edits.{Out, Does, refused}

pub refuses : (o : Out) (e : EditFault) (p : Prog) → o ≡ refused e p → Does o (Err e) p
refuses o e p h = rw h (record { answers = refl; leaves = refl })
