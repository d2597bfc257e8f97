use Rattle.std.proofs.Common.{refl}
use Rattle.signs.proofs.Told.{exactly, number_begins}
use Rattle.reader.proofs.Steps.{limit_most, limit_least}
use Rattle.reader.proofs.parts.read_bound.Goals as goal

pub returns-in_ok-n-in-UntilAtMost-default : goal.returns-in_ok-n-in-UntilAtMost-default
returns-in_ok-n-in-UntilAtMost-default c =
    let k = number_begins refl c.in_ok-n-in-UntilAtMost-default.ensures in
    limit_most (exactly c.in-UntilAtMost-default.is-0 tt c.in_ok-rest.ensures) k.1 k.2

pub returns-in_ok-n-in-UntilAtLeast-default : goal.returns-in_ok-n-in-UntilAtLeast-default
returns-in_ok-n-in-UntilAtLeast-default c =
    let k = number_begins refl c.in_ok-n-in-UntilAtLeast-default.ensures in
    limit_least (exactly c.in-UntilAtLeast-default.is-0 tt c.in_ok-rest.ensures) k.1 k.2
