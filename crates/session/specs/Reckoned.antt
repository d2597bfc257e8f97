-- The program that is reckoned along a list of calls: it is fed only what the calls are given.
use Rattle.std.specs.Prelude.{ℕ, zero, suc, List, [], ◌∷◌}
use Rattle.program.specs.Meaning.{Prog}
use Rattle.program.specs.Edits.{Caps}
use Rattle.program.specs.Steps.{step}
use Rattle.session.specs.declared.calls.Call.{Call}
use Rattle.session.specs.declared.calls.Call.TheVariants.{Edit, Check}

-- The program after a call. A check does nothing.
abbrev pub after : Caps → Prog → Call → Prog
after caps p (Edit e) = (step caps p e).after
after caps p (Check text) = p

-- The program after the first i of the calls.
abbrev pub reckoned : Caps → Prog → List Call → ℕ → Prog
reckoned caps p calls zero = p
reckoned caps p [] (suc i) = p
reckoned caps p (c ∷ cs) (suc i) = reckoned caps (after caps p c) cs i
