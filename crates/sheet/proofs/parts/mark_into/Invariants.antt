use Rattle.std.proofs.Common.{◌≡◌, ℕ, ◌<◌, drop}
use Rattle.tally.specs.Walks.{among}
use Rattle.tctl.specs.Checker.{◌or◌}
use Rattle.settle.specs.Rows.{RestKept}
use Rattle.sheet.specs.Rows.{leads_into}
use Rattle.sheet.proofs.parts.mark_into.Given as goal

-- with the moves that are left, each stage is marked that is by all of them
abbrev pub invariant-loop-m : goal.invariant-loop-m
invariant-loop-m l =
    ((s : ℕ) → s < l.n
    → (among l.has s or leads_into l.sort l.n (drop l.m-index l.moves) l.set s)
    ≡ (among l.initial.has s or leads_into l.sort l.n l.moves l.set s))
    × RestKept l.n l.initial.has l.has
