use Rattle.std.proofs.Common.{◌≡◌, ℕ, ◌<◌, length, slice_index_or}
use Rattle.program.proofs.lists.ask_each.Given as goal

abbrev pub invariant-loop-i : goal.invariant-loop-i
invariant-loop-i g l =
    (length l.records.items ≡ l.i)
    × ((i : ℕ) → i < l.i → (none : _) → goal.F-post g l.ask i (slice_index_or l.records.items i none))
