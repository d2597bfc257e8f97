use Rattle.std.proofs.Common.{◌≡◌, vec_items}
use Rattle.session.proofs.Grows.{SoFar}
use Rattle.session.proofs.session.perform.Given as goal

abbrev pub invariant-loop-call : goal.invariant-loop-call
invariant-loop-call g l =
    let meaning = g.S.Program.meaning in
    let room = g.S.Store.room in
    (room l.store ≡ room l.initial.store)
    × SoFar (room l.initial.store) (meaning l.initial.store) l.calls l.call-index (vec_items l.answers)
    (meaning l.store)
