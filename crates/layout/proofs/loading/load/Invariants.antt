use Rattle.std.proofs.Common.{◌≡◌, length}
use Rattle.layout.proofs.Loads.{Stands}
use Rattle.layout.proofs.loading.load.Given as goal

abbrev pub invariant-loop-rest : goal.invariant-loop-rest
invariant-loop-rest g l =
    let caps = g.S.Store.room l.initial.store in
    let start = g.S.Program.meaning l.initial.store in
    (g.S.Store.room l.store ≡ caps)
    × Stands caps start l.initial.rest l.part l.number l.rest l.rules (g.S.Program.meaning l.store)

abbrev pub decreases-loop-rest : goal.decreases-loop-rest
decreases-loop-rest g l = length l.rest
