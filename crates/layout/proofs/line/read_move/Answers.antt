use Rattle.std.proofs.Common.{◌∷◌, ◌++◌, decimal}
use Rattle.layout.proofs.Cuts.{no_cut}
use Rattle.layout.proofs.Readings.{number_first}
use Rattle.layout.proofs.line.read_move.Goals as goal

pub returns-in_err-leaves : goal.returns-in_err-leaves
returns-in_err-leaves c =
    rw c.from_residual.ensures
    (λ m f e. no_cut 44 c.args.text.now (decimal m.leaves) (decimal m.minutes ++ 44 ∷ decimal m.enters)
    c.in_err-leaves.ensures e)

pub returns-in_err-minutes : goal.returns-in_err-minutes
returns-in_err-minutes c =
    rw c.from_residual-in_err-minutes.ensures
    (λ m f e.
    let p = number_first m.leaves (decimal m.minutes ++ 44 ∷ decimal m.enters) c.in_ok-leaves.ensures f.0 e in
    no_cut 44 c.in_ok-leaves.rest.now (decimal m.minutes) (decimal m.enters) c.in_err-minutes.ensures
    p.1)

pub returns-in_err-read_number : goal.returns-in_err-read_number
returns-in_err-read_number c =
    rw c.from_residual-in_err-read_number.ensures
    (λ m f e.
    let p = number_first m.leaves (decimal m.minutes ++ 44 ∷ decimal m.enters) c.in_ok-leaves.ensures f.0 e in
    c.in_err-read_number.ensures m.leaves f.0 p.0)

pub returns-in_err-read_number-2 : goal.returns-in_err-read_number-2
returns-in_err-read_number-2 c =
    rw c.from_residual-in_err-read_number-2.ensures
    (λ m f e.
    let p = number_first m.leaves (decimal m.minutes ++ 44 ∷ decimal m.enters) c.in_ok-leaves.ensures f.0 e in
    let q = number_first m.minutes (decimal m.enters) c.in_ok-minutes.ensures f.1 p.1 in
    c.in_err-read_number-2.ensures m.minutes f.1 q.0)

pub returns-in_err-read_number-3 : goal.returns-in_err-read_number-3
returns-in_err-read_number-3 c =
    rw c.from_residual-in_err-read_number-3.ensures
    (λ m f e.
    let p = number_first m.leaves (decimal m.minutes ++ 44 ∷ decimal m.enters) c.in_ok-leaves.ensures f.0 e in
    let q = number_first m.minutes (decimal m.enters) c.in_ok-minutes.ensures f.1 p.1 in
    c.in_err-read_number-3.ensures m.enters f.2 q.1)
