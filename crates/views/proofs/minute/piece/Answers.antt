use Rattle.std.proofs.Common.{ℕ, ap, ◌∙◌, arith}
use Rattle.program.specs.Edits.{leads}
use Rattle.views.proofs.TableMoves.{through_at}
use Rattle.views.proofs.minute.piece.Goals as goal
use Rattle.views.proofs.minute.piece.Goals.{then-place-eq0, else-place-eq0, then-place-inside, else-place-inside}

pub returns : goal.returns
returns c =
    ap (λ (d : ℕ). leads c.if-place-eq0.leaves d c.if-place-inside.enters) c.min.ensures
    ∙ through_at c.args.inside _ c.args.whole.leaves c.args.first c.args.whole.enters c.args.place _
    _ c.requires.place
    (λ z.
    elim c.if-place-eq0.branch [ then-place-eq0 w ↦ w.leaves-is | else-place-eq0 w ↦ absurd (w.if-place-eq0.false z) ])
    (λ z.
    elim c.if-place-eq0.branch
    [ then-place-eq0 w ↦ absurd (omega (arith, w.if-place-eq0.true)) | else-place-eq0 w ↦ w.leaves-is ])
    (λ z.
    elim c.if-place-inside.branch
    [ then-place-inside w ↦ w.enters-is | else-place-inside w ↦ absurd (w.if-place-inside.false z) ])
    (λ z.
    elim c.if-place-inside.branch
    [ then-place-inside w ↦ absurd (omega (arith, w.if-place-inside.true)) | else-place-inside w ↦ w.enters-is ])
