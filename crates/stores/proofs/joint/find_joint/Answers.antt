use Rattle.std.proofs.Common.{◌≡◌, suc, false, length, sym, ap, ◌∙◌, arith, rules}
use Rattle.program.specs.declared.Stage.{Stage}
use Rattle.program.specs.declared.Move.{Move}
use Rattle.program.specs.Meaning.{stage_at}
use Rattle.program.specs.Edits.{is_open}
use Rattle.stores.proofs.Joints.{tidy_apart, tidy_short}
use Rattle.stores.proofs.joint.find_joint.Goals as goal
use Rattle.stores.proofs.joint.find_joint.Goals.{then-into-out_of-via-then-into-out_of}
use Rattle.stores.proofs.joint.find_joint.Goals.{then-into-out_of-via-else-into-out_of+then-minutes-gt-MOST_MINUTES}

pub overflow_add-minutes : goal.overflow_add-minutes
overflow_add-minutes g c =
    let limits = g.met.P.Program.limits c.args.program.now in
    let first = ap (λ (m : Move). m.minutes) c.move_at-first.ensures in
    let second = ap (λ (m : Move). m.minutes) c.move_at-second.ensures in
    omega (arith, (limits.ends _ c.in_ok-into.ensures.real).2, (limits.ends _ c.in_ok-out_of.ensures.real).2)

-- A tidy program does not come here: its two moves are apart, and together not too long.
pub returns-then-into-out_of : goal.returns-then-into-out_of
returns-then-into-out_of g c t =
    let p = g.P.Program.meaning c.args.program.now in
    let s = c.in_ok-stage.stage in
    let last : length p.stages ≡ suc s = search rules in
    let hushed : is_open (stage_at p s).kind ≡ false =
    ap (λ (x : Stage). is_open x.kind) (sym c.stage.ensures) ∙ ap is_open c.in-Silent.is in
    let enters = c.in_ok-into.ensures in
    let leaves = c.in_ok-out_of.ensures in
    let short = tidy_short p s _ _ last hushed enters leaves t in
    let first = ap (λ (m : Move). m.minutes) c.move_at-first.ensures in
    let second = ap (λ (m : Move). m.minutes) c.move_at-second.ensures in
    let never : ⊥ =
    elim c.then-into-out_of.branch [
      | then-into-out_of-via-then-into-out_of w ↦
          tidy_apart p s _ _ last hushed enters leaves t w.if-into-out_of.true
      | then-into-out_of-via-else-into-out_of+then-minutes-gt-MOST_MINUTES w ↦
          omega (arith, w.if-minutes-gt-MOST_MINUTES.true)
    ] in
    absurd never
