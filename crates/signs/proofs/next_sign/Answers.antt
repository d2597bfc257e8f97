use Rattle.std.proofs.Common.{◌≤◌, sym, refl, subst, ◌∙◌, ap, arith, drop}
use Rattle.signs.specs.Signs.{run, value, cap}
use Rattle.signs.specs.First.{Skipped}
use Rattle.signs.proofs.Lexing.{taken, zero_takes, plain_takes, number_found, empty_signs}
use Rattle.signs.proofs.next_sign.Goals as goal
use Rattle.signs.proofs.next_sign.Goals.{in-U, in-0, in-1-to-9, in_default+in_default}
use Rattle.signs.proofs.next_sign.Goals.{in_default-via-then-this-lt48, in_default-via-else-this-lt48+else-this-lt58}

pub returns-in_err-b : goal.returns-in_err-b
returns-in_err-b c =
    rw c.from_residual.ensures (sym c.skip_spaces-text.ensures.same ∙ empty_signs _ c.in_err-b.ensures.cases)

pub returns : goal.returns
returns c =
    let b = c.in_ok-b.b.now in
    let bs = c.in_ok-b.rest.now in
    let text = c.in_ok-b.ensures.cases.0 in
    let k = subst (Skipped c.args.text.now) text c.skip_spaces-text.ensures in
    elim c.match-b.branch [
      | in-U w ↦ rw w.result-is (taken k w.in-U.is w.until_sign.ensures)
      | in-0 w ↦ rw w.result-is (taken k w.in-0.is (zero_takes _ w.zero_sign.ensures))
      | in-1-to-9 w ↦
          rw w.result-is (number_found _ k (omega arith) (omega arith)
          (w.number-n.ensures.value ∙ ap (λ xs. cap (value 0 xs)) text)
          (w.number-n.ensures.rest ∙ ap (λ xs. drop (run xs) xs) text))
      | in_default+in_default w ↦
          let no_digit : 48 ≤ b → b ≤ 57 → ⊥ =
          λ low high. elim w.in_default.branch [
            | in_default-via-then-this-lt48 v ↦ omega arith
            | in_default-via-else-this-lt48+else-this-lt58 v ↦ omega arith
          ] in
          rw w.result-is (taken k refl (plain_takes b bs no_digit (λ e. omega arith) w.plain_sign.ensures))
    ]
