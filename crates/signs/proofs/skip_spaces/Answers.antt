use Rattle.std.proofs.Common.{◌≡◌, ◌≤◌, length, get_or, ap, ◌∙◌, arith, length-drop, ltb-false}
use Rattle.std.proofs.lemmas.List.{take_rest}
use Rattle.signs.proofs.Lexing.{space_byte}
use Rattle.signs.proofs.skip_spaces.Goals as goal

pub loop-text-preserved : goal.loop-text-preserved
loop-text-preserved c =
    let t = c.loop-text.text.now in
    let l : 1 ≤ length t = omega (arith, ltb-false) in
    let b : get_or t 0 0 ≡ 32 = omega arith in (
      space_byte t l b ∙ c.loop-text.invariant.0,
      omega (
        arith,
        ap length
            (take_rest t 1),
        length-drop 1 t,
        c.loop-text.invariant.1,
      ),
    )
