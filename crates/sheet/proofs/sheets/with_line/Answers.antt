use Rattle.std.proofs.Common.{◌≡◌, ◌+◌, ◌*◌, ◌%◌, ◌^◌, sym, ap, ◌∙◌, arith}
use lib.Bits.{bit_or, or_shifted_r}
use Rattle.std.proofs.lemmas.Nat.{one_shl}
use Rattle.std.proofs.lemmas.Bool.{cond-true}
use Rattle.sheet.proofs.sheets.with_line.Goals as goal

pub returns-then-holds : goal.returns-then-holds
returns-then-holds c =
    let w = c.args.word in
    let k = c.args.k in
    let e : (1 * 2 ^ k) % 4294967296 ≡ 1 * 2 ^ k = let s = one_shl k 32 c.requires.0 in omega arith in
    let d = cond-true c.args.holds (2 ^ k) 0 c.if-holds.true in
    let o = or_shifted_r 1 k w c.requires.1 in
    ap (bit_or w) e ∙ o ∙ (let z : 1 * 2 ^ k + w ≡ w + 2 ^ k = omega arith in z) ∙ ap (λ x. w + x) (sym d)
