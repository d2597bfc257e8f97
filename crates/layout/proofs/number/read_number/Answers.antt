use Rattle.std.proofs.Common.{◌≡◌, length, subst, refl, arith, rules}
use Rattle.std.proofs.lemmas.Bool.{false≢true}
use Rattle.layout.proofs.Decimals.{Front, small_writes, front_more, front_small, all_digits}
use Rattle.layout.proofs.number.read_number.Goals as goal

pub returns-then-not-is_shaped : goal.returns-then-not-is_shaped
returns-then-not-is_shaped c =
    λ n s e.
    let w = small_writes c.args.text.now n s e in
    false≢true (c.if-not-is_shaped.ensures.1 (w.0.plain, w.1))

pub overflow_mul-value : goal.overflow_mul-value
overflow_mul-value c =
    let few = (c.if-not-is_shaped.ensures.0 refl).1 in
    omega (
      arith,
      front_small c.args.text.now c.loop-b.b-index c.loop-b.value few (omega arith) c.loop-b.invariant,
    )

pub returns-in_err-value : goal.returns-in_err-value
returns-in_err-value c =
    rw c.from_residual.ensures
    (λ n s e.
    let w = small_writes c.args.text.now n s e in
    let d = w.0.digits c.loop-b.b-index c.loop-b-test.true in
    omega (arith, c.in_err-value.ensures.cases))

pub overflow_add-value : goal.overflow_add-value
overflow_add-value c =
    let few = (c.if-not-is_shaped.ensures.0 refl).1 in
    omega (
      arith,
      c.in_ok-value.ensures.value,
      front_small c.args.text.now c.loop-b.b-index c.loop-b.value few (omega arith) c.loop-b.invariant,
    )

pub loop-b-preserved : goal.loop-b-preserved
loop-b-preserved c =
    front_more c.args.text.now c.loop-b.b-index c.loop-b.value c.in_ok-value.field-0 c.loop-b-test.true
    c.loop-b.invariant (search rules) (search rules) (search rules)

pub returns : goal.returns
returns c =
    let t = c.args.text.now in
    let i : c.loop-b.b-index ≡ length t = omega arith in
    all_digits t c.loop-b.value (c.if-not-is_shaped.ensures.0 refl)
    (subst (λ k. Front t k c.loop-b.value) i c.loop-b.invariant)
