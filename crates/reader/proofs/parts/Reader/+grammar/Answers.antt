use Rattle.std.proofs.Common.{◌≡◌, sym, refl, ap, ◌∙◌, subst, arith}
use Rattle.signs.specs.declared.Sign.TheVariants.{Number}
use Rattle.signs.specs.Signs.{cap}
use Rattle.signs.specs.First.{Begins}
use Rattle.signs.proofs.Told.{exactly, number_begins}
use Rattle.reader.proofs.Steps.{term_lacks, term_starts, term_goes_on, term_lacks_on, term_ends, rule_lacks}
use Rattle.reader.proofs.Steps.{rule_starts, rule_goes_on, rule_lacks_on, rule_ends, body_lacks_open, body_lacks_left}
use Rattle.reader.proofs.Steps.{body_lacks_limit, body_lacks_right, body_lacks_close, body_ends, item_lacks_none}
use Rattle.reader.proofs.Steps.{item_lacks_number, item_lacks_not, item_lacks_round, item_lacks_close}
use Rattle.reader.proofs.Steps.{item_lacks_other, item_one, item_letter, item_not, item_round, item_by_body}
use Rattle.reader.proofs.parts.Reader.+grammar.Goals as goal

pub read_item-returns-in_err-first : goal.read_item-returns-in_err-first
read_item-returns-in_err-first t c =
    rw c.from_residual.ensures (item_lacks_none _ c.in_err-first.ensures)

pub read_item-returns-in_err-part-in-Bang : goal.read_item-returns-in_err-part-in-Bang
read_item-returns-in_err-part-in-Bang t c =
    rw c.from_residual-in_err-part-in-Bang.ensures
    (item_lacks_not (exactly c.in-Bang.is tt c.in_ok-first.ensures) c.in_err-part-in-Bang.ensures)

pub read_item-returns-in_err-inner-in-Open : goal.read_item-returns-in_err-inner-in-Open
read_item-returns-in_err-inner-in-Open t c =
    rw c.from_residual-in_err-inner-in-Open.ensures
    (item_lacks_round (exactly c.in-Open.is tt c.in_ok-first.ensures) c.in_err-inner-in-Open.ensures)

pub read_item-returns-in_err-self-in-Open : goal.read_item-returns-in_err-self-in-Open
read_item-returns-in_err-self-in-Open t c =
    rw c.from_residual-in_err-self-in-Open.ensures
    (item_lacks_close (exactly c.in-Open.is tt c.in_ok-first.ensures) c.in_ok-inner-in-Open.ensures
    (λ ss e. c.in_err-self-in-Open.ensures _ ss e refl))

pub read_item-returns-in-Number-eq1 : goal.read_item-returns-in-Number-eq1
read_item-returns-in-Number-eq1 t c =
    let k = number_begins c.in-Number-eq1.is c.in_ok-first.ensures in
    let one : c.in-Number-eq1.field-0 ≡ 1 = sym c.in-Number-eq1.field-0-is ∙ c.in-Number-eq1.field-0-test in
    let e : k.0 ≡ 1 = omega (arith, k.1, one) in
    item_one (subst (λ m. Begins c.args.self.now.rest.now (Number m) c.in_ok-first.rest.now) e k.2)
    c.push.ensures.pushed c.push.ensures.number

pub read_item-returns-in-Number : goal.read_item-returns-in-Number
read_item-returns-in-Number t c =
    let k = number_begins c.in-Number.is c.in_ok-first.ensures in
    item_lacks_number k.0 k.2 (λ e. c.in-Number.field-0-test.1 (c.in-Number.field-0-is ∙ k.1 ∙ ap cap e))

pub read_item-returns-in-Letter : goal.read_item-returns-in-Letter
read_item-returns-in-Letter t c =
    item_letter _ (exactly c.in-Letter.is tt c.in_ok-first.ensures) c.push-in-Letter.ensures.pushed
    c.push-in-Letter.ensures.number

pub read_item-returns-in_ok-part-in-Bang : goal.read_item-returns-in_ok-part-in-Bang
read_item-returns-in_ok-part-in-Bang t c =
    item_not (exactly c.in-Bang.is tt c.in_ok-first.ensures) c.in_ok-part-in-Bang.ensures
    c.push-in-Bang.ensures.pushed c.push-in-Bang.ensures.number

pub read_item-returns-in_ok-self-in-Open : goal.read_item-returns-in_ok-self-in-Open
read_item-returns-in_ok-self-in-Open t c =
    item_round (exactly c.in-Open.is tt c.in_ok-first.ensures) c.in_ok-inner-in-Open.ensures
    (exactly refl tt c.in_ok-self-in-Open.ensures)

pub read_item-returns-in-Each : goal.read_item-returns-in-Each
read_item-returns-in-Each t c =
    item_by_body c.args.self.now c.read_until.new.self c.in_ok-first.rest _ c.read_until.result
    (exactly c.in-Each.is tt c.in_ok-first.ensures) c.read_until.ensures

pub read_item-returns-in_default : goal.read_item-returns-in_default
read_item-returns-in_default t c =
    item_lacks_other _ c.in_ok-first.ensures c.in_default.not-Number c.in_default.not-Letter c.in_default.not-Bang
    c.in_default.not-Open c.in_default.not-Each

pub read_rule-returns-in_err-left : goal.read_rule-returns-in_err-left
read_rule-returns-in_err-left t c = rw c.from_residual.ensures (rule_lacks _ c.in_err-left.ensures)

pub read_rule-loop-rest-init : goal.read_rule-loop-rest-init
read_rule-loop-rest-init t c = rule_starts c.in_ok-left.ensures

pub read_rule-returns-in_err-right : goal.read_rule-returns-in_err-right
read_rule-returns-in_err-right t c =
    rw c.from_residual-in_err-right.ensures
    (rule_lacks_on c.in_ok-left.ensures c.loop-rest.invariant (exactly refl tt c.in-Some.ensures)
    c.in_err-right.ensures)

pub read_rule-loop-rest-preserved : goal.read_rule-loop-rest-preserved
read_rule-loop-rest-preserved t c =
    rule_goes_on c.loop-rest.invariant (exactly refl tt c.in-Some.ensures) c.in_ok-right.ensures
    c.push-left.ensures.pushed c.push-left.ensures.number

pub read_rule-returns : goal.read_rule-returns
read_rule-returns t c =
    rule_ends c.in_ok-left.ensures c.loop-rest.invariant (λ ss e. c.in_default.ensures _ ss e refl)

pub read_term-returns-in_err-left : goal.read_term-returns-in_err-left
read_term-returns-in_err-left t c = rw c.from_residual.ensures (term_lacks _ c.in_err-left.ensures)

pub read_term-loop-rest-init : goal.read_term-loop-rest-init
read_term-loop-rest-init t c = term_starts c.in_ok-left.ensures

pub read_term-returns-in_err-right : goal.read_term-returns-in_err-right
read_term-returns-in_err-right t c =
    rw c.from_residual-in_err-right.ensures
    (term_lacks_on c.in_ok-left.ensures c.loop-rest.invariant (exactly refl tt c.in-Some.ensures)
    c.in_err-right.ensures)

pub read_term-loop-rest-preserved : goal.read_term-loop-rest-preserved
read_term-loop-rest-preserved t c =
    term_goes_on c.loop-rest.invariant (exactly refl tt c.in-Some.ensures) c.in_ok-right.ensures
    c.push-left.ensures.pushed c.push-left.ensures.number

pub read_term-returns : goal.read_term-returns
read_term-returns t c =
    term_ends c.in_ok-left.ensures c.loop-rest.invariant (λ ss e. c.in_default.ensures _ ss e refl)

pub read_until-returns-in_err-self : goal.read_until-returns-in_err-self
read_until-returns-in_err-self t c =
    rw c.from_residual.ensures (body_lacks_open _ (λ ss e. c.in_err-self.ensures _ ss e refl))

pub read_until-returns-in_err-left : goal.read_until-returns-in_err-left
read_until-returns-in_err-left t c =
    rw c.from_residual-in_err-left.ensures
    (body_lacks_left (exactly refl tt c.in_ok-self.ensures) c.in_err-left.ensures)

pub read_until-returns-in_err-bound : goal.read_until-returns-in_err-bound
read_until-returns-in_err-bound t c =
    rw c.from_residual-in_err-bound.ensures
    (body_lacks_limit (exactly refl tt c.in_ok-self.ensures) c.in_ok-left.ensures c.in_err-bound.ensures)

pub read_until-returns-in_err-right : goal.read_until-returns-in_err-right
read_until-returns-in_err-right t c =
    rw c.from_residual-in_err-right.ensures
    (body_lacks_right (exactly refl tt c.in_ok-self.ensures) c.in_ok-left.ensures c.in_ok-bound.ensures
    c.in_err-right.ensures)

pub read_until-returns-in_err-self-2 : goal.read_until-returns-in_err-self-2
read_until-returns-in_err-self-2 t c =
    rw c.from_residual-in_err-self-2.ensures
    (body_lacks_close (exactly refl tt c.in_ok-self.ensures) c.in_ok-left.ensures c.in_ok-bound.ensures
    c.in_ok-right.ensures (λ ss e. c.in_err-self-2.ensures _ ss e refl))

pub read_until-returns : goal.read_until-returns
read_until-returns t c =
    body_ends (exactly refl tt c.in_ok-self.ensures) c.in_ok-left.ensures c.in_ok-bound.ensures
    c.in_ok-right.ensures c.args.quantifier (exactly refl tt c.in_ok-self-2.ensures) c.push.ensures.pushed
    c.push.ensures.number
