use Rattle.std.proofs.Common.{◌≡◌, ◌+◌, arith}
use Rattle.layout.specs.Lines.{rule}
use Rattle.layout.proofs.Loads.{shorter}
use Rattle.page.proofs.Series.{none_answered, few_rules, one_answered, all_answered}
use Rattle.page.proofs.each_rule.answer_rules.Goals as goal

pub loop-text-init : goal.loop-text-init
loop-text-init g c = none_answered (g.P.Program.meaning c.args.program.now) c.args.rules.now
    c.args.out.now.items c.default-counts.ensures.0 c.default-counts.ensures.1

pub count-requires : goal.count-requires
count-requires g c = omega (
  arith,
  few_rules c.loop-text.invariant,
  shorter (rule c.in-Some.text.now) c.in-Some.after.now c.in-Some.ensures.1,
)

pub loop-text-smaller : goal.loop-text-smaller
loop-text-smaller g c = shorter (rule c.in-Some.text.now) c.in-Some.after.now c.in-Some.ensures.1

pub loop-text-preserved : goal.loop-text-preserved
loop-text-preserved g c =
    let next = c.in-Some.ensures in
    let n : c.total.result ≡ c.loop-text.counts.checked + c.loop-text.counts.refused =
    omega (arith, c.total.ensures, few_rules c.loop-text.invariant) in
    one_answered c.loop-text.invariant c.in-Some.text.now c.in-Some.after.now
    c.answer_rule.new.out.items _ _ _ _
    next.0 next.1 n c.in_ok-answer.ensures.adds c.count.ensures.checked c.count.ensures.refused

pub returns-clause-adds : goal.returns-clause-adds
returns-clause-adds g c = all_answered c.loop-text.invariant c.in_default.ensures
