use Rattle.std.proofs.Common.{List, ◌∙◌, subst}
use Rattle.rules.specs.declared.line.Line.{Line}
use Rattle.checker.specs.Outcomes.{held, Outcome}
use Rattle.checker.proofs.Checks.{of_lines}
use Rattle.checker.proofs.run.check.Goals as goal

pub returns : goal.returns
returns g c =
    let p = g.P.Program.meaning c.args.program.now in
    let was = held c.args.sheet.now c.args.tables.now in
    let after = held c.check_lines_of.new.sheet c.check_lines_of.new.tables in
    let read = c.in_ok-rule.ensures in
    let r = c.check_lines_of.result in
    record {
      does = of_lines p c.args.text.now was after r (
        read.rule,
        record { short = read.short; reading = read.reading; small = read.small; few = read.few },
        subst (λ (ls : List Line). Outcome p ls was after r) (c.lines.ensures.value ∙ read.lines)
            c.check_lines_of.ensures.does,
      );
      slices = c.check_lines_of.ensures.slices;
    }
