use Rattle.std.proofs.Common.{◌≡◌, ◌∙◌, subst}
use Rattle.program.specs.Meaning.{Prog, prog}
use Rattle.checker.specs.Outcomes.{held, Outcome}
use Rattle.checker.proofs.run.check_lines_of.Goals as goal

pub returns : goal.returns
returns g c =
    let was = held c.args.sheet.now c.args.tables.now in
    let after = held c.check_rows.new.sheet c.check_rows.new.tables in
    let lists : prog c.lists.result.stages.now c.lists.result.moves.now ≡ prog c.ask.new.self.stages.items
    c.ask.new.self.moves.items = λ i. prog (c.lists.ensures.stages i) (c.lists.ensures.moves i) in
    record {
      does =
          subst (λ (p : Prog). Outcome p c.args.lines.now was after c.check_rows.result) (lists ∙ c.ask.ensures)
          c.check_rows.ensures.does;
      slices = c.check_rows.ensures.slices;
    }
