use Rattle.std.proofs.Common.{codes}
use Rattle.std.proofs.lemmas.Slice.Eq.{strip_prefix_is}
use Rattle.std.proofs.lemmas.Option.{MatchOption-at_some}
use Rattle.layout.proofs.Readings.{no_move_line, rule_text}
use Rattle.layout.proofs.line.read_line.Goals as goal
use Rattle.std.proofs.lemmas.Bool.Decides.{Decides-eqb}

pub returns-in_err-read_move : goal.returns-in_err-read_move
returns-in_err-read_move c =
    let h = strip_prefix_is Decides-eqb c.args.line.now (codes "move=") c.strip_prefix-2.result
    c.strip_prefix-2.ensures.cases in
    rw c.from_residual-in_err-read_move.ensures
    (no_move_line (MatchOption-at_some _ _ c.in-Some-strip_prefix.text c.in-Some-strip_prefix.is h)
    c.in_err-read_move.ensures)

pub returns : goal.returns
returns c =
    let h = strip_prefix_is Decides-eqb c.args.line.now (codes "rule=") c.strip_prefix-3.result
    c.strip_prefix-3.ensures.cases in
    rule_text c.requires (MatchOption-at_some _ _ c.in_ok-text.text c.in_ok-text.was h)
