use Rattle.std.proofs.Common.{◌≡◌, ℕ, ◌<◌, sym, ap, ◌∙◌, zero-add}
use Rattle.std.proofs.lemmas.Result.{on_ok_weaker}
use Rattle.tally.specs.Walks.{among}
use Rattle.tally.specs.Rounds.{begins, entry}
use Rattle.tally.proofs.Sweeps.{begins_partly, still_of_all}
use Rattle.settle.proofs.Tended.{partly_same}
use Rattle.settle.proofs.table.ChainedWalks.by_queue.Goals as goal

pub returns-clause-all : goal.returns-clause-all
returns-clause-all g c =
    let K = g.T.Tally.algebra in
    let laws = g.met.T.Tally.lawful in
    let walks = c.args.self.now.walks in
    let n = walks.stages in
    let moves = walks.moves.now in
    let within = walks.within in
    let pass = among walks.pass.now in
    let goals = among walks.goals.now in
    let begun = entry K c.begin_row.new.table in
    let begin : (s : ℕ) → s < n → begins K goals s ≡ begun s = λ s l.
    sym (ap begun (sym (zero-add s)) ∙ c.begin_row.ensures.written s l) in
    on_ok_weaker c.flow.result
    (λ still.
    still_of_all K laws n moves within pass goals (entry K c.flow.new.table)
    (c.flow.ensures.partly goals
    (partly_same K n moves pass goals (begins K goals) begun begin
    (begins_partly K laws n moves within pass goals)))
    still)
    c.flow.ensures.still
