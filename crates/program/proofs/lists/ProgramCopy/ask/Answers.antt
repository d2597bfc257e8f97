use Rattle.std.proofs.Common.{rules, arith, ◌≡◌, ◌<◌, length, List, slice_index_or}
use Rattle.std.proofs.lemmas.List.{ext_get_or}
use Rattle.program.specs.declared.Stage.{Stage}
use Rattle.program.specs.declared.Move.{Move}
use Rattle.program.specs.Meaning.{Prog, prog, no_stage, no_move, stage_at, move_at}
use Rattle.program.proofs.lists.ProgramCopy.ask.Goals as goal

-- The lists of a program are those of its stages and moves one by one.
same_lists : (p : Prog) (ss : List Stage) (ms : List Move) → length ss ≡ length p.stages → length ms ≡ length p.moves
    → ((i : _) → i < length p.stages → slice_index_or ss i no_stage ≡ stage_at p i)
    → ((k : _) → k < length p.moves → slice_index_or ms k no_move ≡ move_at p k) → prog ss ms ≡ p
same_lists p ss ms ls lm hs hm =
    let a : ss ≡ p.stages = ext_get_or no_stage ss p.stages ls (λ i h. hs i (omega (arith, h, ls))) in
    let b : ms ≡ p.moves = ext_get_or no_move ms p.moves lm (λ i h. hm i (omega (arith, h, lm))) in
    λ i. prog (a i) (b i)

pub returns : goal.returns
returns g c =
    same_lists (g.P.Program.meaning c.args.program.now) c.ask_each.new.records.items c.ask_each-2.new.records.items
    (search rules) (search rules)
    (λ i h. let e = c.ask_each.ensures.each i (omega (arith, h, c.stage_count.ensures)) no_stage in search rules)
    (λ k h. let e = c.ask_each-2.ensures.each k (omega (arith, h, c.move_count.ensures)) no_move in search rules)

pub invariant_of-self : goal.invariant_of-self
invariant_of-self g c =
    rw (same_lists (g.P.Program.meaning c.args.program.now) c.ask_each.new.records.items c.ask_each-2.new.records.items
    (search rules) (search rules)
    (λ i h. let e = c.ask_each.ensures.each i (omega (arith, h, c.stage_count.ensures)) no_stage in search rules)
    (λ k h. let e = c.ask_each-2.ensures.each k (omega (arith, h, c.move_count.ensures)) no_move in search rules))
    (record { limits = g.met.P.Program.limits c.args.program.now })
