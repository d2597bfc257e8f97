use Rattle.std.proofs.Common.{◌≡◌, ℕ, ◌<◌, ◌≤◌, ◌≢◌, length, Option, Some, None, MatchOption, subst, arith, rules}
use Rattle.std.proofs.Common.{tests}
use Rattle.std.proofs.lemmas.Iterator.{first_from_Range}
use Rattle.program.specs.declared.Move.{Move}
use Rattle.program.specs.Meaning.{Prog, move_at}
use Rattle.program.specs.Ends.{end_of}
use Rattle.stores.specs.MoveEnds.{NoneBetween, NoneFrom, FirstFrom}
use Rattle.stores.proofs.joint.first_move.Goals as goal

-- what a search through the numbers below the count finds
first_below : (p : Prog) (end : Move → ℕ) (s from n : ℕ) (r : Option ℕ) → n ≡ length p.moves
    → MatchOption r (NoneBetween p end s from n)
    (λ k. (from ≤ k) × (k < n) × (end (move_at p k) ≡ s) × NoneBetween p end s from k)
    → MatchOption r (NoneFrom p end s from) (FirstFrom p end s from)
first_below p end s from n None e h = subst (NoneBetween p end s from) e h
first_below p end s from n (Some k) e h =
    record { later = h.0; real = omega (arith, h.1); has = h.2; none_before = h.3 }

pub returns : goal.returns
returns g c =
    let p = g.P.Program.meaning c.args.program.now in
    let end = end_of c.args.end in
    let s = c.args.stage in
    first_below p end s c.args.from _ _ c.move_count.ensures
    (first_from_Range _ _ _ _ (λ k. end (move_at p k) ≡ s) (λ k. end (move_at p k) ≢ s) c.find.ensures.ran
    (λ x q k. search (rules, tests)) (λ x q k. (search rules, search (rules, tests))))
