use Rattle.std.proofs.Common.{◌≡◌, ℕ, ◌-◌, ◌*◌, ◌<◌, List, length, get_or, take, drop}
use Rattle.std.proofs.Common.{sym, ap, ◌∙◌, rules, tests, arith}
use Rattle.std.specs.List.{AllWithin, zip}
use Rattle.std.proofs.lemmas.Bool.{MatchBool-at_true}
use Rattle.std.proofs.lemmas.Iterator.{YieldsList-from_slice, YieldsList-from_zip, cases_from_all}
use Rattle.std.proofs.lemmas.List.{get_or-take, get_or-drop, length-take, length-drop}
use Rattle.std.proofs.lemmas.Slice.Zip.{get_or-zip, length-zip}
use Rattle.tally.proofs.rows.settle.Goals as goal

-- Lists whose values are one, pair by pair, have one value at each place.
paired : {A : Type 0} (xs ys : List A) (none : A)
    → AllWithin (λ (p : A × A). p.0 ≡ p.1) (zip xs ys) 0 (length (zip xs ys))
    → (s : ℕ) → s < length xs → s < length ys → get_or xs s none ≡ get_or ys s none
paired xs ys none all s h k =
    let at = get_or-zip xs ys s (none, none) h k in
    sym (ap (λ p. p.0) at) ∙ all s (none, none) (omega arith) (omega (arith, h, k, length-zip xs ys)) ∙ ap (λ p. p.1) at

pub returns-clause-told : goal.returns-clause-told
returns-clause-told g c t s h =
    let K = g.T.Tally.algebra in
    let n = c.args.n in
    let xs = c.args.table.now in
    let was = take n xs in
    let next = take (2 * n - n) (drop n xs) in
    let all =
    MatchBool-at_true _ _ t
    (cases_from_all c.all-still.new.self _ c.all-still.result (λ p. p.0 ≡ p.1) (λ p. Unit {0}) c.all-still.ensures.ran
    (YieldsList-from_zip (YieldsList-from_slice was cc) (YieldsList-from_slice next cc))
    (λ x q k. search (rules, tests)) (λ x q k. tt)) in
    sym (get_or-take n xs s K.none h)
    ∙ paired was next K.none all s (omega (arith, h, c.requires.room, length-take n xs))
    (omega (arith, h, c.requires.room, length-take (2 * n - n) (drop n xs), length-drop n xs))
    ∙ get_or-take (2 * n - n) (drop n xs) s K.none (omega (arith, h)) ∙ get_or-drop n xs s K.none
