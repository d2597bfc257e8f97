use Rattle.std.proofs.Common.{rules, ◌≡◌, ℕ, ◌<◌, Bool, true, false, Option, Some, None, is_none, ltb, sym, ap, ◌∙◌, refl, arith}
use Rattle.std.proofs.lemmas.List.{get_or-replicate}
use Rattle.std.proofs.lemmas.Bool.{false≢true}
use Rattle.program.specs.Meaning.{most_stages}
use Rattle.tally.specs.Walks.{among}
use Rattle.checker.specs.Found.{Found}
use Rattle.checker.proofs.tests.all_left.Goals as goal

pub loop-m-init : goal.loop-m-init
loop-m-init c =
    (refl, (λ s l e. absurd (false≢true (sym e ∙ ap (ltb 0) (get_or-replicate most_stages s 1 0 l)))))

-- where the search finds none, none passes
none_found : (f : ℕ → Bool) (n : ℕ) (r : Option ℕ) → Found n f r → is_none r ≡ true → (s : ℕ) → s < n → f s ≡ false
none_found f n None found e = found
none_found f n (Some s) found e = absurd (false≢true e)

pub returns-then-stages-le-MOST_STAGES : goal.returns-then-stages-le-MOST_STAGES
returns-then-stages-le-MOST_STAGES c all s low =
    let none =
    none_found (among c.loop-m.without) c.args.stages c.first_in.result c.first_in.ensures
    (let e = c.is_none.ensures in search rules) s low in
    let seen = c.loop-m.invariant.1 s (omega arith) none in
    (seen.0, omega (arith, seen.1), seen.2)
