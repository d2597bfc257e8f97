-- A tally with a cap.
use Rattle.std.proofs.Common.{◌≡◌, ℕ, zero, suc, Bool, true, false, cond, eqb, List, [], ◌∷◌, get_or, sym, refl, ap}
use Rattle.std.proofs.Common.{◌∙◌, arith}
use Rattle.tctl.specs.Graph.{Move, size}
use Rattle.tctl.specs.Checker.{Entry, none, sum, Kind, shortest, longest, choice, after, over, begin, tally, tab_from}
use Rattle.tctl.specs.Checker.{at, after_cap, over_cap, tally_cap, capped}
use Rattle.tctl.specs.Theorems.{CapCuts}

choice_cap : (top : ℕ) (k : Kind) (u v : Entry) → capped top (choice k u v) ≡ choice k (capped top u) (capped top v)
choice_cap top k none v = refl
choice_cap top k (sum a) none = refl
choice_cap top shortest (sum a) (sum b) = ap sum (omega arith)
choice_cap top longest (sum a) (sum b) = ap sum (omega arith)

after_cuts : (top d : ℕ) (u : Entry) → after_cap top d (capped top u) ≡ capped top (after d u)
after_cuts top d none = refl
after_cuts top d (sum a) = ap sum (omega arith)

begin_cap : (top : ℕ) (goals : List Bool) (s : ℕ) → begin goals s ≡ capped top (begin goals s)
begin_cap top goals s = go (at goals s)
  where
    go : (b : Bool) → cond b (sum 0) none ≡ capped top (cond b (sum 0) none)
    go true = ap sum (omega arith)
    go false = refl

tab_cap : (top : ℕ) (f g : ℕ → Entry) → ((s : ℕ) → f s ≡ capped top (g s)) → (n i s : ℕ)
    → get_or (tab_from f n i) s none ≡ capped top (get_or (tab_from g n i) s none)
tab_cap top f g h zero i s = refl
tab_cap top f g h (suc n) i zero = h i
tab_cap top f g h (suc n) i (suc s) = tab_cap top f g h n (suc i) s

cond_cap : (top : ℕ) (b : Bool) (u v u' v' : Entry) → u ≡ capped top u' → v ≡ capped top v'
    → cond b u v ≡ capped top (cond b u' v')
cond_cap top true u v u' v' e d = e
cond_cap top false u v u' v' e d = d

over_cuts : (top : ℕ) (k : Kind) (was was' : List Entry)
    → ((s : ℕ) → get_or was s none ≡ capped top (get_or was' s none))
    → (s : ℕ) (ms : List Move) → over_cap top k ms was s ≡ capped top (over k ms was' s)
over_cuts top k was was' h s [] = refl
over_cuts top k was was' h s (m ∷ ms) =
    let ih = over_cuts top k was was' h s ms in
    let e : after_cap top m.minutes (get_or was m.enters none) ≡ capped top
    (after m.minutes (get_or was' m.enters none)) =
    ap (after_cap top m.minutes) (h m.enters) ∙ after_cuts top m.minutes (get_or was' m.enters none) in
    cond_cap top (eqb m.leaves s) _ _
    (choice k (after m.minutes (get_or was' m.enters none)) (over k ms was' s)) (over k ms was' s)
    (ap (λ x. choice k x (over_cap top k ms was s)) e
    ∙ ap (choice k (capped top (after m.minutes (get_or was' m.enters none)))) ih
    ∙ sym (choice_cap top k (after m.minutes (get_or was' m.enters none)) (over k ms was' s)))
    ih

pub cap_cuts_lem : CapCuts
cap_cuts_lem top p k pass goals zero s = tab_cap top (begin goals) (begin goals) (begin_cap top goals) (size p) 0 s
cap_cuts_lem top p k pass goals (suc i) s =
    let was = tally_cap top p k pass goals i in
    let was' = tally p k pass goals i in
    let ih = cap_cuts_lem top p k pass goals i in
    tab_cap top (λ x. choice k (begin goals x) (cond (at pass x) (over_cap top k p.moves was x) none))
    (λ x. choice k (begin goals x) (cond (at pass x) (over k p.moves was' x) none))
    (λ x.
    ap (λ y. choice k y (cond (at pass x) (over_cap top k p.moves was x) none)) (begin_cap top goals x)
    ∙ ap (choice k (capped top (begin goals x)))
    (cond_cap top (at pass x) _ none (over k p.moves was' x) none (over_cuts top k was was' ih x p.moves) refl)
    ∙ sym (choice_cap top k (begin goals x) (cond (at pass x) (over k p.moves was' x) none)))
    (size p) 0 s
