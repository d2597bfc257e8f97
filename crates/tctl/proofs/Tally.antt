-- The tally's entry after k turns is the choice over the walks of at most k moves.
use Rattle.std.proofs.Common.{◌≡◌, ℕ, zero, suc, ◌+◌, ◌<◌, ◌≤◌, min, max, Bool, true, false, cond, T, eqb, ◌⊎◌, List}
use Rattle.std.proofs.Common.{[], ◌∷◌, length, get_or, sym, subst, inl, inr, ⊎_elim, not-suc-le-zero, arith, eqb→eq}
use lib.Dec.{eqb_refl}
use Rattle.std.proofs.lemmas.Bool.{cases_lt}
use Rattle.tctl.specs.Graph.{Graph, Move, size, move_at}
use Rattle.tctl.specs.Runs.{Sound}
use Rattle.tctl.specs.Checker.{Entry, none, sum, Kind, shortest, longest, pick, choice, after, over, begin, tally, at}
use Rattle.tctl.proofs.Basics.{move_in, table_at}
use Rattle.tctl.proofs.Reach.{Reach}

-- the entry is a sum that satisfies Q
abbrev pub Shows : Entry → (ℕ → Type 0) → Type 0
Shows none Q = ⊥
Shows (sum a) Q = Q a

-- what a tally of the kind keeps
abbrev pub Closed : Kind → (ℕ → Type 0) → Type 0
Closed shortest Q = (a b : ℕ) → a ≤ b → Q b → Q a
Closed longest Q = (a b : ℕ) → a ≤ b → Q a → Q b

pub closed_after : (k : Kind) (Q : ℕ → Type 0) (d : ℕ) → Closed k Q → Closed k (λ x. Q (d + x))
closed_after shortest Q d h = λ a b l q. h (d + a) (d + b) (omega arith) q
closed_after longest Q d h = λ a b l q. h (d + a) (d + b) (omega arith) q

pick_one : (k : Kind) (a b : ℕ) → (pick k a b ≡ a) ⊎ (pick k a b ≡ b)
pick_one shortest a b = ⊎_elim (λ l. inl (omega arith)) (λ l. inr (omega arith)) (cases_lt a b)
pick_one longest a b = ⊎_elim (λ l. inr (omega arith)) (λ l. inl (omega arith)) (cases_lt a b)

choice_e : (k : Kind) (Q : ℕ → Type 0) (u v : Entry) → Shows (choice k u v) Q → Shows u Q ⊎ Shows v Q
choice_e k Q none v t = inr t
choice_e k Q (sum a) none t = inl t
choice_e k Q (sum a) (sum b) t = ⊎_elim (λ e. inl (subst Q e t)) (λ e. inr (subst Q e t)) (pick_one k a b)

pick_l : (k : Kind) (Q : ℕ → Type 0) → Closed k Q → (a b : ℕ) → Q a → Q (pick k a b)
pick_l shortest Q h a b q = h (min a b) a (omega arith) q
pick_l longest Q h a b q = h a (max a b) (omega arith) q

pick_r : (k : Kind) (Q : ℕ → Type 0) → Closed k Q → (a b : ℕ) → Q b → Q (pick k a b)
pick_r shortest Q h a b q = h (min a b) b (omega arith) q
pick_r longest Q h a b q = h b (max a b) (omega arith) q

choice_l : (k : Kind) (Q : ℕ → Type 0) → Closed k Q → (u v : Entry) → Shows u Q → Shows (choice k u v) Q
choice_l k Q h none v t = absurd t
choice_l k Q h (sum a) none t = t
choice_l k Q h (sum a) (sum b) t = pick_l k Q h a b t

choice_r : (k : Kind) (Q : ℕ → Type 0) → Closed k Q → (u v : Entry) → Shows v Q → Shows (choice k u v) Q
choice_r k Q h none v t = t
choice_r k Q h (sum a) none t = absurd t
choice_r k Q h (sum a) (sum b) t = pick_r k Q h a b t

after_e : (Q : ℕ → Type 0) (d : ℕ) (u : Entry) → Shows (after d u) Q → Shows u (λ x. Q (d + x))
after_e Q d none t = t
after_e Q d (sum a) t = t

after_i : (Q : ℕ → Type 0) (d : ℕ) (u : Entry) → Shows u (λ x. Q (d + x)) → Shows (after d u) Q
after_i Q d none t = t
after_i Q d (sum a) t = t

abbrev Over : List Move → List Entry → ℕ → (ℕ → Type 0) → Type 0
Over ms was s Q =
    (m : ℕ) × (m < length ms) × ((move_in ms m).leaves ≡ s) × Shows (get_or was (move_in ms m).enters none)
    (λ x. Q ((move_in ms m).minutes + x))

over_e : (k : Kind) (Q : ℕ → Type 0) (was : List Entry) (s : ℕ) (ms : List Move) → Shows (over k ms was s) Q
    → Over ms was s Q
over_e k Q was s [] t = absurd t
over_e k Q was s (m ∷ ms) t = go (eqb m.leaves s) (eqb→eq m.leaves s) t (over_e k Q was s ms)
  where
    u : Entry
    u = after m.minutes (get_or was m.enters none)

    up : Over ms was s Q → Over (m ∷ ms) was s Q
    up o = (suc o.0, omega arith, o.2, o.3)

    go : (b : Bool) → (T b → m.leaves ≡ s) → Shows (cond b (choice k u (over k ms was s)) (over k ms was s)) Q
        → (Shows (over k ms was s) Q → Over ms was s Q) → Over (m ∷ ms) was s Q
    go true e t ih =
        ⊎_elim (λ x. (0, omega arith, e tt, after_e Q m.minutes (get_or was m.enters none) x)) (λ x. up (ih x))
        (choice_e k Q u (over k ms was s) t)
    go false e t ih = up (ih t)

cond_here : (k : Kind) (Q : ℕ → Type 0) → Closed k Q → (b : Bool) (u v : Entry) → T b → Shows u Q
    → Shows (cond b (choice k u v) v) Q
cond_here k Q h true u v b t = choice_l k Q h u v t
cond_here k Q h false u v b t = absurd b

cond_later : (k : Kind) (Q : ℕ → Type 0) → Closed k Q → (b : Bool) (u v : Entry) → Shows v Q
    → Shows (cond b (choice k u v) v) Q
cond_later k Q h true u v t = choice_r k Q h u v t
cond_later k Q h false u v t = t

over_i : (k : Kind) (Q : ℕ → Type 0) → Closed k Q → (was : List Entry) (s : ℕ) (ms : List Move) (m : ℕ) → m < length ms
    → (move_in ms m).leaves ≡ s → Shows (get_or was (move_in ms m).enters none) (λ x. Q ((move_in ms m).minutes + x))
    → Shows (over k ms was s) Q
over_i k Q h was s [] m l e t = absurd (not-suc-le-zero l)
over_i k Q h was s (m ∷ ms) zero l e t =
    cond_here k Q h (eqb m.leaves s) (after m.minutes (get_or was m.enters none)) (over k ms was s)
    (subst (λ x. T (eqb m.leaves x)) e (eqb_refl m.leaves))
    (after_i Q m.minutes (get_or was m.enters none) t)
over_i k Q h was s (m ∷ ms) (suc i) l e t =
    cond_later k Q h (eqb m.leaves s) (after m.minutes (get_or was m.enters none)) (over k ms was s)
    (over_i k Q h was s ms i (omega arith) e t)

begin_e : (goals : List Bool) (s : ℕ) (Q : ℕ → Type 0) → Shows (begin goals s) Q → T (at goals s) × Q 0
begin_e goals s Q = go (at goals s)
  where
    go : (b : Bool) → Shows (cond b (sum 0) none) Q → T b × Q 0
    go true t = (tt, t)
    go false t = absurd t

begin_i : (goals : List Bool) (s : ℕ) (Q : ℕ → Type 0) → T (at goals s) → Q 0 → Shows (begin goals s) Q
begin_i goals s Q = go (at goals s)
  where
    go : (b : Bool) → T b → Q 0 → Shows (cond b (sum 0) none) Q
    go true b q = q
    go false b q = absurd b

when_e : (b : Bool) (u : Entry) (Q : ℕ → Type 0) → Shows (cond b u none) Q → T b × Shows u Q
when_e true u Q t = (tt, t)
when_e false u Q t = absurd t

when_i : (b : Bool) (u : Entry) (Q : ℕ → Type 0) → T b → Shows u Q → Shows (cond b u none) Q
when_i true u Q b t = t
when_i false u Q b t = absurd b

-- What an entry shows, a walk has.
pub tally_e : (p : Graph) → Sound p → (k : Kind) (pass goals : List Bool) (i s : ℕ) (Q : ℕ → Type 0) → s < size p
    → Shows (get_or (tally p k pass goals i) s none) Q → Reach p (at pass) (at goals) i s Q
tally_e p ok k pass goals zero s Q l t =
    begin_e goals s Q (subst (λ e. Shows e Q) (table_at (begin goals) none (size p) s l) t)
tally_e p ok k pass goals (suc i) s Q l t = go (choice_e k Q (begin goals s) part t') (tally_e p ok k pass goals i)
  where
    was : List Entry
    was = tally p k pass goals i

    part : Entry
    part = cond (at pass s) (over k p.moves was s) none

    t' : Shows (choice k (begin goals s) part) Q
    t' = subst (λ e. Shows e Q)
        (table_at (λ x. choice k (begin goals x) (cond (at pass x) (over k p.moves was x) none)) none (size p) s l) t

    go : Shows (begin goals s) Q ⊎ Shows part Q
        → ((x : ℕ) (R : ℕ → Type 0) → x < size p → Shows (get_or was x none) R → Reach p (at pass) (at goals) i x R)
        → Reach p (at pass) (at goals) (suc i) s Q
    go (inl b) ih = inl (begin_e goals s Q b)
    go (inr b) ih =
        let c = when_e (at pass s) (over k p.moves was s) Q b in
        let o = over_e k Q was s p.moves c.1 in
        inr (o.0, o.1, o.2, c.0, ih (move_at p o.0).enters _ (ok.to o.0 o.1) o.3)

-- What a walk has, the entry shows, if the kind keeps it.
pub tally_i : (p : Graph) → Sound p → (k : Kind) (pass goals : List Bool) (i s : ℕ) (Q : ℕ → Type 0) → Closed k Q
    → s < size p → Reach p (at pass) (at goals) i s Q → Shows (get_or (tally p k pass goals i) s none) Q
tally_i p ok k pass goals zero s Q h l w =
    subst (λ e. Shows e Q) (sym (table_at (begin goals) none (size p) s l)) (begin_i goals s Q w.0 w.1)
tally_i p ok k pass goals (suc i) s Q h l (inl w) =
    subst (λ e. Shows e Q) (sym
    (table_at (λ x. choice k (begin goals x)
    (cond (at pass x) (over k p.moves (tally p k pass goals i) x) none)) none (size p) s l))
    (choice_l k Q h (begin goals s) (cond (at pass s) (over k p.moves (tally p k pass goals i) s) none)
    (begin_i goals s Q w.0 w.1))
tally_i p ok k pass goals (suc i) s Q h l (inr w) =
    subst (λ e. Shows e Q) (sym
    (table_at (λ x. choice k (begin goals x)
    (cond (at pass x) (over k p.moves (tally p k pass goals i) x) none)) none (size p) s l))
    (choice_r k Q h (begin goals s) (cond (at pass s) (over k p.moves (tally p k pass goals i) s) none)
    (when_i (at pass s) (over k p.moves (tally p k pass goals i) s) Q w.3
    (over_i k Q h (tally p k pass goals i) s p.moves w.0 w.1 w.2
    (tally_i p ok k pass goals i (move_at p w.0).enters _ (closed_after k Q (move_at p w.0).minutes h)
    (ok.to w.0 w.1) w.4))))
