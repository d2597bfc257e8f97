-- Moves that take no time: after as many steps as there are stages one goes round, and no stage of a cycle is removed.
use Rattle.std.proofs.Common.{◌≡◌, ℕ, zero, suc, ◌+◌, ◌-◌, ◌<◌, ◌≤◌, Bool, true, false, cond, T, eqb, List, [], ◌∷◌}
use Rattle.std.proofs.Common.{◌++◌, length, get_or, drop, sym, refl, ap, ◌∙◌, subst, inl, inr, not-suc-le-zero}
use Rattle.std.proofs.Common.{add-zero, add-suc, arith, eqb→eq}
use mathlib.Core.Path.{fun_ext}
use Rattle.std.proofs.lemmas.List.{at_drop_more, length_push}
use Rattle.std.proofs.lemmas.Bool.{cond-true, cond-false}
use Rattle.program.specs.declared.Move.{Move}
use Rattle.program.specs.Meaning.{Prog, no_move}
use Rattle.program.specs.Graphs.{timed_move}
use Rattle.tally.specs.Walks.{Has}
use Rattle.tally.specs.Rounds.{Within}
use Rattle.tctl.specs.Checker.{still}
use Rattle.tctl.proofs.Basics.{and_l, and_r, pigeon}
use Rattle.checker.specs.Outcomes.{StillWalk, Cycle}
use Rattle.checker.specs.Found.{both, meets, ahead, steps}

module _ (S : ℕ → Bool) where
  abbrev Ahead : List Move → ℕ → Type 0
  Ahead ms s = (m : Move) × Has ms m × (m.leaves ≡ s) × (m.minutes ≡ 0) × T (S m.enters)
      × (m.enters ≡ ahead ms S s)

  ahead_ok : (ms : List Move) (s k : ℕ) → k < length ms → T (meets S (get_or ms k no_move) s) → Ahead ms s
  ahead_ok [] s k l t = absurd (not-suc-le-zero l)
  ahead_ok (m ∷ ms) s zero l t = here (meets S m s) refl t
    where
      here : (b : Bool) → b ≡ meets S m s → T b → (x : Move) × Has (m ∷ ms) x × (x.leaves ≡ s) × (x.minutes ≡ 0)
          × T (S x.enters) × (x.enters ≡ cond b m.enters (ahead ms S s))
      here true e t =
          let u = subst (λ z. T z) e tt in
          let v = and_r (eqb m.leaves s) (both (still (timed_move m)) (S m.enters)) u in (
            m,
            inl refl,
            eqb→eq m.leaves s (and_l (eqb m.leaves s) (both (still (timed_move m)) (S m.enters))
                u),
            eqb→eq m.minutes 0 (and_l (still (timed_move m)) (S m.enters) v),
            and_r (still (timed_move m))
                (S m.enters) v,
            refl,
          )
      here false e t = absurd t
  ahead_ok (m ∷ ms) s (suc k) l t = go (meets S m s) refl (ahead_ok ms s k (omega arith) t)
    where
      go : (b : Bool) → b ≡ meets S m s → Ahead ms s → (x : Move) × Has (m ∷ ms) x × (x.leaves ≡ s)
          × (x.minutes ≡ 0) × T (S x.enters) × (x.enters ≡ cond b m.enters (ahead ms S s))
      go true e o =
          let u = subst (λ z. T z) e tt in
          let v = and_r (eqb m.leaves s) (both (still (timed_move m)) (S m.enters)) u in (
            m,
            inl refl,
            eqb→eq m.leaves s (and_l (eqb m.leaves s) (both (still (timed_move m)) (S m.enters))
                u),
            eqb→eq m.minutes 0 (and_l (still (timed_move m)) (S m.enters) v),
            and_r (still (timed_move m))
                (S m.enters) v,
            refl,
          )
      go false e o = (o.0, inr o.1, o.2, o.3, o.4, o.5)

  module _ (n : ℕ) (moves : List Move) (below : (s : ℕ) → T (S s) → s < n)
      (on : (s : ℕ) → T (S s) → (k : ℕ) × (k < length moves) × T (meets S (get_or moves k no_move) s)) (s : ℕ)
      (start : T (S s)) where
    abbrev It : ℕ → ℕ
    It i = steps (ahead moves S) i s

    next : (x : ℕ) → T (S x) → Ahead moves x
    next x t = let o = on x t in ahead_ok moves x o.0 o.1 o.2

    pub stays : (i : ℕ) → T (S (It i))
    stays zero = start
    stays (suc i) = let o = next (It i) (stays i) in subst (λ z. T (S z)) o.5 o.4

    walk : (d i j : ℕ) → i + d ≡ j → (w : List Move) × (length w ≡ d) × StillWalk moves (It i) w (It j)
    walk zero i j e = ([], refl, ap It (let z : i ≡ j = omega arith in z))
    walk (suc d) i j e =
        let o = next (It i) (stays i) in
        let r = walk d (suc i) j (omega arith) in (
          o.0 ∷ r.0,
          ap suc r.1,
          (
            o.1,
            o.2,
            o.3,
            subst (λ z. StillWalk moves z r.0 (It j)) (sym o.5)
                r.2,
          ),
        )

    shift : (a b t : ℕ) → It a ≡ It b → It (a + t) ≡ It (b + t)
    shift a b zero e = ap It (add-zero a) ∙ e ∙ ap It (sym (add-zero b))
    shift a b (suc t) e = ap It (add-suc a t) ∙ ap (ahead moves S) (shift a b t e) ∙ ap It (sym (add-suc b t))

    pub goes_round : (w : List Move) × (0 < length w) × StillWalk moves (It n) w (It n)
    goes_round =
        let twice = pigeon n It (λ i. below (It i) (stays i)) in
        let i = twice.0 in
        let k = twice.1 in
        let t = n - i in
        let le : i ≤ n = twice.3 in
        let back : It (i + t) ≡ It ((i + suc k) + t) = shift i (i + suc k) t twice.2 in
        let a : i + t ≡ n = omega arith in
        let b : (i + suc k) + t ≡ n + suc k = omega arith in
        let r = walk (suc k) n (n + suc k) refl in
        let same : It (n + suc k) ≡ It n = sym (ap It (sym a) ∙ back ∙ ap It b) in
        (r.0, omega (arith, r.1), subst (λ z. StillWalk moves (It n) r.0 z) same r.2)

ahead_same : (n : ℕ) (S S' : ℕ → Bool) → ((t : ℕ) → t < n → S t ≡ S' t) → (ms : List Move) → Within n ms → (s : ℕ)
    → ahead ms S s ≡ ahead ms S' s
ahead_same n S S' e [] w s = refl
ahead_same n S S' e (m ∷ ms) w s =
    ap (λ b. cond (both (eqb m.leaves s) (both (still (timed_move m)) b)) m.enters (ahead ms S s))
    (e m.enters (w 0 (omega arith)).1)
    ∙ ap (λ x. cond (both (eqb m.leaves s) (both (still (timed_move m)) (S' m.enters))) m.enters x)
    (ahead_same n S S' e ms (λ k h. w (suc k) (omega arith)) s)

pub steps_same : (n : ℕ) (S S' : ℕ → Bool) → ((t : ℕ) → t < n → S t ≡ S' t) → (ms : List Move) → Within n ms
    → (i s : ℕ) → steps (ahead ms S) i s ≡ steps (ahead ms S') i s
steps_same n S S' e ms w i s = ap (λ (f : ℕ → ℕ). steps f i s) (fun_ext (ahead_same n S S' e ms w))

-- one move of the loop that looks for a move
module _ (S : ℕ → Bool) (moves : List Move) (i s : ℕ) (h : i < length moves) where
  abbrev here : Move
  here = get_or moves i no_move

  opened : ahead (drop i moves) S s ≡ cond (meets S here s) here.enters (ahead (drop (i + 1) moves) S s)
  opened = at_drop_more (λ (ms : List Move). ahead ms S s) moves i no_move h

  pub ahead_here : meets S here s ≡ true → ahead (drop i moves) S s ≡ here.enters
  ahead_here e = opened ∙ cond-true (meets S here s) here.enters (ahead (drop (i + 1) moves) S s) e

  pub ahead_later : meets S here s ≡ false → ahead (drop i moves) S s ≡ ahead (drop (i + 1) moves) S s
  ahead_later e = opened ∙ cond-false (meets S here s) here.enters (ahead (drop (i + 1) moves) S s) e

-- A cycle, from the next of its stages.

still_join : (moves v w : List Move) (a b c : ℕ) → StillWalk moves a v b → StillWalk moves b w c
    → StillWalk moves a (v ++ w) c
still_join moves [] w a b c e k = subst (λ x. StillWalk moves x w c) (sym e) k
still_join moves (m ∷ v) w a b c h k = (h.0, h.1, h.2, still_join moves v w m.enters b c h.3 k)

pub cycle_next : (p : Prog) (s : ℕ) → Cycle p s
    → (m : Move) × Has p.moves m × (m.leaves ≡ s) × (m.minutes ≡ 0) × Cycle p m.enters
cycle_next p s ([], some, walk) = absurd (not-suc-le-zero some)
cycle_next p s (m ∷ w, some, walk) =
    let n = length_push w m in
    let back = still_join p.moves w (m ∷ []) m.enters s m.enters walk.3 (walk.0, walk.1, walk.2, refl) in
    (m, walk.0, walk.1, walk.2, (w ++ (m ∷ []), omega arith, back))

-- a move of a list has a place in it
pub has_place : (ms : List Move) (m : Move) → Has ms m → (k : ℕ) × (k < length ms) × (get_or ms k no_move ≡ m)
has_place [] m h = absurd h
has_place (x ∷ ms) m (inl e) = (0, omega arith, e)
has_place (x ∷ ms) m (inr h) = let o = has_place ms m h in (suc o.0, omega (arith, o.1), o.2)
