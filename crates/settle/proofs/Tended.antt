-- A table that is tended: how it begins, what one move in place keeps, and that with nothing due no move adds anything.
use Rattle.std.proofs.Common.{◌≡◌, ℕ, zero, suc, ◌<◌, Bool, true, false, cond, T, ◌⊎◌, List, [], ◌∷◌, length, get_or}
use Rattle.std.proofs.Common.{sym, refl, ap, ◌∙◌, subst, inl, inr, ⊎_elim, arith}
use Rattle.std.proofs.lemmas.Bool.{cases_eq}
use Rattle.program.specs.declared.Move.{Move}
use Rattle.program.specs.Meaning.{no_move}
use Rattle.tally.specs.Algebras.{Algebra, Laws}
use Rattle.tally.specs.Walks.{Has}
use Rattle.tally.specs.Rounds.{begins, poured, entry, Within, KeptFrom}
use Rattle.tally.specs.Sweeps.{Under, SomeWalks, Partly, Still, InPlace}
use Rattle.tally.proofs.Sweeps.{under_same, under_trans, under_l, under_r, poured_partly}
use Rattle.settle.specs.Tended.{AddsNothing, Tended, StillPartly}

-- The number of a move of the list.
has_number : (moves : List Move) (m : Move) → Has moves m → (k : ℕ) × (k < length moves) × (get_or moves k no_move ≡ m)
has_number [] m h = absurd h
has_number (x ∷ moves) m (inl e) = (0, omega arith, e)
has_number (x ∷ moves) m (inr h) = let o = has_number moves m h in (suc o.0, omega (arith, o.1), o.2)

-- The move with a number is one of the list.
pub number_has : (moves : List Move) (k : ℕ) → k < length moves → Has moves (get_or moves k no_move)
number_has [] k l = absurd (omega arith)
number_has (x ∷ moves) zero l = inl refl
number_has (x ∷ moves) (suc k) l = inr (number_has moves k (omega arith))

module _ {A : Type 0} (K : Algebra A) (laws : Laws K) (moves : List Move) (pass : ℕ → Bool) where
  module _ (m : Move) (was after : ℕ → A) (step : InPlace K pass m was after) where
    -- A move in place takes nothing away.
    grows : (s : ℕ) → Under K (was s) (after s)
    grows s =
        ⊎_elim
        (λ e.
        subst (λ x. Under K (was x) (after x)) (sym e)
        (subst (λ x. Under K (was m.leaves) x) (sym step.changes) (more (pass m.leaves))))
        (λ ne. under_same K laws (was s) (after s) (sym (step.keeps s ne)))
        (cases_eq s m.leaves)
      where
        more : (b : Bool) → Under K (was m.leaves)
            (cond b (K.choice (was m.leaves) (K.before m.minutes (was m.enters))) (was m.leaves))
        more true = under_l K laws (was m.leaves) (K.before m.minutes (was m.enters))
        more false = laws.idempotent (was m.leaves)

    -- It adds what was said of the stage that it enters.
    adds : T (pass m.leaves) → Under K (K.before m.minutes (was m.enters)) (after m.leaves)
    adds t =
        subst (λ x. Under K (K.before m.minutes (was m.enters)) x) (sym step.changes) (more (pass m.leaves) t)
      where
        more : (b : Bool) → T b → Under K (K.before m.minutes (was m.enters))
            (cond b (K.choice (was m.leaves) (K.before m.minutes (was m.enters))) (was m.leaves))
        more true t = under_r K laws (was m.leaves) (K.before m.minutes (was m.enters))
        more false t = absurd t

  -- After a move in place the moves that were due, but for it, are due, and those that enter the stage it leaves, if
  -- what is said of that stage changed.
  pub tended_more : (k : ℕ) (was after : ℕ → A) (due next : ℕ → Type 0)
      → InPlace K pass (get_or moves k no_move) was after
      → Tended K moves pass was due
      → ((j : ℕ) → (j ≡ k → ⊥) → due j → next j)
      → ((j : ℕ) → (get_or moves j no_move).enters ≡ (get_or moves k no_move).leaves
      → (after (get_or moves k no_move).leaves ≡ was (get_or moves k no_move).leaves) ⊎ next j)
      → Tended K moves pass after next
  tended_more k was after due next step tended others changed j l = go (cases_eq (to j) (from k)) (cases_eq j k)
    where
      to : ℕ → ℕ
      to i = (get_or moves i no_move).enters

      from : ℕ → ℕ
      from i = (get_or moves i no_move).leaves

      minutes : ℕ → ℕ
      minutes i = (get_or moves i no_move).minutes

      -- what is said of the stage that move j enters is as it was
      same : after (to j) ≡ was (to j) → (j ≡ k) ⊎ (j ≡ k → ⊥) → AddsNothing K moves pass after j ⊎ next j
      same e (inl q) =
          inl (λ t. subst (λ x. Under K (K.before (minutes j) x) (after (from j))) (sym e)
          (subst (λ i. T (pass (from i)) → Under K (K.before (minutes i) (was (to i))) (after (from i))) (sym q)
          (adds (get_or moves k no_move) was after step) t))
      same e (inr ne) =
          ⊎_elim
          (λ nothing.
          inl (λ t. subst (λ x. Under K (K.before (minutes j) x) (after (from j))) (sym e)
          (under_trans K laws (K.before (minutes j) (was (to j))) (was (from j)) (after (from j)) (nothing t)
          (grows (get_or moves k no_move) was after step (from j)))))
          (λ d. inr (others j ne d))
          (tended j l)

      go : (to j ≡ from k) ⊎ (to j ≡ from k → ⊥) → (j ≡ k) ⊎ (j ≡ k → ⊥) → AddsNothing K moves pass after j ⊎ next j
      go (inl e) which =
          ⊎_elim (λ q. same (ap after e ∙ q ∙ ap was (sym e)) which) (λ d. inr d) (changed j e)
      go (inr ne) which = same (step.keeps (to j) ne) which

  -- With nothing due no move adds anything.
  pub tended_still : (table : ℕ → A) → Tended K moves pass table (λ k. ⊥) → Still K moves pass table
  tended_still table tended m h =
      let o = has_number moves m h in
      let x : Move = get_or moves o.0 no_move in
      subst (λ (x : Move). poured K pass x (table x.leaves) (table x.enters) ≡ table x.leaves) o.2
      (⊎_elim (go (pass x.leaves) (table x.leaves) (K.before x.minutes (table x.enters))) (λ f. absurd f)
      (tended o.0 o.1))
    where
      go : (b : Bool) (x y : A) → (T b → Under K y x) → cond b (K.choice x y) x ≡ x
      go true x y u = laws.commutative x y ∙ u tt
      go false x y u = refl

  -- At the beginning the moves that enter a goal are due.
  pub tended_none : (goals : ℕ → Bool) (table : ℕ → A) (due : ℕ → Type 0)
      → ((k : ℕ) → k < length moves
      → table (get_or moves k no_move).enters ≡ begins K goals (get_or moves k no_move).enters)
      → ((k : ℕ) → k < length moves → T (goals (get_or moves k no_move).enters) → due k)
      → Tended K moves pass table due
  tended_none goals table due begun waits k l =
      go (goals (get_or moves k no_move).enters) refl
    where
      m : Move
      m = get_or moves k no_move

      go : (b : Bool) → b ≡ goals m.enters → AddsNothing K moves pass table k ⊎ due k
      go true e = inr (waits k l (subst (λ b. T b) e tt))
      go false e =
          inl (λ t.
          let none : table m.enters ≡ K.none = begun k l ∙ ap (λ b. cond b K.start K.none) (sym e) in
          ap (λ x. K.choice (K.before m.minutes x) (table m.leaves)) none
          ∙ ap (λ x. K.choice x (table m.leaves)) (laws.before_none m.minutes) ∙ laws.neutral (table m.leaves))

module _ {A : Type 0} (K : Algebra A) (laws : Laws K) (n : ℕ) (moves : List Move) (within : Within n moves)
    (pass : ℕ → Bool) (k : ℕ) (real : k < length moves) where
  -- A move in place keeps what is said of walks, whatever was said before.
  pub partly_more : (was mid after : ℕ → A) → InPlace K pass (get_or moves k no_move) mid after
      → StillPartly K n moves pass was mid → StillPartly K n moves pass was after
  partly_more was mid after step still goals so =
      poured_partly K laws n moves within pass goals (get_or moves k no_move) (number_has moves k real) mid after step
      (still goals so)

  -- It keeps what stands above the stages.
  pub above_more : (was mid after : List A) → InPlace K pass (get_or moves k no_move) (entry K mid) (entry K after)
      → KeptFrom K n was mid → KeptFrom K n was after
  above_more was mid after step kept j h =
      step.keeps j (λ e. let l = (within k real).0 in omega arith) ∙ kept j h

-- What a table says of the first n stages is all that counts.
pub partly_same : {A : Type 0} (K : Algebra A) (n : ℕ) (moves : List Move) (pass goals : ℕ → Bool) (was after : ℕ → A)
    → ((s : ℕ) → s < n → was s ≡ after s) → Partly K n moves pass goals was → Partly K n moves pass goals after
partly_same K n moves pass goals was after same so = record {
  some = λ s l. subst (λ x. SomeWalks K moves pass goals s x) (same s l) (so.some s l);
  starts = λ s l. subst (λ x. Under K (begins K goals s) x) (same s l) (so.starts s l);
}
