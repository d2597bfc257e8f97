-- Walks of at most so many moves, and that a walk need not have more moves than there are stages.
use Rattle.std.proofs.Common.{◌≡◌, ℕ, zero, suc, ◌+◌, ◌<◌, ◌≤◌, Bool, T, ◌⊎◌, subst, inl, inr, arith}
use Rattle.std.proofs.lemmas.Bool.{cases_eq}
use Rattle.tctl.specs.Graph.{Graph, size, count, move_at}
use Rattle.tctl.specs.Runs.{Sound}
use Rattle.tctl.proofs.Basics.{card, card_top, minus, minus_in, minus_keeps, minus_less}

-- There is a walk of at most k moves from s to a stage of G, all of whose stages before the last are in P,
-- and the minutes that it takes satisfy Q.
abbrev pub Reach : Graph → (ℕ → Bool) → (ℕ → Bool) → ℕ → ℕ → (ℕ → Type 0) → Type 0
Reach p P G zero s Q = T (G s) × Q 0
Reach p P G (suc k) s Q =
    (T (G s) × Q 0)
    ⊎ ((m : ℕ) × (m < count p) × ((move_at p m).leaves ≡ s) × T (P s) × Reach p P G k (move_at p m).enters
    (λ x. Q ((move_at p m).minutes + x)))

pub stop : (p : Graph) (P G : ℕ → Bool) (k s : ℕ) (Q : ℕ → Type 0) → T (G s) → Q 0 → Reach p P G k s Q
stop p P G zero s Q g q = (g, q)
stop p P G (suc k) s Q g q = inl (g, q)

-- A walk in a smaller set, or with a stronger demand on the sum, is a walk in a larger one.
pub widen : (p : Graph) (P P' G G' : ℕ → Bool) → ((x : ℕ) → T (P x) → T (P' x)) → ((x : ℕ) → T (G x) → T (G' x))
    → (k s : ℕ) (Q Q' : ℕ → Type 0) → ((x : ℕ) → Q x → Q' x) → Reach p P G k s Q → Reach p P' G' k s Q'
widen p P P' G G' a b zero s Q Q' f w = (b s w.0, f 0 w.1)
widen p P P' G G' a b (suc k) s Q Q' f (inl w) = inl (b s w.0, f 0 w.1)
widen p P P' G G' a b (suc k) s Q Q' f (inr w) =
    inr (
      w.0,
      w.1,
      w.2,
      a s w.3,
      widen p P P' G G' a b k (move_at p w.0).enters _ _ (λ x. f ((move_at p w.0).minutes + x)) w.4,
    )

pub longer : (p : Graph) (P G : ℕ → Bool) (k s : ℕ) (Q : ℕ → Type 0) → Reach p P G k s Q → Reach p P G (suc k) s Q
longer p P G zero s Q w = inl w
longer p P G (suc k) s Q (inl w) = inl w
longer p P G (suc k) s Q (inr w) =
    inr (w.0, w.1, w.2, w.3, longer p P G k (move_at p w.0).enters _ w.4)

-- Q holds of each smaller sum too
abbrev pub Down : (ℕ → Type 0) → Type 0
Down Q = (a b : ℕ) → a ≤ b → Q b → Q a

pub down_after : (Q : ℕ → Type 0) (d : ℕ) → Down Q → Down (λ x. Q (d + x))
down_after Q d h a b l q = h (d + a) (d + b) (omega arith) q

-- A walk either never leaves s, or has a part that starts at s.
pub suffix : (p : Graph) (P G : ℕ → Bool) (s k t : ℕ) (Q : ℕ → Type 0) → Down Q → Reach p P G k t Q
    → Reach p (minus s P) G k t Q ⊎ Reach p P G k s Q
suffix p P G s zero t Q h w = inl w
suffix p P G s (suc k) t Q h (inl w) = inl (inl w)
suffix p P G s (suc k) t Q h (inr w) =
    go (cases_eq t s) (suffix p P G s k (move_at p w.0).enters (λ x. Q ((move_at p w.0).minutes + x))
    (down_after Q (move_at p w.0).minutes h) w.4)
  where
    go : (t ≡ s) ⊎ (t ≡ s → ⊥)
        → Reach p (minus s P) G k (move_at p w.0).enters (λ x. Q ((move_at p w.0).minutes + x))
        ⊎ Reach p P G k s (λ x. Q ((move_at p w.0).minutes + x))
        → Reach p (minus s P) G (suc k) t Q ⊎ Reach p P G (suc k) s Q
    go (inl e) i = inr (subst (λ x. Reach p P G (suc k) x Q) e (inr w))
    go (inr d) (inl i) = inl (inr (w.0, w.1, w.2, minus_keeps s P t w.3 d, i))
    go (inr d) (inr i) =
        inr (longer p P G k s Q (widen p P P G G (λ x u. u) (λ x u. u) k s _ _
        (λ x. h x ((move_at p w.0).minutes + x) (omega arith)) i))

-- A walk need not be longer than its set of passed stages is large.
abbrev Short : Graph → (ℕ → Bool) → ℕ → Type 1
Short p G c =
    (P : ℕ → Bool) (k s : ℕ) (Q : ℕ → Type 0) → card P (size p) ≤ c → Down Q → Reach p P G k s Q → Reach p P G c s Q

shorten_zero : (p : Graph) → Sound p → (G : ℕ → Bool) → Short p G 0
shorten_zero p ok G P zero s Q l h w = w
shorten_zero p ok G P (suc k) s Q l h (inl w) = w
shorten_zero p ok G P (suc k) s Q l h (inr w) =
    let in_p : s < size p = subst (λ x. x < size p) w.2 (ok.from w.0 w.1) in
    let less = minus_less s P (size p) in_p w.3 in
    absurd (omega arith)

shorten_suc : (p : Graph) → Sound p → (G : ℕ → Bool) (c : ℕ) → Short p G c → Short p G (suc c)
shorten_suc p ok G c ih P zero s Q l h w = inl w
shorten_suc p ok G c ih P (suc k) s Q l h (inl w) = inl w
shorten_suc p ok G c ih P (suc k) s Q l h (inr w) =
    go
    (suffix p P G s k (move_at p w.0).enters (λ x. Q ((move_at p w.0).minutes + x))
    (down_after Q (move_at p w.0).minutes h) w.4)
    (shorten_suc p ok G c ih P k s Q l h)
  where
    go : Reach p (minus s P) G k (move_at p w.0).enters (λ x. Q ((move_at p w.0).minutes + x))
        ⊎ Reach p P G k s (λ x. Q ((move_at p w.0).minutes + x))
        → (Reach p P G k s Q → Reach p P G (suc c) s Q)
        → Reach p P G (suc c) s Q
    go (inl i) again =
        let in_p : s < size p = subst (λ x. x < size p) w.2 (ok.from w.0 w.1) in
        let less = minus_less s P (size p) in_p w.3 in
        inr (
          w.0,
          w.1,
          w.2,
          w.3,
          widen p (minus s P) P G G (minus_in s P) (λ x u. u) c (move_at p w.0).enters _ _ (λ x q. q)
              (ih (minus s P) k (move_at p w.0).enters _ (omega arith)
              (down_after Q (move_at p w.0).minutes h) i),
        )
    go (inr i) again =
        again (widen p P P G G (λ x u. u) (λ x u. u) k s _ _ (λ x. h x ((move_at p w.0).minutes + x) (omega arith)) i)

shorten : (p : Graph) → Sound p → (G : ℕ → Bool) (c : ℕ) → Short p G c
shorten p ok G zero = shorten_zero p ok G
shorten p ok G (suc c) = shorten_suc p ok G c (shorten p ok G c)

pub within_size : (p : Graph) → Sound p → (P G : ℕ → Bool) (k s : ℕ) (Q : ℕ → Type 0) → Down Q → Reach p P G k s Q
    → Reach p P G (size p) s Q
within_size p ok P G k s Q h w = shorten p ok G (size p) P k s Q (card_top P (size p)) h w
