-- Runs and walks.
use Rattle.std.proofs.Common.{◌≡◌, ℕ, zero, suc, ◌+◌, ◌<◌, Bool, T, sym, ap, ◌∙◌, subst, inl, inr, not-suc-le-zero}
use Rattle.std.proofs.Common.{add-zero, add-suc, arith}
use Rattle.tctl.specs.Graph.{Graph, Move, size, count, move_at}
use Rattle.tctl.specs.Runs.{Run, stage_on, time_on, Sound}
use Rattle.tctl.proofs.Sums.{sum_none}
use Rattle.tctl.proofs.Reach.{Reach}

abbrev pub next : (ℕ → ℕ) → ℕ → ℕ
next w j = w (suc j)

-- a run from its second stage on
abbrev pub rest : (p : Graph) (s : ℕ) (r : Run p s) → Run p (move_at p (r.way 0)).enters
rest p s r = record {
  way = next r.way;
  real = λ i. r.real (suc i);
  starts = r.joined 0;
  joined = λ i. r.joined (suc i);
}

abbrev pub put : ℕ → (ℕ → ℕ) → ℕ → ℕ
put m w zero = m
put m w (suc i) = w i

-- a move, and then a run
abbrev pub before : (p : Graph) (m s : ℕ) → m < count p → (move_at p m).leaves ≡ s → Run p (move_at p m).enters
    → Run p s
before p m s l e r = record { way = put m r.way; real = real; starts = e; joined = joined }
  where
    real : (i : ℕ) → put m r.way i < count p
    real zero = l
    real (suc i) = r.real i

    joined : (i : ℕ) → (move_at p (r.way i)).leaves ≡ (move_at p (put m r.way i)).enters
    joined zero = r.starts
    joined (suc i) = r.joined i

-- the way comes from P to G: after i moves it is in G, until then it was in P, and the minutes satisfy Q
pub record Comes (p : Graph) (P G : ℕ → Bool) (Q : ℕ → Type 0) (w : ℕ → ℕ) : Type 0 where
  pub place : ℕ
  pub goal : T (G (stage_on p w place))
  pub timely : Q (time_on p place w)
  pub passed : (j : ℕ) → j < place → T (P (stage_on p w j))

pub run_reach : (p : Graph) (P G : ℕ → Bool) (i s : ℕ) (Q : ℕ → Type 0) (r : Run p s) → T (G (stage_on p r.way i))
    → Q (time_on p i r.way) → ((j : ℕ) → j < i → T (P (stage_on p r.way j))) → Reach p P G i s Q
run_reach p P G zero s Q r g q h = (subst (λ x. T (G x)) r.starts g, q)
run_reach p P G (suc i) s Q r g q h =
    inr (
      r.way 0,
      r.real 0,
      r.starts,
      subst (λ x. T (P x)) r.starts (h 0 (omega arith)),
      run_reach p P G i (move_at p (r.way 0)).enters _ (rest p s r) g q (λ j l. h (suc j) (omega arith)),
    )

pub reach_run : (p : Graph) → ((s : ℕ) → s < size p → Run p s) → Sound p → (P G : ℕ → Bool) (k s : ℕ) (Q : ℕ → Type 0)
    → s < size p → Reach p P G k s Q → (r : Run p s) × Comes p P G Q r.way
reach_run p on ok P G zero s Q l w =
    let r = on s l in (
      r,
      record {
        place = 0;
        goal = subst (λ x. T (G x)) (sym r.starts) w.0;
        timely = w.1;
        passed = λ j u. absurd (not-suc-le-zero u);
      },
    )
reach_run p on ok P G (suc k) s Q l (inl w) =
    let r = on s l in (
      r,
      record {
        place = 0;
        goal = subst (λ x. T (G x)) (sym r.starts) w.0;
        timely = w.1;
        passed = λ j u. absurd (not-suc-le-zero u);
      },
    )
reach_run p on ok P G (suc k) s Q l (inr w) =
    go (reach_run p on ok P G k (move_at p w.0).enters _ (ok.to w.0 w.1) w.4)
  where
    go : (r : Run p (move_at p w.0).enters) × Comes p P G (λ x. Q ((move_at p w.0).minutes + x)) r.way
        → (r : Run p s) × Comes p P G Q r.way
    go c =
        let passed : (j : ℕ) → j < suc c.1.place → T (P (stage_on p (put w.0 c.0.way) j)) =
        elim [ zero ↦ λ u. subst (λ x. T (P x)) (sym w.2) w.3 | suc j ↦ λ u. c.1.passed j (omega arith) ] in (
          before p w.0 s w.1 w.2 c.0,
          record { place = suc c.1.place; goal = c.1.goal; timely = c.1.timely; passed = passed },
        )

-- A run inside X, by moves of Y, if each stage of X has such a move into X.
module _ (p : Graph) (X Y : ℕ → Type 0)
    (onward : (s : ℕ) → X s → (m : ℕ) × (m < count p) × ((move_at p m).leaves ≡ s) × Y m × X (move_at p m).enters) where
  abbrev pub trail : (s : ℕ) → X s → ℕ → (t : ℕ) × X t
  trail s x zero = (s, x)
  trail s x (suc i) = let here = trail s x i in let o = onward here.0 here.1 in ((move_at p o.0).enters, o.4)

  abbrev pub inside : (s : ℕ) → X s → Run p s
  inside s x =
      record {
        way = λ i. (onward (trail s x i).0 (trail s x i).1).0;
        real = λ i. (onward (trail s x i).0 (trail s x i).1).1;
        starts = (onward s x).2;
        joined = λ i. (onward (trail s x (suc i)).0 (trail s x (suc i)).1).2;
      }

  pub inside_stays : (s : ℕ) (x : X s) (i : ℕ) → X (stage_on p (inside s x).way i)
  inside_stays s x i = subst X (sym (onward (trail s x i).0 (trail s x i).1).2) (trail s x i).1

  pub inside_sort : (s : ℕ) (x : X s) (i : ℕ) → Y ((inside s x).way i)
  inside_sort s x i = (onward (trail s x i).0 (trail s x i).1).3

pub some_run : (p : Graph) → Sound p → (s : ℕ) → s < size p → Run p s
some_run p ok =
    inside p (λ s. s < size p) (λ m. Unit {0})
    (λ s l. let o = ok.onward s l in (o.0, o.1, o.2, tt, ok.to o.0 o.1))

-- a run from its i-th stage on
abbrev pub drop_run : (p : Graph) (s : ℕ) (r : Run p s) (i : ℕ) → Run p (stage_on p r.way i)
drop_run p s r i =
    record {
      way = λ j. r.way (i + j);
      real = λ j. r.real (i + j);
      starts = ap (λ x. (move_at p (r.way x)).leaves) (add-zero i);
      joined = λ j. ap (λ x. (move_at p (r.way x)).leaves) (add-suc i j) ∙ r.joined (i + j);
    }

pub no_time : (p : Graph) (k : ℕ) (w : ℕ → ℕ) → ((j : ℕ) → (move_at p (w j)).minutes ≡ 0) → time_on p k w ≡ 0
no_time = sum_none (λ (m : Move). m.minutes)
