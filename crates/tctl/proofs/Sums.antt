-- Sums of any weight over the moves of a way.
use Rattle.std.proofs.Common.{◌≡◌, ℕ, zero, suc, ◌+◌, ◌<◌, ◌≤◌, sym, refl, ap, subst, not-suc-le-zero, suc-add}
use Rattle.std.proofs.Common.{zero-add, arith}
use mathlib.Core.Path.{fun_ext}
use Rattle.tctl.specs.Graph.{Graph, Move, move_at}
use Rattle.tctl.specs.Runs.{sum_on}

module _ (weight : Move → ℕ) (p : Graph) where
  pub sum_none : (i : ℕ) (w : ℕ → ℕ) → ((j : ℕ) → weight (move_at p (w j)) ≡ 0) → sum_on weight p i w ≡ 0
  sum_none zero w h = refl
  sum_none (suc i) w h = let a = sum_none i (λ j. w (suc j)) (λ j. h (suc j)) in let b = h 0 in omega arith

  pub sum_mono : (j i : ℕ) (w : ℕ → ℕ) → j ≤ i → sum_on weight p j w ≤ sum_on weight p i w
  sum_mono zero i w l = omega arith
  sum_mono (suc j) zero w l = absurd (not-suc-le-zero l)
  sum_mono (suc j) (suc i) w l = let h = sum_mono j i (λ k. w (suc k)) (omega arith) in omega arith

  pub sum_more : (i : ℕ) (w : ℕ → ℕ) → sum_on weight p (suc i) w ≡ sum_on weight p i w + weight (move_at p (w i))
  sum_more zero w = omega arith
  sum_more (suc i) w = let h = sum_more i (λ j. w (suc j)) in omega arith

  pub sum_join : (a b : ℕ) (w : ℕ → ℕ)
      → sum_on weight p (a + b) w ≡ sum_on weight p a w + sum_on weight p b (λ j. w (a + j))
  sum_join zero b w =
      subst (λ x. sum_on weight p x w ≡ 0 + sum_on weight p b (λ j. w (0 + j))) (sym (zero-add b))
      (subst (λ (u : ℕ → ℕ). sum_on weight p b w ≡ 0 + sum_on weight p b u) (fun_ext (λ j. ap w (sym (zero-add j))))
      (omega arith))
  sum_join (suc a) b w =
      subst (λ x. sum_on weight p x w ≡ sum_on weight p (suc a) w + sum_on weight p b (λ j. w (suc a + j)))
      (sym (suc-add a b))
      (subst (λ (u : ℕ → ℕ). sum_on weight p (suc (a + b)) w ≡ sum_on weight p (suc a) w + sum_on weight p b u)
      (fun_ext (λ j. ap w (sym (suc-add a j))))
      (let h = sum_join a b (λ j. w (suc j)) in omega arith))

  pub sum_same : (i : ℕ) (u v : ℕ → ℕ) → ((j : ℕ) → j < i → u j ≡ v j) → sum_on weight p i u ≡ sum_on weight p i v
  sum_same zero u v h = refl
  sum_same (suc i) u v h =
      let a : weight (move_at p (u 0)) ≡ weight (move_at p (v 0)) =
      ap (λ m. weight (move_at p m)) (h 0 (omega arith)) in
      let b = sum_same i (λ j. u (suc j)) (λ j. v (suc j)) (λ j l. h (suc j) (omega arith)) in
      omega arith
