-- A word with one value more.
use Rattle.std.proofs.Common.{◌≡◌, ℕ, suc, ◌+◌, ◌-◌, ◌*◌, ◌/◌, ◌%◌, ◌^◌, ◌<◌, Bool, true, false, cond, eqb, List}
use Rattle.std.proofs.Common.{get_or, sym, ap, ◌∙◌, subst, add-zero, one-mul, arith}
use native.Mathlib.Nat.{add-mul-div_right, add-mul-mod_self_right, div-eq_of_lt}
use Rattle.std.proofs.lemmas.Nat.{pow_pos, pow-add}
use Rattle.tctl.specs.Checker.{table, at}
use Rattle.tctl.proofs.Basics.{table_at}
use Rattle.sheet.specs.Sheets.{bit, column}
use Rattle.sheet.proofs.Sets.{table_same}

-- a bit, in a column
pub column_at : (n : ℕ) (sheet : List ℕ) (k s : ℕ) → s < n → bit k (get_or sheet s 0) ≡ at (column n sheet k) s
column_at n sheet k s h = sym (table_at (λ x. bit k (get_or sheet x 0)) false n s h)

-- two bits, in columns
pub columns_at : (n : ℕ) (sheet : List ℕ) (f : Bool → Bool → Bool) (i j s : ℕ) → s < n
    → f (bit i (get_or sheet s 0)) (bit j (get_or sheet s 0)) ≡ f (at (column n sheet i) s) (at (column n sheet j) s)
columns_at n sheet f i j s h =
    ap (λ x. f x (bit j (get_or sheet s 0))) (column_at n sheet i s h)
    ∙ ap (f (at (column n sheet i) s)) (column_at n sheet j s h)

half : (x m : ℕ) → (x + 2 ^ (m + 1)) % 2 ≡ x % 2
half x m = ap (λ y. (x + y) % 2) (pow-add 2 m 1) ∙ add-mul-mod_self_right x (2 ^ m) 2

part : (j m w : ℕ) → (w + 2 ^ ((m + 1) + j)) / 2 ^ j ≡ w / 2 ^ j + 2 ^ (m + 1)
part j m w = ap (λ y. (w + y) / 2 ^ j) (pow-add 2 (m + 1) j) ∙ add-mul-div_right w (2 ^ (m + 1)) {z = 2 ^ j} (pow_pos j)

bit_kept : (j k w : ℕ) → j < k → bit j (w + 2 ^ k) ≡ bit j w
bit_kept j k w l =
    let m = k - suc j in
    let d : k ≡ (m + 1) + j = omega arith in
    ap (λ x. bit j (w + 2 ^ x)) d ∙ ap (λ y. eqb (y % 2) 1) (part j m w) ∙ ap (λ y. eqb y 1) (half (w / 2 ^ j) m)

bit_here : (k w : ℕ) → w < 2 ^ k → bit k (w + 2 ^ k) ≡ true
bit_here k w l =
    let a : (w + 1 * 2 ^ k) / 2 ^ k ≡ w / 2 ^ k + 1 = add-mul-div_right w 1 {z = 2 ^ k} (pow_pos k) in
    ap (λ y. eqb (((w + y) / 2 ^ k) % 2) 1) (sym (one-mul (2 ^ k))) ∙ ap (λ y. eqb (y % 2) 1) a
    ∙ ap (λ y. eqb ((y + 1) % 2) 1) (div-eq_of_lt l)

bit_none : (k w : ℕ) → w < 2 ^ k → bit k w ≡ false
bit_none k w l = ap (λ y. eqb (y % 2) 1) (div-eq_of_lt l)

with_kept : (b : Bool) (j k w : ℕ) → j < k → bit j (w + cond b (2 ^ k) 0) ≡ bit j w
with_kept true j k w l = bit_kept j k w l
with_kept false j k w l = ap (bit j) (add-zero w)

with_here : (b : Bool) (k w : ℕ) → w < 2 ^ k → bit k (w + cond b (2 ^ k) 0) ≡ b
with_here true k w l = bit_here k w l
with_here false k w l = ap (bit k) (add-zero w) ∙ bit_none k w l

with_below : (b : Bool) (k w : ℕ) → w < 2 ^ k → w + cond b (2 ^ k) 0 < 2 ^ (k + 1)
with_below true k w l = let e = pow-add 2 k 1 in omega arith
with_below false k w l = let e = pow-add 2 k 1 in omega arith

-- A column more
module _ (n k : ℕ) (was after : List ℕ) (L : List Bool) (e : (s : ℕ) → s < n → get_or after s 0
    ≡ get_or was s 0 + cond (at L s) (2 ^ k) 0) where
  pub column_kept : (j : ℕ) → j < k → column n after j ≡ column n was j
  column_kept j l =
      table_same (λ s. bit j (get_or after s 0)) (λ s. bit j (get_or was s 0)) n
      (λ s h. ap (bit j) (e s h) ∙ with_kept (at L s) j k (get_or was s 0) l)

  module _ (below : (s : ℕ) → s < n → get_or was s 0 < 2 ^ k) where
    pub column_new : column n after k ≡ table n (at L)
    column_new =
        table_same (λ s. bit k (get_or after s 0)) (at L) n
        (λ s h. ap (bit k) (e s h) ∙ with_here (at L s) k (get_or was s 0) (below s h))

    pub below_new : (s : ℕ) → s < n → get_or after s 0 < 2 ^ (k + 1)
    below_new s h = subst (λ x. x < 2 ^ (k + 1)) (sym (e s h)) (with_below (at L s) k (get_or was s 0) (below s h))
