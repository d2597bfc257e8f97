-- A gap in a list is closed by moving what lies behind it down.
use Rattle.std.proofs.Common.{◌≡◌, ℕ, suc, ◌+◌, ◌-◌, ◌*◌, ◌<◌, ◌≤◌, List, ◌++◌, length, take, drop, replicate, sym, ap}
use Rattle.std.proofs.Common.{◌∙◌, mul-le-mul_left, mul-suc, arith}
use borrow.Rule.Slice.PartMut.{put_mid}
use Rattle.std.specs.List.{copy_within, remove, between}
use Rattle.std.proofs.lemmas.List.{append_assoc, length-append, length-drop, length-take, length-replicate, drop-drop}
use Rattle.std.proofs.lemmas.List.{take-take}
use Rattle.std.proofs.lemmas.List.Edits.{take-paste, drop-paste}
use Rattle.std.proofs.lemmas.Slice.{between_is}
use Rattle.std.proofs.lemmas.Grind.{common_steps}
use Rattle.stores.specs.Areas.{taken_out}

module _ {X : Type 0} (xs : List X) (at from to : ℕ)
    (down : at ≤ from) (some : from ≤ to) (inside : to ≤ length xs) where
  enough : to - from ≤ length (drop from xs)
  enough = simp length-drop (omega arith)

  take_copied : (n : ℕ) → at + (to - from) ≡ n
      → take n (copy_within xs from to at) ≡ take at xs ++ between from to xs
  take_copied n e =
      ap (λ m. take m (copy_within xs from to at)) (sym e)
      ∙ take-paste xs at (drop from xs) (to - from) (omega arith) enough

  drop_copied : (n : ℕ) → at + (to - from) ≡ n → drop n (copy_within xs from to at) ≡ drop n xs
  drop_copied n e =
      ap (λ m. drop m (copy_within xs from to at)) (sym e)
      ∙ drop-paste xs at (drop from xs) (to - from) (omega arith) enough
      ∙ ap (λ m. drop m xs) e

-- The first n elements without the one at k: those behind it are copied one place down, and the last place is left.
pub take_copied_removed : {X : Type 0} (xs : List X) (n k : ℕ) → k < n → n ≤ length xs
    → take (n - 1) (copy_within xs (k + 1) n k) ≡ remove (take n xs) k
take_copied_removed xs n k below inside =
    let copied = take_copied xs k (k + 1) n (omega arith) (omega arith) inside (n - 1) (omega arith) in
    grind (arith, common_steps, between_is, take-take)

-- the last place is the last of n
pub last_place : (w n k : ℕ) → k < n → w * (n - 1) + w ≡ w * n
last_place w n k h = let one : n ≡ suc (n - 1) = omega arith in sym (ap (λ x. w * x) one ∙ mul-suc w (n - 1))

pub length-taken_out : (bs : List ℕ) (w n k : ℕ) → k < n → w * n ≤ length bs → length (taken_out w n k bs) ≡ length bs
length-taken_out bs w n k below inside =
    let h : k + 1 ≤ n = omega arith in
    let one_more : k + 1 ≡ suc k = omega arith in
    let next : w * (k + 1) ≡ w * k + w = ap (λ x. w * x) one_more ∙ mul-suc w k in
    let some : w * (k + 1) ≤ w * n = mul-le-mul_left w h in
    simp (length-append, length-take, length-drop, length-replicate) (omega arith)

-- Records of w bytes: what lies behind record k of n copied down over it, and zeros in the last place.
pub copied_taken_out : (bs : List ℕ) (w n k : ℕ) → k < n → w * n ≤ length bs
    → put_mid (w * (n - 1)) w (copy_within bs (w * (k + 1)) (w * n) (w * k)) (replicate w 0) ≡ taken_out w n k bs
copied_taken_out bs w n k below inside =
    let last = last_place w n k below in
    let one_more : k + 1 ≡ suc k = omega arith in
    let next : w * (k + 1) ≡ w * k + w = ap (λ x. w * x) one_more ∙ mul-suc w k in
    let h : k + 1 ≤ n = omega arith in
    let some : w * (k + 1) ≤ w * n = mul-le-mul_left w h in
    let place : w * k + (w * n - w * (k + 1)) ≡ w * (n - 1) = omega arith in
    let down : w * k ≤ w * (k + 1) = omega arith in
    let front = take_copied bs (w * k) (w * (k + 1)) (w * n) down some inside (w * (n - 1)) place in
    let behind = drop_copied bs (w * k) (w * (k + 1)) (w * n) down some inside (w * (n - 1)) place in
    rw (front, behind, append_assoc (take (w * k) bs), drop-drop w (w * (n - 1)) bs, last)
