-- An area reads as many records as it counts: the limits of a tray rest on this.
use Rattle.std.specs.Prelude.{◌≡◌, ℕ, zero, suc, List, length, drop}
use Rattle.std.proofs.Common.{refl, ap, ◌∙◌}
use Rattle.std.proofs.lemmas.List.{length-map}
use Rattle.std.specs.Simd.{first_chunks}
use Rattle.stores.specs.Areas.{Layout, in_use}
use Rattle.stores.specs.Records.{stage_layout, move_layout}

pub length_first_chunks : {X : Type 0} (w n : ℕ) (xs : List X) → length (first_chunks w n xs) ≡ n
length_first_chunks w zero xs = refl
length_first_chunks w (suc n) xs = ap suc (length_first_chunks w n (drop w xs))

pub length_in_use : {X : Type 0} (l : Layout X) (n : ℕ) (bs : List ℕ) → length (in_use l n bs) ≡ n
length_in_use l n bs = length-map (first_chunks l.width n bs) l.read ∙ length_first_chunks l.width n bs

pub stages_counted : (n : ℕ) (bs : List ℕ) → length (in_use stage_layout n bs) ≡ n
stages_counted n bs = length_in_use stage_layout n bs

pub moves_counted : (n : ℕ) (bs : List ℕ) → length (in_use move_layout n bs) ≡ n
moves_counted n bs = length_in_use move_layout n bs
