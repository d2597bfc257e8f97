-- A schedule keeps what every readable program keeps.
use Rattle.std.specs.Prelude.{◌≡◌, ℕ, zero, suc, ◌+◌, ◌*◌, ◌<◌, ◌≤◌, List, [], ◌∷◌, length, refl}
use Rattle.std.proofs.Common.{get_or, not-suc-le-zero, arith}
use Rattle.program.specs.Meaning.{no_move, Fits, Limits}
use Rattle.views.specs.declared.schedule.Segment.{Segment}
use Rattle.views.specs.Schedules.{most_segments, segment_stages, goes_on_to, segment_moves, segment_prog}

pub length_stages : (gs : List Segment) → length (segment_stages gs) ≡ 2 * length gs
length_stages [] = refl
length_stages (g ∷ gs) = let h = length_stages gs in omega arith

pub length_moves : (gs : List Segment) (n : ℕ) → length (segment_moves gs n) ≡ 2 * length gs
length_moves [] n = refl
length_moves (g ∷ gs) n = let h = length_moves gs (n + 2) in omega arith

goes_below : (gs : List Segment) (n m : ℕ) → 0 < m → n + 2 * length gs ≤ m → goes_on_to gs n < m
goes_below [] n m p h = p
goes_below (g ∷ gs) n m p h = omega arith

moves_fit : (gs : List Segment) (n m k : ℕ) → n + 2 * length gs ≤ m → k < length (segment_moves gs n)
    → Fits m (get_or (segment_moves gs n) k no_move)
moves_fit [] n m k h l = absurd (not-suc-le-zero l)
moves_fit (g ∷ gs) n m zero h l = (omega arith, omega arith, omega arith)
moves_fit (g ∷ gs) n m (suc zero) h l = (omega arith, goes_below gs (n + 2) m (omega arith) (omega arith), omega arith)
moves_fit (g ∷ gs) n m (suc (suc k)) h l = moves_fit gs (n + 2) m k (omega arith) (omega arith)

-- what a schedule of few segments keeps
pub segment_limits : (gs : List Segment) → length gs ≤ most_segments → Limits (segment_prog gs)
segment_limits gs few =
    let n = length_stages gs in
    let m = length_moves gs 0 in
    record {
      few_stages = omega arith;
      few_moves = omega arith;
      ends = λ k l. moves_fit gs 0 _ k (omega arith) l;
    }
