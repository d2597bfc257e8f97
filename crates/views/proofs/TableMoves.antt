-- What a table of pieces makes of a program, move by move.
use Rattle.std.proofs.Common.{◌≡◌, ℕ, zero, suc, ◌+◌, ◌-◌, ◌*◌, ◌<◌, ◌≤◌, ◌⊎◌, true, false, leb, List, [], ◌∷◌, ◌++◌}
use Rattle.std.proofs.Common.{length, get_or, take, refl, ap, ◌∙◌, inl, inr, not-suc-le-zero, arith}
use Rattle.std.specs.List.Sorted.{IsNonDecreasing, IsPartitionPoint}
use Rattle.std.proofs.lemmas.List.{get_or_append_left, get_or-append_right, get_or-take, length-take-le}
use Rattle.std.proofs.lemmas.List.Sorted.{IsNonDecreasingBy-take, IsNonDecreasingBy-from_default}
use Rattle.std.proofs.lemmas.Bool.{cases_lt, leb-true, leb-false}
use Rattle.program.specs.declared.Move.{Move}
use Rattle.program.specs.Meaning.{Prog, move_at, no_move, most_moves}
use Rattle.program.specs.Edits.{leads}
use Rattle.views.specs.Minutes.{through, made_by, inside, moves_by_minute, new_stages}
use Rattle.views.specs.PieceTable.{first_piece, Rising, new_before, between, table_moves}
use Rattle.views.specs.ViewLimits.{length_made, rises, makes}

-- the j-th of these moves, by its two ends
pub through_at : (e d s n t j l r : ℕ) → j ≤ e → (j ≡ 0 → l ≡ s) → (0 < j → l ≡ n + j - 1) → (j ≡ e → r ≡ t)
    → (j < e → r ≡ n + j) → leads l d r ≡ get_or (through e d s n t) j no_move
through_at zero d s n t zero l r h from from' to to' = let a = from refl in let b = to refl in cc
through_at zero d s n t (suc j) l r h from from' to to' = absurd (not-suc-le-zero h)
through_at (suc e) d s n t zero l r h from from' to to' =
    let a = from refl in let b = to' (omega arith) in let c : r ≡ n = omega arith in cc
through_at (suc e) d s n t (suc j) l r h from from' to to' =
    let a = from' (omega arith) in
    through_at e d n (suc n) t j l r (omega arith) (λ z. omega arith) (λ z. omega arith) (λ z. to (ap suc z))
    (λ z. let b = to' (omega arith) in omega arith)

module _ (es : List ℕ) (up : Rising es) where
  -- new move a is the j-th of those that make move i of the list, which is move k of the program
  pub table_move : (n b k a j i : ℕ) (ms : List Move) → i < length ms → k ≡ b + i → k < most_moves
      → j ≤ between es k → a + first_piece es b ≡ first_piece es k + j
      → get_or (table_moves es n b ms) a no_move ≡ get_or (makes es up n k (get_or ms i no_move)) j no_move
  table_move n b k a j i [] li ek lk lj ea = absurd (not-suc-le-zero li)
  table_move n b k a j zero (m ∷ ms) li ek lk lj ea =
      let f : b ≡ k = omega arith in
      let g : first_piece es b ≡ first_piece es k = ap (first_piece es) f in
      let u : a ≡ j = omega arith in
      let c = length_made (between es k) m (n + new_before es k) in
      ap (λ x. get_or (makes es up n x m ++ table_moves es n (x + 1) ms) a no_move) f
      ∙ ap (λ x. get_or (makes es up n k m ++ table_moves es n (k + 1) ms) x no_move) u
      ∙ get_or_append_left (makes es up n k m) (table_moves es n (k + 1) ms) no_move j (omega arith)
  table_move n b k a j (suc i) (m ∷ ms) li ek lk lj ea =
      let c = length_made (between es b) m (n + new_before es b) in
      let r = rises es up (b + 1) k (omega arith) (omega arith) in
      let r' = up b (omega arith) in
      get_or-append_right (makes es up n b m) (table_moves es n (b + 1) ms) (suc (between es b)) a no_move c
      (omega arith)
      ∙ table_move n (b + 1) k (a - suc (between es b)) j i ms (omega arith) (omega arith) lk lj
      (omega arith)

  pub first_rises : length es ≡ suc most_moves → (m : ℕ) → IsNonDecreasing (take m es)
  first_rises all m =
      IsNonDecreasingBy-take (λ x. x) m es
      (IsNonDecreasingBy-from_default (λ x. x) es 0
      (λ i j h l. let r = rises es up i j h (omega arith) in omega arith))

  -- Where i of the first m moves begin at the piece or before, it is a piece of the last of these.
  pub move_begun : (m piece i : ℕ) → length es ≡ suc most_moves → first_piece es 0 ≡ 0 → m ≤ most_moves
      → piece < first_piece es m → i ≤ length (take m es)
      → IsPartitionPoint (λ x. leb x piece ≡ true) (λ x. leb x piece ≡ false) (take m es) i
      → (0 < i) × (i ≤ m) × (first_piece es (i - 1) ≤ piece) × (piece < first_piece es i)
  move_begun m piece i all begins few real bound point =
      (some (cases_lt 0 i), omega (arith, len), begun, behind (cases_lt i m))
    where
      len : length (take m es) ≡ m
      len = length-take-le m es (omega arith)

      above : (k : ℕ) → i ≤ k → k < m → piece < first_piece es k
      above k l h =
          let a = leb-false (get_or (take m es) k 0) piece (point.1 k 0 l (omega (arith, len))) in
          let b = get_or-take m es k 0 (omega arith) in
          omega arith

      some : (0 < i) ⊎ (i ≤ 0) → 0 < i
      some (inl l) = l
      some (inr l) =
          let z : m ≡ 0 → ⊥ = λ e. let a = ap (first_piece es) e in omega arith in
          let a = above 0 l (omega arith) in
          absurd (omega arith)

      begun : first_piece es (i - 1) ≤ piece
      begun =
          let l = some (cases_lt 0 i) in
          let a = leb-true (get_or (take m es) (i - 1) 0) piece (point.0 (i - 1) 0 (omega arith) (omega arith)) in
          let b = get_or-take m es (i - 1) 0 (omega (arith, len)) in
          omega arith

      behind : (i < m) ⊎ (m ≤ i) → piece < first_piece es i
      behind (inl l) = above i (omega arith) l
      behind (inr l) =
          let e : first_piece es i ≡ first_piece es m =
          ap (first_piece es) (let z : i ≡ m = omega (arith, len) in z) in
          omega arith

-- The table goes by the minutes of moves, of which the first is move b.
abbrev From : List ℕ → ℕ → List Move → Type 0
From es b ms =
    (i k : ℕ) → i < length ms → k ≡ b + i
    → first_piece es (k + 1) ≡ first_piece es k + suc (inside (get_or ms i no_move))

rest_from : (es : List ℕ) (b : ℕ) (m : Move) (ms : List Move) → From es b (m ∷ ms) → From es (b + 1) ms
rest_from es b m ms h = λ i k l e. h (suc i) k (omega arith) (omega arith)

pub table_minutes : (es : List ℕ) (n b : ℕ) (ms : List Move) → b ≤ first_piece es b → From es b ms
    → table_moves es n b ms ≡ moves_by_minute ms (n + new_before es b)
table_minutes es n b [] l h = refl
table_minutes es n b (m ∷ ms) l h =
    let a = h 0 b (omega arith) (omega arith) in
    let c : between es b ≡ inside m = omega arith in
    let d : n + new_before es (b + 1) ≡ n + new_before es b + inside m = omega arith in
    ap (λ e. made_by e m (n + new_before es b) ++ table_moves es n (b + 1) ms) c
    ∙ ap (λ xs. made_by (inside m) m (n + new_before es b) ++ xs)
    (table_minutes es n (b + 1) ms (omega arith) (rest_from es b m ms h) ∙ ap (moves_by_minute ms) d)

pub table_total : (es : List ℕ) (b c : ℕ) (ms : List Move) → From es b ms → c ≡ b + length ms
    → first_piece es c ≡ first_piece es b + new_stages ms + length ms
table_total es b c [] h e =
    let z : first_piece es b ≡ first_piece es c = ap (first_piece es) (let y : b ≡ c = omega arith in y) in omega arith
table_total es b c (m ∷ ms) h e =
    let a = h 0 b (omega arith) (omega arith) in
    let d = table_total es (b + 1) c ms (rest_from es b m ms h) (omega arith) in
    omega arith

-- How many pieces the moves before move k have.
abbrev pub pieces_before : Prog → ℕ → ℕ
pieces_before p zero = 0
pieces_before p (suc k) = pieces_before p k + suc (inside (move_at p k))

-- The entries before k are right, and `pieces` is the next one.
pub record Filled (p : Prog) (es : List ℕ) (k pieces : ℕ) : Type 0 where
  pub all : length es ≡ 4097
  pub begun : (i : ℕ) → i < k → first_piece es i ≡ pieces_before p i
  pub next : pieces ≡ pieces_before p k
  pub small : pieces ≤ 65535 * k
