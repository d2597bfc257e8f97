-- A view keeps what every readable program keeps, if the program below does: its moves lead between its stages.
use Rattle.std.specs.Prelude.{◌≡◌, ℕ, zero, suc, ◌+◌, ◌-◌, ◌<◌, ◌≤◌, min, true, false, List, [], ◌∷◌, length, replicate}
use Rattle.std.specs.Prelude.{refl}
use Rattle.std.proofs.Common.{◌⊎◌, get_or, leb, sym, ap, ◌∙◌, subst, inl, inr, ⊎_elim, not-suc-le-zero, add-one, arith}
use Rattle.std.proofs.Common.{length-append}
use Rattle.std.proofs.lemmas.List.{length-replicate, get_or_append_left, get_or-append_right}
use Rattle.std.proofs.lemmas.Bool.{cases_Bool, cases_lt, cond-true, cond-false, leb-true, and_parts}
use Rattle.program.specs.declared.Move.{Move}
use Rattle.program.specs.Meaning.{Prog, Limits, Fits, empty, no_move, most_stages, most_moves, most_minutes}
use Rattle.views.specs.Minutes.{through, made_by, silent_stage, within}
use Rattle.views.specs.PieceTable.{first_piece, Rising, new_before, between, table_moves, table_prog, viewed}

length_through : (e d s n t : ℕ) → length (through e d s n t) ≡ suc e
length_through zero d s n t = refl
length_through (suc e) d s n t = ap suc (length_through e d n (suc n) t)

through_fits : (e d s n t c j : ℕ) → s < c → t < c → n + e ≤ c → d ≤ most_minutes → j < suc e
    → Fits c (get_or (through e d s n t) j no_move)
through_fits zero d s n t c zero ls lt ln ld l = (ls, lt, ld)
through_fits zero d s n t c (suc j) ls lt ln ld l = absurd (omega arith)
through_fits (suc e) d s n t c zero ls lt ln ld l = (ls, omega arith, ld)
through_fits (suc e) d s n t c (suc j) ls lt ln ld l =
    through_fits e d n (suc n) t c j (omega arith) lt (omega arith) ld (omega arith)

pub length_made : (e : ℕ) (m : Move) (n : ℕ) → length (made_by e m n) ≡ suc e
length_made e m n = length_through e (min m.minutes 1) m.leaves n m.enters

module _ (es : List ℕ) (up : Rising es) where
  pub rises : (k j : ℕ) → k ≤ j → j ≤ most_moves → first_piece es k + j ≤ first_piece es j + k
  rises k zero h l =
      let e : first_piece es k ≡ first_piece es 0 = ap (first_piece es) (let z : k ≡ 0 = omega arith in z) in
      omega arith
  rises k (suc j) h l = go (cases_lt k (suc j)) (rises k j)
    where
      go : (k < suc j) ⊎ (suc j ≤ k) → (k ≤ j → j ≤ most_moves → first_piece es k + j ≤ first_piece es j + k)
          → first_piece es k + suc j ≤ first_piece es (suc j) + k
      go (inl u) again =
          let a = again (omega arith) (omega arith) in
          let b = up j (omega arith) in
          let e = ap (first_piece es) (add-one j) in
          omega arith
      go (inr u) again =
          let e : first_piece es k ≡ first_piece es (suc j) =
          ap (first_piece es) (let z : k ≡ suc j = omega arith in z) in
          omega arith

  -- the moves that make move k
  abbrev pub makes : ℕ → ℕ → Move → List Move
  makes n k m = made_by (between es k) m (n + new_before es k)

  length_table : (n k j : ℕ) (ms : List Move) → j ≡ k + length ms → j ≤ most_moves
      → length (table_moves es n k ms) + first_piece es k ≡ first_piece es j
  length_table n k j [] e l =
      let z : first_piece es k ≡ first_piece es j = ap (first_piece es) (let y : k ≡ j = omega arith in y) in
      omega arith
  length_table n k j (m ∷ ms) e l =
      let a = length-append (makes n k m) (table_moves es n (k + 1) ms) in
      let b = length_made (between es k) m (n + new_before es k) in
      let c = up k (omega arith) in
      let d = length_table n (k + 1) j ms (omega arith) l in
      omega arith

  table_fits : (n b o c a : ℕ) (ms : List Move)
      → ((k : ℕ) → k < length ms → ((get_or ms k no_move).leaves < n) × ((get_or ms k no_move).enters < n))
      → c ≡ b + length ms → c ≤ most_moves → o ≡ n + new_before es c → a < length (table_moves es n b ms)
      → Fits o (get_or (table_moves es n b ms) a no_move)
  table_fits n b o c a [] h ec lc eo l = absurd (not-suc-le-zero l)
  table_fits n b o c a (m ∷ ms) h ec lc eo l =
      go (cases_lt a (suc (between es b)))
      (table_fits n (b + 1) o c (a - suc (between es b)) ms (λ k u. h (suc k) (omega arith)) (omega arith) lc eo)
    where
      go : (a < suc (between es b)) ⊎ (suc (between es b) ≤ a)
          → (a - suc (between es b) < length (table_moves es n (b + 1) ms)
          → Fits o (get_or (table_moves es n (b + 1) ms) (a - suc (between es b)) no_move))
          → Fits o (get_or (table_moves es n b (m ∷ ms)) a no_move)
      go (inl u) again =
          let i = h 0 (omega arith) in
          let x = length_made (between es b) m (n + new_before es b) in
          let q = rises 0 b (omega arith) (omega arith) in
          let r = rises (b + 1) c (omega arith) lc in
          let r' = up b (omega arith) in
          subst (Fits o) (sym (get_or_append_left (makes n b m) (table_moves es n (b + 1) ms) no_move a (omega arith)))
          (through_fits (between es b) (min m.minutes 1) m.leaves (n + new_before es b) m.enters o a (omega arith)
          (omega arith) (omega arith) (omega arith) u)
      go (inr u) again =
          let x = length_made (between es b) m (n + new_before es b) in
          let y = length-append (makes n b m) (table_moves es n (b + 1) ms) in
          subst (Fits o)
          (sym (get_or-append_right (makes n b m) (table_moves es n (b + 1) ms) (suc (between es b)) a no_move x u))
          (again (omega arith))

module _ (es : List ℕ) (begins : first_piece es 0 ≡ 0) (up : Rising es) (p : Prog) (lim : Limits p) where
  abbrev n : ℕ
  n = length p.stages

  abbrev c : ℕ
  c = length p.moves

  abbrev q : Prog
  q = table_prog es p

  pub stages_q : length q.stages ≡ n + new_before es c
  stages_q =
      length-append p.stages (replicate (new_before es c) silent_stage)
      ∙ ap (λ x. n + x) (length-replicate (new_before es c) silent_stage)

  pub moves_q : length q.moves ≡ first_piece es c
  moves_q = let a = length_table es up n 0 c p.moves (omega arith) lim.few_moves in omega arith

  pub shown : within q ≡ true → viewed es p ≡ q
  shown h = cond-true (within q) q empty h

  pub hidden : within q ≡ false → viewed es p ≡ empty
  hidden h = cond-false (within q) q empty h

  pub view_limits : Limits (viewed es p)
  view_limits = ⊎_elim whole nothing (cases_Bool (within q))
    where
      nothing : within q ≡ false → Limits (viewed es p)
      nothing h =
          subst Limits (sym (hidden h))
          (record { few_stages = omega arith; few_moves = omega arith; ends = λ k l. absurd (not-suc-le-zero l) })

      whole : within q ≡ true → Limits (viewed es p)
      whole h =
          let i = and_parts (leb (length q.stages) most_stages) (leb (length q.moves) most_moves) h in
          subst Limits (sym (shown h))
          (record {
            few_stages = leb-true (length q.stages) most_stages i.0;
            few_moves = leb-true (length q.moves) most_moves i.1;
            ends = λ k l.
                table_fits es up n 0 (length q.stages) c k p.moves
                (λ j u. ((lim.ends j u).0, (lim.ends j u).1)) (omega arith) lim.few_moves stages_q l;
          })
