-- What a view answers, from its table of new stages and the program below.
use Rattle.std.proofs.Common.{◌≡◌, ℕ, suc, ◌+◌, ◌-◌, ◌<◌, ◌≤◌, true, false, leb, ◌⊎◌, List, ◌++◌, length, get_or}
use Rattle.std.proofs.Common.{replicate, sym, refl, ap, ◌∙◌, subst, inl, inr, ⊎_elim, arith}
use Rattle.std.proofs.lemmas.List.{get_or_append_left, get_or-append_right, get_or-replicate}
use Rattle.std.proofs.lemmas.Bool.{cases_Bool, le-leb, lt-leb, leb-true, and_from, and_left, and_right, and_parts}
use Rattle.program.specs.declared.Stage.{Stage}
use Rattle.program.specs.declared.Move.{Move}
use Rattle.program.specs.Meaning.{Prog, Limits, empty, stage_at, move_at, no_stage, no_move, most_stages, most_moves}
use Rattle.cutting.specs.Theorems.{Agree}
use Rattle.program.specs.Graphs.{graph}
use Rattle.views.specs.declared.minute.piece_table.PieceTable.{PieceTable}
use Rattle.views.specs.Minutes.{made_by, inside, moves_by_minute, new_stages, silent_stage, minute_prog, within}
use Rattle.views.specs.Minutes.{if_within, minute_view}
use Rattle.views.specs.Minutes.{ViewOf}
use Rattle.views.specs.PieceTable.{first_piece, ByMinutes, new_before, between, table_prog, viewed, LengthsOf}
use Rattle.views.proofs.Minutes.{view_agrees}
use Rattle.views.specs.ViewLimits as limited
use Rattle.views.specs.ViewLimits.{makes, rises}
use Rattle.views.proofs.TableMoves.{table_move, table_minutes, table_total}

module _ (t : PieceTable) (p : Prog) (lim : Limits p) where
  abbrev es : List ℕ
  es = t.first

  abbrev n : ℕ
  n = length p.stages

  abbrev c : ℕ
  c = length p.moves

  abbrev q : Prog
  q = table_prog es p

  stages_q : length q.stages ≡ n + new_before es c
  stages_q = limited.stages_q es t.begins t.rising p lim

  moves_q : length q.moves ≡ first_piece es c
  moves_q = limited.moves_q es t.begins t.rising p lim

  shown : within q ≡ true → viewed es p ≡ q
  shown = limited.shown es t.begins t.rising p lim

  hidden : within q ≡ false → viewed es p ≡ empty
  hidden = limited.hidden es t.begins t.rising p lim

  -- each move has a piece
  pub piece_each : (m : ℕ) → m ≤ most_moves → m ≤ first_piece es m
  piece_each m l = let r = rises es t.rising 0 m (omega arith) l in omega arith

  pub lengths_within : (s m : ℕ) → s ≡ n → m ≡ c → s + first_piece es m - m ≤ most_stages
      → first_piece es m ≤ most_moves
      → LengthsOf (viewed es p) (record { stages = s + first_piece es m - m; moves = first_piece es m })
  lengths_within s m fs fm ls lm =
      let a = stages_q in
      let b = moves_q in
      let d = lim.few_moves in
      let i : first_piece es m ≡ first_piece es c = ap (first_piece es) fm in
      let j = piece_each c d in
      let h =
      shown
      (and_from (leb (length q.stages) most_stages) (leb (length q.moves) most_moves)
      (le-leb (length q.stages) most_stages (omega arith)) (le-leb (length q.moves) most_moves (omega arith))) in
      let x = ap (λ (x : Prog). length x.stages) h in
      let y = ap (λ (x : Prog). length x.moves) h in
      record { stages = omega arith; moves = omega arith }

  none : within q ≡ false → LengthsOf (viewed es p) (record { stages = 0; moves = 0 })
  none e =
      record {
        stages = sym (ap (λ (x : Prog). length x.stages) (hidden e));
        moves = sym (ap (λ (x : Prog). length x.moves) (hidden e));
      }

  pub no_lengths : (s m : ℕ) → s ≡ n → m ≡ c
      → (most_stages < s + first_piece es m - m) ⊎ (most_moves < first_piece es m)
      → LengthsOf (viewed es p) (record { stages = 0; moves = 0 })
  no_lengths s m fs fm (inl h) =
      let a = stages_q in
      let i : first_piece es m ≡ first_piece es c = ap (first_piece es) fm in
      let j = piece_each c lim.few_moves in
      none
      (and_left (leb (length q.stages) most_stages) (leb (length q.moves) most_moves)
      (lt-leb (length q.stages) most_stages (omega arith)))
  no_lengths s m fs fm (inr h) =
      let a = moves_q in
      let i : first_piece es m ≡ first_piece es c = ap (first_piece es) fm in
      none
      (and_right (leb (length q.stages) most_stages) (leb (length q.moves) most_moves)
      (lt-leb (length q.moves) most_moves (omega arith)))

  -- a view that has a stage, or a move, is not cut short
  stage_within : (s : ℕ) → s < length (viewed es p).stages → within q ≡ true
  stage_within s l =
      ⊎_elim (λ h. h) (λ h. absurd (let e = ap (λ (x : Prog). length x.stages) (hidden h) in omega arith))
      (cases_Bool (within q))

  move_within : (k : ℕ) → k < length (viewed es p).moves → within q ≡ true
  move_within k l =
      ⊎_elim (λ h. h) (λ h. absurd (let e = ap (λ (x : Prog). length x.moves) (hidden h) in omega arith))
      (cases_Bool (within q))

  pub old_stage : (s : ℕ) → s < length (viewed es p).stages → s < n → stage_at p s ≡ stage_at (viewed es p) s
  old_stage s l h =
      sym (get_or_append_left p.stages (replicate (new_before es c) silent_stage) no_stage s h)
      ∙ sym (ap (λ (x : Prog). stage_at x s) (shown (stage_within s l)))

  pub new_stage : (s : ℕ) → s < length (viewed es p).stages → n ≤ s → silent_stage ≡ stage_at (viewed es p) s
  new_stage s l h =
      let e = shown (stage_within s l) in
      let a = stages_q in
      let b = ap (λ (x : Prog). length x.stages) e in
      sym (get_or-replicate (new_before es c) (s - n) silent_stage no_stage (omega arith))
      ∙ sym (get_or-append_right p.stages (replicate (new_before es c) silent_stage) n s no_stage refl h)
      ∙ sym (ap (λ (x : Prog). stage_at x s) e)

  pub move_below : (k m : ℕ) → k < length (viewed es p).moves → m ≡ c → k < first_piece es m
  move_below k m l fm =
      let a = ap (λ (x : Prog). length x.moves) (shown (move_within k l)) in
      let b = moves_q in
      let i : first_piece es m ≡ first_piece es c = ap (first_piece es) fm in
      omega arith

  -- the new stages of a move have numbers of stages
  pub stages_below : (k old s : ℕ) → k < length (viewed es p).moves → old < c → s ≡ n
      → s + first_piece es old - old + between es old ≤ most_stages
  stages_below k old s l lo fs =
      let h = and_parts (leb (length q.stages) most_stages) (leb (length q.moves) most_moves) (move_within k l) in
      let a = leb-true (length q.stages) most_stages h.0 in
      let b = stages_q in
      let d = lim.few_moves in
      let e = piece_each old (omega arith) in
      let r = rises es t.rising (old + 1) c (omega arith) d in
      let r' = t.rising old (omega arith) in
      omega arith

  pub new_move : (k old s : ℕ) (m : Move) → k < length (viewed es p).moves → old < c → s ≡ n → m ≡ move_at p old
      → first_piece es old ≤ k → k < first_piece es (old + 1)
      → get_or (made_by (between es old) m (s + first_piece es old - old)) (k - first_piece es old) no_move
      ≡ move_at (viewed es p) k
  new_move k old s m l lo fs fm low high =
      let d = lim.few_moves in
      let e = piece_each old (omega arith) in
      let i : s + first_piece es old - old ≡ n + new_before es old = omega arith in
      let j : get_or (made_by (between es old) m (s + first_piece es old - old)) (k - first_piece es old) no_move
      ≡ get_or (makes es t.rising n old (move_at p old)) (k - first_piece es old) no_move = cc in
      let z = t.begins in
      j
      ∙ sym
      (table_move es t.rising n 0 old k (k - first_piece es old) old p.moves lo (omega arith) (omega arith)
      (omega arith) (omega arith))
      ∙ sym (ap (λ (x : Prog). move_at x k) (shown (move_within k l)))

  -- a table that goes by the minutes
  pub view_of : ByMinutes es p → ViewOf p (viewed es p)
  view_of h =
      record { lists = same; agrees = λ w. subst (λ x. Agree (graph p) (graph x)) (sym same) (view_agrees p lim w) }
    where
      from : (i k : ℕ) → i < c → k ≡ 0 + i → first_piece es (k + 1) ≡ first_piece es k + suc (inside (move_at p i))
      from i k l e =
          let d = lim.few_moves in
          let z : k ≡ i = omega arith in
          subst (λ x. first_piece es (k + 1) ≡ first_piece es k + suc (inside (move_at p x))) z (h k (omega arith))

      same_moves : q.moves ≡ (minute_prog p).moves
      same_moves =
          let z : n + new_before es 0 ≡ n = omega (arith, t.begins) in
          table_minutes es n 0 p.moves (omega arith) from ∙ ap (moves_by_minute p.moves) z

      same_stages : q.stages ≡ (minute_prog p).stages
      same_stages =
          let a = table_total es 0 c p.moves from (omega arith) in
          let z : new_before es c ≡ new_stages p.moves = omega (arith, t.begins) in
          ap (λ x. p.stages ++ replicate x silent_stage) z

      same : viewed es p ≡ minute_view p
      same =
          ap (λ (xs : List Stage). if_within (record { stages = xs; moves = q.moves })) same_stages
          ∙ ap (λ (ms : List Move). if_within (record { stages = (minute_prog p).stages; moves = ms })) same_moves
