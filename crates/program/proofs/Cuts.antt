-- A cut splits a move; a join undoes a split.
use Rattle.std.proofs.Common.{◌≡◌, ℕ, zero, suc, ◌+◌, ◌-◌, ◌<◌, ◌≤◌, Bool, true, false, cond, eqb, List, [], ◌∷◌, ◌++◌}
use Rattle.std.proofs.Common.{length, get_or, set, sym, refl, ap, ◌∙◌, subst, ⊎_elim, not-suc-le-zero, arith}
use Rattle.std.proofs.Common.{length-append, length-set}
use Rattle.std.specs.List.{remove}
use Rattle.std.proofs.lemmas.List.{get_or_append_left, get_or_push, get_or-set_same, get_or-set_other, length-take-le}
use Rattle.std.proofs.lemmas.List.{take_more, take_all}
use Rattle.std.proofs.lemmas.List.Edits.{length-remove}
use Rattle.std.proofs.lemmas.Bool.{cases_eq, eqb-true, eq-eqb}
use Rattle.program.specs.declared.Kind.TheVariants.{Open, Silent}
use Rattle.program.specs.declared.Move.{Move}
use Rattle.program.specs.Meaning.{Prog, no_stage, no_move, stage_at, move_at, most_minutes}
use Rattle.program.specs.Edits.{leads, with_cut, with_join, first, move_into, move_out_of, last_stage}
use Rattle.program.specs.Tidy.{SilentAt, Way, there, on, Tidy}
use Rattle.program.proofs.Splits.{Split, size, count, not_both}

-- Cut

module _ (p : Prog) (from : (m : ℕ) → m < count p → (move_at p m).leaves < size p)
    (to : (m : ℕ) → m < count p → (move_at p m).enters < size p) (k a : ℕ) (lk : k < count p)
    (la : a ≤ (move_at p k).minutes) where
  abbrev X : Move
  X = leads (move_at p k).leaves a (size p)

  abbrev Y : Move
  Y = leads (size p) ((move_at p k).minutes - a) (move_at p k).enters

  abbrev c : Prog
  c = with_cut p k a

  set_count : length (set p.moves k X) ≡ count p
  set_count = length-set p.moves k X

  cut_count : count c ≡ suc (count p)
  cut_count = let e = length-append (set p.moves k X) (Y ∷ []) in let f = set_count in omega arith

  cut_old : (m : ℕ) → m < count p → move_at c m ≡ get_or (set p.moves k X) m no_move
  cut_old m l = let e = set_count in get_or_append_left (set p.moves k X) (Y ∷ []) no_move m (omega arith)

  cut_k : move_at c k ≡ X
  cut_k = cut_old k lk ∙ get_or-set_same p.moves k X no_move lk

  cut_other : (m : ℕ) → m < count p → (m ≡ k → ⊥) → move_at c m ≡ move_at p m
  cut_other m l e = cut_old m l ∙ get_or-set_other p.moves k m X no_move e

  cut_new : move_at c (count p) ≡ Y
  cut_new = get_or_push (set p.moves k X) Y no_move (count p) set_count

  pub cut_splits : Split p (with_cut p k a)
  cut_splits =
      record {
        extra = record { marks = 0; kind = Silent };
        stages = refl;
        hushed = refl;
        k = k;
        out = count p;
        up = λ m. m;
        real_k = lk;
        real_out = let e = cut_count in omega arith;
        real_up = λ m l. let e = cut_count in omega arith;
        up_one = λ m n e. e;
        up_other = λ m l e. omega arith;
        up_all = λ x l e. (x, (let h = cut_count in omega arith), refl);
        same = cut_other;
        in_leaves = ap (λ (m : Move). m.leaves) cut_k;
        in_enters = ap (λ (m : Move). m.enters) cut_k;
        out_leaves = ap (λ (m : Move). m.leaves) cut_new;
        out_enters = ap (λ (m : Move). m.enters) cut_new;
        sum =
            let e = ap (λ (m : Move). m.minutes) cut_k in
            let f = ap (λ (m : Move). m.minutes) cut_new in
            omega arith;
        from = from;
        to = to;
      }

-- A list without what stands at a place: where its elements stood

abbrev lift : ℕ → ℕ → ℕ
lift zero m = suc m
lift (suc o) zero = zero
lift (suc o) (suc m) = suc (lift o m)

lift_le : (o m : ℕ) → lift o m ≤ suc m
lift_le zero m = omega arith
lift_le (suc o) zero = omega arith
lift_le (suc o) (suc m) = let h = lift_le o m in omega arith

lift_one : (o m n : ℕ) → lift o m ≡ lift o n → m ≡ n
lift_one zero m n e = omega arith
lift_one (suc o) zero zero e = refl
lift_one (suc o) zero (suc n) e = absurd (omega arith)
lift_one (suc o) (suc m) zero e = absurd (omega arith)
lift_one (suc o) (suc m) (suc n) e = ap suc (lift_one o m n (omega arith))

lift_other : (o m : ℕ) → lift o m ≡ o → ⊥
lift_other zero m e = omega arith
lift_other (suc o) zero e = omega arith
lift_other (suc o) (suc m) e = lift_other o m (omega arith)

lift_all : (o x n : ℕ) → o < suc n → x < suc n → (x ≡ o → ⊥) → (m : ℕ) × (m < n) × (lift o m ≡ x)
lift_all zero zero n lo lx d = absurd (d refl)
lift_all zero (suc x) n lo lx d = (x, omega arith, refl)
lift_all (suc o) zero n lo lx d = (0, omega arith, refl)
lift_all (suc o) (suc x) zero lo lx d = absurd (omega arith)
lift_all (suc o) (suc x) (suc n) lo lx d =
    let h = lift_all o x n (omega arith) (omega arith) (λ e. d (ap suc e)) in
    (suc h.0, omega (arith, h.1), ap suc h.2)

get_or-removed : {A : Type 0} (xs : List A) (o m : ℕ) (d : A) → get_or (remove xs o) m d ≡ get_or xs (lift o m) d
get_or-removed [] zero m d = refl
get_or-removed [] (suc o) m d = refl
get_or-removed (x ∷ xs) zero m d = refl
get_or-removed (x ∷ xs) (suc o) zero d = refl
get_or-removed (x ∷ xs) (suc o) (suc m) d = get_or-removed xs o m d

-- What is looked for is found.
first_found : (end : Move → ℕ) (s : ℕ) (xs : List Move) (m : ℕ) → m < length xs → end (get_or xs m no_move) ≡ s
    → (first (λ (x : Move). eqb (end x) s) xs < length xs)
    × (end (get_or xs (first (λ (x : Move). eqb (end x) s) xs) no_move) ≡ s)
first_found end s [] m l e = absurd (not-suc-le-zero l)
first_found end s (x ∷ xs) zero l e = rw (eq-eqb (end x) s e) (omega arith, e)
first_found end s (x ∷ xs) (suc m) l e =
    go (eqb (end x) s) refl (first (λ (y : Move). eqb (end y) s) xs) (first_found end s xs m (omega arith) e)
  where
    go : (b : Bool) → eqb (end x) s ≡ b → (f : ℕ) → (f < length xs) × (end (get_or xs f no_move) ≡ s)
        → (cond b 0 (suc f) < suc (length xs)) × (end (get_or (x ∷ xs) (cond b 0 (suc f)) no_move) ≡ s)
    go true h f r = (omega arith, eqb-true (end x) s h)
    go false h f r = (omega (arith, r.0), r.1)

-- Join

module _ (p : Prog) (tidy : Tidy p) (si : SilentAt p (last_stage p)) where
  abbrev e : ℕ
  e = last_stage p

  abbrev i : ℕ
  i = move_into p e

  abbrev o : ℕ
  o = move_out_of p e

  abbrev Z : Move
  Z = leads (move_at p i).leaves ((move_at p i).minutes + (move_at p o).minutes) (move_at p o).enters

  abbrev j : Prog
  j = with_join p

  size_e : size p ≡ suc e
  size_e = omega (arith, si.0)

  in_found : (i < count p) × ((move_at p i).enters ≡ e)
  in_found =
      let one = tidy.one_in e si in
      first_found (λ (m : Move). m.enters) e p.moves one.it one.real one.has

  out_found : (o < count p) × ((move_at p o).leaves ≡ e)
  out_found =
      let one = tidy.one_out e si in
      first_found (λ (m : Move). m.leaves) e p.moves one.it one.real one.has

  in_alone : (m : ℕ) → m < count p → (move_at p m).enters ≡ e → m ≡ i
  in_alone m l h =
      let one = tidy.one_in e si in
      one.alone m l h ∙ sym (one.alone i in_found.0 in_found.1)

  out_alone : (m : ℕ) → m < count p → (move_at p m).leaves ≡ e → m ≡ o
  out_alone m l h =
      let one = tidy.one_out e si in
      one.alone m l h ∙ sym (one.alone o out_found.0 out_found.1)

  -- the move in is not the move out, for a way would turn there for ever
  no_way : i ≡ o → {s c : ℕ} → Way p s c → s ≡ e → ⊥
  no_way same (there {s} t) h = not_both p e (subst (λ x. (stage_at p x).kind ≡ Open) h t.1) si.1
  no_way same (on x lx ex sx w ed) h =
      no_way same w (ap (λ y. (move_at p y).enters) (out_alone x lx (ex ∙ h) ∙ sym same) ∙ in_found.1)

  apart : i ≡ o → ⊥
  apart same = no_way same (tidy.onward i in_found.0).way in_found.1

  set_length : length (set p.moves i Z) ≡ count p
  set_length = length-set p.moves i Z

  join_count : suc (count j) ≡ count p
  join_count =
      let z = set_length in
      let h = out_found.0 in
      let r = length-remove (set p.moves i Z) o (omega arith) in
      omega arith

  join_at : (m : ℕ) → move_at j m ≡ get_or (set p.moves i Z) (lift o m) no_move
  join_at m = get_or-removed (set p.moves i Z) o m no_move

  abbrev Place : ℕ → Type 0
  Place x = (m : ℕ) × (m < count j) × (lift o m ≡ x)

  place : (x : ℕ) → x < count p → (x ≡ o → ⊥) → Place x
  place x l d =
      let h = join_count in
      let l' = out_found.0 in
      lift_all o x (count j) (omega arith) (omega arith) d

  k_place : Place i
  k_place = place i in_found.0 apart

  abbrev kj : ℕ
  kj = k_place.0

  at_k : move_at j kj ≡ Z
  at_k =
      join_at kj ∙ ap (λ x. get_or (set p.moves i Z) x no_move) k_place.2
      ∙ get_or-set_same p.moves i Z no_move in_found.0

  not_in : (m : ℕ) → (m ≡ kj → ⊥) → lift o m ≡ i → ⊥
  not_in m d h = d (lift_one o m kj (h ∙ sym k_place.2))

  at_other : (m : ℕ) → (m ≡ kj → ⊥) → move_at p (lift o m) ≡ move_at j m
  at_other m d = sym (join_at m ∙ get_or-set_other p.moves i (lift o m) Z no_move (not_in m d))

  size_j : size j ≡ e
  size_j = length-take-le e p.stages (let z = size_e in omega arith)

  lift_real : (m : ℕ) → m < count j → lift o m < count p
  lift_real m l = let h = join_count in let u = lift_le o m in omega arith

  -- a move other than the two joins stages before the last
  old_leaves : (x : ℕ) → x < count p → (x ≡ o → ⊥) → (move_at p x).leaves < size j
  old_leaves x l d =
      let a = (tidy.ends x l).0 in
      let z = size_e in
      let z' = size_j in
      let n : (move_at p x).leaves ≡ e → ⊥ = λ h. d (out_alone x l h) in
      ⊎_elim (λ h. absurd (n h)) (λ h. omega arith) (cases_eq (move_at p x).leaves e)

  old_enters : (x : ℕ) → x < count p → (x ≡ i → ⊥) → (move_at p x).enters < size j
  old_enters x l d =
      let a = (tidy.ends x l).1 in
      let z = size_e in
      let z' = size_j in
      let n : (move_at p x).enters ≡ e → ⊥ = λ h. d (in_alone x l h) in
      ⊎_elim (λ h. absurd (n h)) (λ h. omega arith) (cases_eq (move_at p x).enters e)

  join_from : (m : ℕ) → m < count j → (move_at j m).leaves < size j
  join_from m l =
      ⊎_elim
      (λ h.
      let z : (move_at j m).leaves ≡ (move_at p i).leaves =
      ap (λ y. (move_at j y).leaves) h ∙ ap (λ (y : Move). y.leaves) at_k in
      subst (λ x. x < size j) (sym z) (old_leaves i in_found.0 apart))
      (λ h.
      let z = ap (λ (y : Move). y.leaves) (at_other m h) in
      subst (λ x. x < size j) z (old_leaves (lift o m) (lift_real m l) (lift_other o m)))
      (cases_eq m kj)

  join_to : (m : ℕ) → m < count j → (move_at j m).enters < size j
  join_to m l =
      ⊎_elim
      (λ h.
      let z : (move_at j m).enters ≡ (move_at p o).enters =
      ap (λ y. (move_at j y).enters) h ∙ ap (λ (y : Move). y.enters) at_k in
      subst (λ x. x < size j) (sym z) (old_enters o out_found.0 (λ y. apart (sym y))))
      (λ h.
      let z = ap (λ (y : Move). y.enters) (at_other m h) in
      subst (λ x. x < size j) z (old_enters (lift o m) (lift_real m l) (not_in m h)))
      (cases_eq m kj)

  join_stages : p.stages ≡ j.stages ++ (stage_at p e ∷ [])
  join_stages =
      let z = size_e in
      sym (take_all (e + 1) p.stages (omega arith)) ∙ take_more p.stages e no_stage (omega arith)

  pub join_splits : Split (with_join p) p
  join_splits =
      record {
        extra = stage_at p e;
        stages = join_stages;
        hushed = si.1;
        k = kj;
        out = o;
        up = lift o;
        real_k = k_place.1;
        real_out = out_found.0;
        real_up = lift_real;
        up_one = lift_one o;
        up_other = λ m l h. lift_other o m h;
        up_all = place;
        same = λ m l h. at_other m h;
        in_leaves = ap (λ y. (move_at p y).leaves) k_place.2 ∙ sym (ap (λ (y : Move). y.leaves) at_k);
        in_enters = ap (λ y. (move_at p y).enters) k_place.2 ∙ in_found.1 ∙ sym size_j;
        out_leaves = out_found.1 ∙ sym size_j;
        out_enters = sym (ap (λ (y : Move). y.enters) at_k);
        sum =
            ap (λ y. (move_at p y).minutes + (move_at p o).minutes) k_place.2
            ∙ sym (ap (λ (y : Move). y.minutes) at_k);
        from = join_from;
        to = join_to;
      }

  -- For a store: the two moves may be looked for in any way, they are two, and their minutes are a week at most.
  pub into_is : (x : ℕ) → x < count p → (move_at p x).enters ≡ last_stage p → move_into p (last_stage p) ≡ x
  into_is x l h = sym (in_alone x l h)

  pub out_of_is : (x : ℕ) → x < count p → (move_at p x).leaves ≡ last_stage p → move_out_of p (last_stage p) ≡ x
  out_of_is x l h = sym (out_alone x l h)

  pub in_and_out : (i < count p) × (o < count p) × (i ≡ o → ⊥)
  in_and_out = (in_found.0, out_found.0, apart)

  pub join_short : (move_at p i).minutes + (move_at p o).minutes ≤ most_minutes
  join_short = go in_found.1 (tidy.onward i in_found.0).way (tidy.onward i in_found.0).short
    where
      go : {s c : ℕ} → s ≡ e → Way p s c → (move_at p i).minutes + c ≤ most_minutes
          → (move_at p i).minutes + (move_at p o).minutes ≤ most_minutes
      go h (there t) u = absurd (not_both p e (subst (λ x. (stage_at p x).kind ≡ Open) h t.1) si.1)
      go h (on x lx ex sx w ed) u =
          let a : (move_at p x).minutes ≡ (move_at p o).minutes =
          ap (λ y. (move_at p y).minutes) (out_alone x lx (ex ∙ h)) in
          omega arith
