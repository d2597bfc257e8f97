-- The minute program refines the program, and may be checked exactly if the program may.
use Rattle.std.proofs.Common.{◌≡◌, ℕ, zero, suc, ◌+◌, ◌-◌, ◌<◌, ◌≤◌, T, ◌⊎◌, ◌↔◌, List, [], ◌∷◌, length, get_or}
use Rattle.std.proofs.Common.{replicate, sym, refl, ap, ◌∙◌, subst, inl, inr, ⊎_elim, not-suc-le-zero, add-zero}
use Rattle.std.proofs.Common.{add-suc, suc-add, zero-add, arith, length-append}
use lib.ListN.{length-replicate}
use Rattle.std.proofs.lemmas.List.{get_or_append_left, get_or-append-add, get_or-append_right}
use Rattle.std.specs.List.{range_with_len}
use Rattle.std.proofs.lemmas.List.FromFn.{length-range_with_len, get_or-range_with_len}
use Rattle.std.proofs.lemmas.Bool.{cases_lt, cases_order}
use Rattle.tctl.specs.Graph.{Graph, Stage, Move, Open, size, count, move_at}
use Rattle.tctl.specs.Runs.{Ends, Sound}
use Rattle.tctl.specs.Refine.{Refines, span}
use Rattle.tctl.proofs.Refined.{sound_up, sound_down}
use Rattle.cutting.specs.Minute.{leads, minutes_through, by_minutes, minute_moves, hidden, silent_one, minute}
use Rattle.cutting.specs.Theorems.{MinuteRefines}

abbrev at : List Move → ℕ → Move
at ms k = get_or ms k (leads 0 0 0)

-- One move

abbrev many : ℕ → ℕ
many zero = 1
many (suc d) = suc d

many_some : (d : ℕ) → 0 < many d
many_some zero = omega arith
many_some (suc d) = omega arith

many_less : (d k : ℕ) → suc k < many d → k < d - 1
many_less zero k l = absurd (omega arith)
many_less (suc d) k l = omega arith

through_length : (d s n t : ℕ) → length (minutes_through d s n t) ≡ suc d
through_length zero s n t = refl
through_length (suc d) s n t = ap suc (through_length d n (suc n) t)

through_first : (d s n t : ℕ) → (at (minutes_through d s n t) 0).leaves ≡ s
through_first zero s n t = refl
through_first (suc d) s n t = refl

through_last : (d s n t : ℕ) → (at (minutes_through d s n t) d).enters ≡ t
through_last zero s n t = refl
through_last (suc d) s n t = through_last d n (suc n) t

through_enters : (d s n t k : ℕ) → k < d → (at (minutes_through d s n t) k).enters ≡ n + k
through_enters zero s n t k l = absurd (not-suc-le-zero l)
through_enters (suc d) s n t zero l = sym (add-zero n)
through_enters (suc d) s n t (suc k) l =
    through_enters d n (suc n) t k (omega arith) ∙ (suc-add n k ∙ sym (add-suc n k))

through_leaves : (d s n t k : ℕ) → k < d → (at (minutes_through d s n t) (suc k)).leaves ≡ n + k
through_leaves zero s n t k l = absurd (not-suc-le-zero l)
through_leaves (suc d) s n t zero l = through_first d n (suc n) t ∙ sym (add-zero n)
through_leaves (suc d) s n t (suc k) l =
    through_leaves d n (suc n) t k (omega arith) ∙ (suc-add n k ∙ sym (add-suc n k))

through_minutes : (d s n t k : ℕ) → k < suc d → (at (minutes_through d s n t) k).minutes ≡ 1
through_minutes zero s n t zero l = refl
through_minutes zero s n t (suc k) l = absurd (omega arith)
through_minutes (suc d) s n t zero l = refl
through_minutes (suc d) s n t (suc k) l = through_minutes d n (suc n) t k (omega arith)

by_length : (d s n t : ℕ) → length (by_minutes d s n t) ≡ many d
by_length zero s n t = refl
by_length (suc d) s n t = through_length d s n t

by_first : (d s n t : ℕ) → (at (by_minutes d s n t) 0).leaves ≡ s
by_first zero s n t = refl
by_first (suc d) s n t = through_first d s n t

by_last : (d s n t k : ℕ) → suc k ≡ many d → (at (by_minutes d s n t) k).enters ≡ t
by_last zero s n t k e = subst (λ x. (at (by_minutes zero s n t) x).enters ≡ t) (let z : 0 ≡ k = omega arith in z) refl
by_last (suc d) s n t k e =
    subst (λ x. (at (minutes_through d s n t) x).enters ≡ t) (let z : d ≡ k = omega arith in z) (through_last d s n t)

by_enters : (d s n t k : ℕ) → suc k < many d → (at (by_minutes d s n t) k).enters ≡ n + k
by_enters zero s n t k l = absurd (omega arith)
by_enters (suc d) s n t k l = through_enters d s n t k (omega arith)

by_leaves : (d s n t k : ℕ) → suc k < many d → (at (by_minutes d s n t) (suc k)).leaves ≡ n + k
by_leaves zero s n t k l = absurd (omega arith)
by_leaves (suc d) s n t k l = through_leaves d s n t k (omega arith)

-- The list of moves

-- where the moves that make move m begin
abbrev start : List Move → ℕ → ℕ
start [] m = 0
start (x ∷ ms) zero = 0
start (x ∷ ms) (suc m) = many x.minutes + start ms m

-- the next new stage there
abbrev fresh : List Move → ℕ → ℕ → ℕ
fresh [] n m = n
fresh (x ∷ ms) n zero = n
fresh (x ∷ ms) n (suc m) = fresh ms (n + (x.minutes - 1)) m

abbrev long : List Move → ℕ → ℕ
long ms m = many (at ms m).minutes

-- what a move is made by, from a new stage on
abbrev pieces : Move → ℕ → List Move
pieces x n = by_minutes x.minutes x.leaves n x.enters

abbrev made : List Move → ℕ → ℕ → List Move
made ms n m = pieces (at ms m) (fresh ms n m)

pieces_length : (x : Move) (n : ℕ) → length (pieces x n) ≡ many x.minutes
pieces_length x n = by_length x.minutes x.leaves n x.enters

-- how many moves there are
moves_length : (x : Move) (ms : List Move) (n : ℕ)
    → length (minute_moves (x ∷ ms) n) ≡ many x.minutes + length (minute_moves ms (n + (x.minutes - 1)))
moves_length x ms n =
    length-append (pieces x n) (minute_moves ms (n + (x.minutes - 1)))
    ∙ ap (λ y. y + length (minute_moves ms (n + (x.minutes - 1)))) (pieces_length x n)

made_at : (ms : List Move) (n m k : ℕ) → m < length ms → k < long ms m
    → at (minute_moves ms n) (start ms m + k) ≡ at (made ms n m) k
made_at [] n m k l lk = absurd (not-suc-le-zero l)
made_at (x ∷ ms) n zero k l lk =
    let b = pieces_length x n in
    let h : k < length (pieces x n) = omega arith in
    ap (at (minute_moves (x ∷ ms) n)) (zero-add k)
    ∙ get_or_append_left (pieces x n) (minute_moves ms (n + (x.minutes - 1))) (leads 0 0 0) k h
made_at (x ∷ ms) n (suc m) k l lk =
    let b = pieces_length x n in
    let e : (many x.minutes + start ms m) + k ≡ length (pieces x n) + (start ms m + k) = omega arith in
    ap (at (minute_moves (x ∷ ms) n)) e
    ∙ get_or-append-add (pieces x n) (minute_moves ms (n + (x.minutes - 1))) (start ms m + k) (leads 0 0 0)
    ∙ made_at ms (n + (x.minutes - 1)) m k (omega arith) lk

made_real : (ms : List Move) (n m k : ℕ) → m < length ms → k < long ms m → start ms m + k < length (minute_moves ms n)
made_real [] n m k l lk = absurd (not-suc-le-zero l)
made_real (x ∷ ms) n zero k l lk = let c = moves_length x ms n in omega arith
made_real (x ∷ ms) n (suc m) k l lk =
    let c = moves_length x ms n in
    let ih = made_real ms (n + (x.minutes - 1)) m k (omega arith) lk in
    omega arith

abbrev Found : List Move → ℕ → Type 0
Found ms a = (m : ℕ) × (k : ℕ) × (m < length ms) × (k < long ms m) × (start ms m + k ≡ a)

found : (ms : List Move) (n a : ℕ) → a < length (minute_moves ms n) → Found ms a
found [] n a l = absurd (not-suc-le-zero l)
found (x ∷ ms) n a l = go (cases_lt a (many x.minutes)) (found ms (n + (x.minutes - 1)) (a - many x.minutes))
  where
    go : (a < many x.minutes) ⊎ (many x.minutes ≤ a)
        → (a - many x.minutes < length (minute_moves ms (n + (x.minutes - 1))) → Found ms (a - many x.minutes))
        → Found (x ∷ ms) a
    go (inl h) again = (0, a, omega arith, h, omega arith)
    go (inr h) again =
        let c = moves_length x ms n in
        let o = again (omega arith) in
        (suc o.0, o.1, omega (arith, o.2), o.3, omega (arith, o.4))

fresh_from : (ms : List Move) (n m : ℕ) → n ≤ fresh ms n m
fresh_from [] n m = omega arith
fresh_from (x ∷ ms) n zero = omega arith
fresh_from (x ∷ ms) n (suc m) = let h = fresh_from ms (n + (x.minutes - 1)) m in omega arith

fresh_mono : (ms : List Move) (n m m' : ℕ) → m < m' → m' < length ms
    → fresh ms n m + ((at ms m).minutes - 1) ≤ fresh ms n m'
fresh_mono [] n m m' l l' = absurd (not-suc-le-zero l')
fresh_mono (x ∷ ms) n zero zero l l' = absurd (not-suc-le-zero l)
fresh_mono (x ∷ ms) n zero (suc m') l l' = fresh_from ms (n + (x.minutes - 1)) m'
fresh_mono (x ∷ ms) n (suc m) zero l l' = absurd (not-suc-le-zero l)
fresh_mono (x ∷ ms) n (suc m) (suc m') l l' = fresh_mono ms (n + (x.minutes - 1)) m m' (omega arith) (omega arith)

fresh_top : (ms : List Move) (n m : ℕ) → m < length ms → fresh ms n m + ((at ms m).minutes - 1) ≤ n + hidden ms
fresh_top [] n m l = absurd (not-suc-le-zero l)
fresh_top (x ∷ ms) n zero l = omega arith
fresh_top (x ∷ ms) n (suc m) l = let h = fresh_top ms (n + (x.minutes - 1)) m (omega arith) in omega arith

-- each new stage is one of those of some move
abbrev Owned : List Move → ℕ → ℕ → Type 0
Owned ms n s = (m : ℕ) × (k : ℕ) × (m < length ms) × (k < (at ms m).minutes - 1) × (fresh ms n m + k ≡ s)

owned : (ms : List Move) (n s : ℕ) → n ≤ s → s < n + hidden ms → Owned ms n s
owned [] n s l h = absurd (omega arith)
owned (x ∷ ms) n s l h = go (cases_lt s (n + (x.minutes - 1))) (owned ms (n + (x.minutes - 1)) s)
  where
    go : (s < n + (x.minutes - 1)) ⊎ (n + (x.minutes - 1) ≤ s)
        → (n + (x.minutes - 1) ≤ s → s < (n + (x.minutes - 1)) + hidden ms → Owned ms (n + (x.minutes - 1)) s)
        → Owned (x ∷ ms) n s
    go (inl u) again = (0, s - n, omega arith, omega arith, omega arith)
    go (inr u) again = let o = again u (omega arith) in (suc o.0, o.1, omega (arith, o.2), o.3, o.4)

less_many : (d k : ℕ) → k < d - 1 → suc k < many d
less_many zero k l = absurd (omega arith)
less_many (suc d) k l = omega arith

-- Numbers in a row

row_ones : (q : Graph) (o l : ℕ) → ((k : ℕ) → k < l → (move_at q (o + k)).minutes ≡ 1) → span q (range_with_len o l) ≡ l
row_ones q o zero h = refl
row_ones q o (suc l) h =
    let One : ℕ → Type 0 = λ x. (move_at q x).minutes ≡ 1 in
    let a : (move_at q o).minutes ≡ 1 = subst One (add-zero o) (h 0 (omega arith)) in
    let b = row_ones q (o + 1) l
    (λ k u. subst One (let z : o + suc k ≡ o + 1 + k = omega arith in z) (h (suc k) (omega arith))) in
    omega arith

row_span : (q : Graph) (d s n t o : ℕ) → ((k : ℕ) → k < many d → move_at q (o + k) ≡ at (by_minutes d s n t) k)
    → span q (range_with_len o (many d)) ≡ d
row_span q zero s n t o h =
    let e = ap (λ (m : Move). m.minutes) (h 0 (omega arith)) in
    let a : (move_at q o).minutes ≡ 0 = subst (λ x. (move_at q x).minutes ≡ 0) (add-zero o) e in
    omega arith
row_span q (suc d) s n t o h =
    row_ones q o (suc d) (λ k l. ap (λ (m : Move). m.minutes) (h k l) ∙ through_minutes d s n t k l)

hush : (h i : ℕ) → T (get_or (replicate h silent_one) i silent_one).shown → ⊥
hush zero i t = t
hush (suc h) zero t = t
hush (suc h) (suc i) t = hush h i t

module _ (p : Graph) (ok : Ends p) where
  abbrev q : Graph
  q = minute p

  abbrev ms : List Move
  ms = p.moves

  -- the first of the new stages of move m
  abbrev new : ℕ → ℕ
  new m = fresh ms (size p) m

  -- the ends of the moves that make move m
  module _ (m : ℕ) (lm : m < count p) where
    abbrev x : Move
    x = move_at p m

    first_leaves : (move_at q (start ms m)).leaves ≡ (move_at p m).leaves
    first_leaves =
        let h = many_some x.minutes in
        ap (λ y. (move_at q y).leaves) (sym (add-zero (start ms m)))
        ∙ ap (λ (y : Move). y.leaves) (made_at ms (size p) m 0 lm h)
        ∙ by_first x.minutes x.leaves (new m) x.enters

    last_enters : (k : ℕ) → suc k ≡ long ms m → (move_at q (start ms m + k)).enters ≡ (move_at p m).enters
    last_enters k e =
        ap (λ (y : Move). y.enters) (made_at ms (size p) m k lm (omega arith))
        ∙ by_last x.minutes x.leaves (new m) x.enters k e

    enters_new : (k : ℕ) → suc k < long ms m → (move_at q (start ms m + k)).enters ≡ new m + k
    enters_new k l =
        ap (λ (y : Move). y.enters) (made_at ms (size p) m k lm (omega arith))
        ∙ by_enters x.minutes x.leaves (new m) x.enters k l

    leaves_new : (k : ℕ) → suc k < long ms m → (move_at q (start ms m + suc k)).leaves ≡ new m + k
    leaves_new k l =
        ap (λ (y : Move). y.leaves) (made_at ms (size p) m (suc k) lm l)
        ∙ by_leaves x.minutes x.leaves (new m) x.enters k l

  abbrev chain : ℕ → List ℕ
  chain m = range_with_len (start ms m) (long ms m)

  len : (m : ℕ) → length (chain m) ≡ long ms m
  len m = length-range_with_len (start ms m) (long ms m)

  chain_at : (m k : ℕ) → k < length (chain m) → get_or (chain m) k 0 ≡ start ms m + k
  chain_at m k l = let e = len m in get_or-range_with_len (start ms m) (long ms m) k 0 (omega arith)

  minute_silent : (s : ℕ) → size p ≤ s → Open q s → ⊥
  minute_silent s l o =
      let added = replicate (hidden ms) silent_one in
      hush (hidden ms) (s - size p)
      (subst (λ (x : Stage). T x.shown) (get_or-append_right p.stages added (size p) s silent_one refl l) o)

  -- a move that leaves a new stage
  abbrev Inner : ℕ → Type 0
  Inner a =
      (m : ℕ) × (k : ℕ) × (m < count p) × (k < (at ms m).minutes - 1) × (start ms m + suc k ≡ a)
      × ((move_at q a).leaves ≡ new m + k)

  inner : (a : ℕ) → a < count q → size p ≤ (move_at q a).leaves → Inner a
  inner a l h = let o = found ms (size p) a l in go o.0 o.1 o.2 o.3 o.4
    where
      go : (m k : ℕ) → m < count p → k < long ms m → start ms m + k ≡ a → Inner a
      go m zero lm lk e =
          let u : (move_at q a).leaves ≡ (move_at p m).leaves =
          ap (λ x. (move_at q x).leaves) (sym e ∙ add-zero (start ms m)) ∙ first_leaves m lm in
          let v = ok.from m lm in
          absurd (omega arith)
      go m (suc k) lm lk e = (
        m,
        k,
        lm,
        many_less (at ms m).minutes k lk,
        e,
        ap (λ x. (move_at q x).leaves) (sym e) ∙ leaves_new m lm k lk,
      )

  inner_one : (a b m k m' k' : ℕ) → m < count p → m' < count p → k < (at ms m).minutes - 1
      → k' < (at ms m').minutes - 1 → start ms m + suc k ≡ a → start ms m' + suc k' ≡ b → new m + k ≡ new m' + k'
      → a ≡ b
  inner_one a b m k m' k' lm lm' lk lk' ea eb e =
      ⊎_elim
      (λ i.
      let f : new m ≡ new m' = ap new i in
      let g : start ms m ≡ start ms m' = ap (start ms) i in
      omega arith)
      (⊎_elim
      (λ i. let h = fresh_mono ms (size p) m m' i lm' in absurd (omega arith))
      (λ i. let h = fresh_mono ms (size p) m' m i lm in absurd (omega arith)))
      (cases_order m m')

  minute_of : Refines p q
  minute_of =
      record {
        chains =
            record {
              extra = replicate (hidden ms) silent_one;
              stages = refl;
              silent = minute_silent;
              chain = chain;
              some = λ m l. let e = len m in let h = many_some (at ms m).minutes in omega arith;
              real = λ m k lm lk.
                  let e = len m in
                  subst (λ x. x < count q) (sym (chain_at m k lk)) (made_real ms (size p) m k lm (omega arith));
              first = λ m lm.
                  let e = len m in
                  let h = many_some (at ms m).minutes in
                  ap (λ x. (move_at q x).leaves) (chain_at m 0 (omega arith) ∙ add-zero (start ms m))
                  ∙ first_leaves m lm;
              last = λ m k lm lk.
                  ap (λ x. (move_at q x).enters) (chain_at m k (omega arith)) ∙ last_enters m lm k (lk ∙ len m);
              minutes = λ m lm.
                  let x = at ms m in
                  row_span q x.minutes x.leaves (new m) x.enters (start ms m)
                  (λ k lk. made_at ms (size p) m k lm lk);
              through = λ m k lm lk.
                  let e = len m in
                  let u = enters_new m lm k (omega arith) in
                  let w : (move_at q (get_or (chain m) k 0)).enters ≡ (move_at q (start ms m + k)).enters =
                  ap (λ x. (move_at q x).enters) (chain_at m k (omega arith)) in
                  let v = fresh_from ms (size p) m in
                  omega arith;
              joined = λ m k lm lk.
                  let e = len m in
                  ap (λ x. (move_at q x).leaves) (chain_at m (suc k) lk) ∙ leaves_new m lm k (omega arith)
                  ∙ sym (ap (λ x. (move_at q x).enters) (chain_at m k (omega arith)) ∙ enters_new m lm k (omega arith));
            };
        all = λ a l.
            let o = found ms (size p) a l in
            let e = len o.0 in
            (o.0, o.1, o.2, omega (arith, o.3), chain_at o.0 o.1 (omega (arith, o.3)) ∙ o.4);
        one_out = λ a b la lb h e.
            let u = inner a la h in
            let v = inner b lb (subst (λ x. size p ≤ x) e h) in
            inner_one a b u.0 u.1 v.0 v.1 u.2 v.2 u.3 v.3 u.4 v.4 (sym u.5 ∙ e ∙ v.5);
      }

  minute_size : size q ≡ size p + hidden ms
  minute_size =
      length-append p.stages (replicate (hidden ms) silent_one)
      ∙ ap (λ x. size p + x) (length-replicate (hidden ms) silent_one)

  minute_from : (a : ℕ) → a < count q → (move_at q a).leaves < size q
  minute_from a l =
      let z = minute_size in
      ⊎_elim (λ h. omega arith)
      (λ h.
      let o = inner a l h in
      let t = fresh_top ms (size p) o.0 o.2 in
      let e = o.5 in
      let k = o.3 in
      omega arith)
      (cases_lt (move_at q a).leaves (size p))

  minute_to : (a : ℕ) → a < count q → (move_at q a).enters < size q
  minute_to a l =
      let o = found ms (size p) a l in
      go o.0 o.1 o.2 o.3 o.4 (cases_lt (suc o.1) (long ms o.0))
    where
      go : (m k : ℕ) → m < count p → k < long ms m → start ms m + k ≡ a
          → (suc k < long ms m) ⊎ (long ms m ≤ suc k) → (move_at q a).enters < size q
      go m k lm lk e (inl h) =
          let u : (move_at q a).enters ≡ new m + k = ap (λ x. (move_at q x).enters) (sym e) ∙ enters_new m lm k h in
          let t = fresh_top ms (size p) m lm in
          let d = many_less (at ms m).minutes k h in
          let z = minute_size in
          omega arith
      go m k lm lk e (inr h) =
          let y : suc k ≡ long ms m = omega arith in
          let u : (move_at q a).enters ≡ (move_at p m).enters =
          ap (λ x. (move_at q x).enters) (sym e) ∙ last_enters m lm k y in
          let t = ok.to m lm in
          let z = minute_size in
          omega arith

  minute_out : (s : ℕ) → size p ≤ s → s < size q → (m : ℕ) × (m < count q) × ((move_at q m).leaves ≡ s)
  minute_out s l h =
      let z = minute_size in
      let o = owned ms (size p) s l (omega arith) in
      let lk = less_many (at ms o.0).minutes o.1 o.3 in (
        start ms o.0 + suc o.1,
        made_real ms (size p) o.0 (suc o.1) o.2 lk,
        leaves_new o.0 o.2 o.1 lk ∙ o.4,
      )

  pub minute_sound : Sound p ↔ Sound (minute p)
  minute_sound =
      let ends : Ends q = record { from = minute_from; to = minute_to } in
      ((λ h. sound_up p q ok minute_of h ends minute_out), sound_down p q ok minute_of)

pub minute_refines_lem : MinuteRefines
minute_refines_lem = minute_of
