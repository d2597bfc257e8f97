-- Byte areas: what a write at a place and a record taken out leave, and what the records of an area then read as.
use Rattle.std.proofs.Common.{◌≡◌, ℕ, zero, suc, ◌+◌, ◌-◌, ◌*◌, ◌<◌, ◌≤◌, List, [], ◌∷◌, ◌++◌, length, get_or, take}
use Rattle.std.proofs.Common.{drop, set, replicate, sym, refl, ap, ◌∙◌, add_comm, mul-zero, zero-add, mul-suc}
use Rattle.std.proofs.Common.{mul-add, arith}
use lib.Seq.{take-append-add, drop-append-add}
use Rattle.std.proofs.lemmas.List.{append_assoc, append-nil, length-append, length_push, length-set, length-replicate}
use Rattle.std.proofs.lemmas.List.{get_or-map, length-take-le, length-drop, take-append-drop, take_at, drop_at}
use Rattle.std.proofs.lemmas.List.{drop-drop, drop-replicate, replicate-append-replicate}
use Rattle.std.proofs.lemmas.List.Concat.{flat_map-append}
use Rattle.std.proofs.lemmas.Grind.{common_steps}
use Rattle.std.specs.List.{remove, between}
use Rattle.std.specs.Simd.{first_chunks}
use Rattle.std.proofs.lemmas.List.Edits.{length-remove}
use Rattle.stores.specs.Areas.{put, taken_out, Layout, Lawful, bytes, in_use, filled, Holds}
use Rattle.stores.specs.InUse.{length_first_chunks, length_in_use}

-- record n of an area, among its chunks of w bytes
pub get_or-first_chunks : (w k n : ℕ) (bs : List ℕ) → n < k
    → get_or (first_chunks w k bs) n [] ≡ take w (drop (w * n) bs)
get_or-first_chunks w zero n bs h = absurd (omega arith)
get_or-first_chunks w (suc k) zero bs h = rw (mul-zero w)
get_or-first_chunks w (suc k) (suc n) bs h =
    let e : w * suc n ≡ w + w * n = mul-suc w n ∙ add_comm _ _ in
    get_or-first_chunks w k n (drop w bs) (omega arith)
    ∙ ap (take w) (drop-drop (w * n) w bs ∙ ap (λ m. drop m bs) (sym e))

-- a write behind the first part of an area leaves that part
pub put_append : (front bs : List ℕ) (at : ℕ) (cs : List ℕ)
    → put (front ++ bs) (length front + at) cs ≡ front ++ put bs at cs
put_append front bs at cs = grind (arith, common_steps, take-append-add, drop-append-add)

-- a write of as many bytes at the start
pub put_first : (bs rest cs : List ℕ) → length bs ≡ length cs → put (bs ++ rest) 0 cs ≡ cs ++ rest
put_first bs rest cs e = grind (arith, common_steps, drop_at)

-- An area holds n records and nothing else, and they read as xs.
pub record Written {X : Type 0} (l : Layout X) (n : ℕ) (bs : List ℕ) (xs : List X) : Type 0 where
  pub reads : in_use l n bs ≡ xs
  pub holds : Holds l n bs

module _ {X : Type 0} (l : Layout X) where
  pub below-in_use : (n i : ℕ) (bs : List ℕ) → i < length (in_use l n bs) → i < n
  below-in_use n i bs h = rw (length_in_use l n bs) at h

  pub get_or-in_use : (n i : ℕ) (bs : List ℕ) (d : X) → i < n
      → get_or (in_use l n bs) i d ≡ l.read (take l.width (drop (l.width * i) bs))
  get_or-in_use n i bs d h =
      let inside : i < length (first_chunks l.width n bs) =
      omega (arith, length_first_chunks l.width n bs) in
      get_or-map l.read (first_chunks l.width n bs) i [] d inside
      ∙ ap l.read (get_or-first_chunks l.width n i bs h)

module _ {X : Type 0} (l : Layout X) (law : Lawful l) where
  -- a record alone is read back
  pub read_back : (x : X) → l.read (l.write x) ≡ x
  read_back x = ap l.read (sym (append-nil (l.write x))) ∙ law.back x []

  pub in_use-bytes : (xs : List X) (rest : List ℕ) → in_use l (length xs) (bytes l xs ++ rest) ≡ xs
  in_use-bytes [] rest = refl
  in_use-bytes (x ∷ xs) rest =
      rw (
        append_assoc (l.write x) (bytes l xs) rest,
        take_at (l.write x) (bytes l xs ++ rest) l.width (law.wide x),
        read_back x,
        drop_at (l.write x) (bytes l xs ++ rest) l.width (law.wide x),
        in_use-bytes xs rest,
      )

  -- what lies behind the first record is written as if it stood alone
  put_next : (y : X) (rest : List ℕ) (i : ℕ) (cs : List ℕ)
      → put (l.write y ++ rest) (l.width * suc i) cs ≡ l.write y ++ put rest (l.width * i) cs
  put_next y rest i cs =
      let e : l.width * suc i ≡ length (l.write y) + l.width * i = grind (arith, mul-suc, law.wide) in
      ap (λ k. put (l.write y ++ rest) k cs) e ∙ put_append (l.write y) rest (l.width * i) cs

  pub put_record : (xs : List X) (rest : List ℕ) (i : ℕ) (x : X) → i < length xs
      → put (bytes l xs ++ rest) (l.width * i) (l.write x) ≡ bytes l (set xs i x) ++ rest
  put_record [] rest i x h = absurd (omega arith)
  put_record (y ∷ xs) rest zero x h =
      rw (mul-zero l.width, append_assoc (l.write y) (bytes l xs) rest, append_assoc (l.write x) (bytes l xs) rest)
      (put_first (l.write y) (bytes l xs ++ rest) (l.write x) (law.wide y ∙ sym (law.wide x)))
  put_record (y ∷ xs) rest (suc i) x h =
      rw (
        append_assoc (l.write y) (bytes l xs) rest,
        put_next y (bytes l xs ++ rest) i (l.write x),
        put_record xs rest i x (omega arith),
        append_assoc (l.write y) (bytes l (set xs i x)) rest,
      )

  pub put_behind : (xs : List X) (rest : List ℕ) (x : X)
      → put (bytes l xs ++ rest) (l.width * length xs) (l.write x)
      ≡ bytes l (xs ++ (x ∷ [])) ++ drop l.width rest
  put_behind [] rest x =
      rw (mul-zero l.width, zero-add (length (l.write x)), law.wide x, append-nil (l.write x))
  put_behind (y ∷ xs) rest x =
      rw (
        append_assoc (l.write y) (bytes l xs) rest,
        put_next y (bytes l xs ++ rest) (length xs) (l.write x),
        put_behind xs rest x,
        append_assoc (l.write y) (bytes l (xs ++ (x ∷ []))) (drop l.width rest),
      )

  length_bytes : (xs : List X) → length (bytes l xs) ≡ l.width * length xs
  length_bytes [] = sym (mul-zero l.width)
  length_bytes (x ∷ xs) = let rest = length_bytes xs in grind (arith, common_steps, mul-suc, law.wide)

  -- the records before i, and the others with what lies behind
  bytes_split : (xs : List X) (rest : List ℕ) (i : ℕ)
      → bytes l xs ++ rest ≡ bytes l (take i xs) ++ (bytes l (drop i xs) ++ rest)
  bytes_split xs rest i =
      ap (λ ys. bytes l ys ++ rest) (sym (take-append-drop i xs))
      ∙ ap (λ bs. bs ++ rest) (flat_map-append l.write (take i xs) (drop i xs))
      ∙ append_assoc (bytes l (take i xs)) (bytes l (drop i xs)) rest

  module _ (xs : List X) (rest : List ℕ) (i : ℕ) (h : i ≤ length xs) where
    length_bytes_take : length (bytes l (take i xs)) ≡ l.width * i
    length_bytes_take = length_bytes (take i xs) ∙ ap (λ n. l.width * n) (length-take-le i xs h)

    take_bytes : take (l.width * i) (bytes l xs ++ rest) ≡ bytes l (take i xs)
    take_bytes = ap (take (l.width * i)) (bytes_split xs rest i) ∙ take_at (bytes l (take i xs)) _ _ length_bytes_take

    drop_bytes : drop (l.width * i) (bytes l xs ++ rest) ≡ bytes l (drop i xs) ++ rest
    drop_bytes = ap (drop (l.width * i)) (bytes_split xs rest i) ∙ drop_at (bytes l (take i xs)) _ _ length_bytes_take

  -- the records behind i
  between_bytes : (xs : List X) (rest : List ℕ) (i : ℕ) → i < length xs
      → between (l.width * (i + 1)) (l.width * length xs) (bytes l xs ++ rest) ≡ bytes l (drop (i + 1) xs)
  between_bytes xs rest i h =
      let w = l.width in
      let n = length xs in
      let behind = drop (i + 1) xs in
      let m : (i + 1) + length behind ≡ n = simp length-drop (omega arith) in
      let wide : w * n ≡ w * (i + 1) + w * length behind =
      ap (λ k. w * k) (sym m) ∙ mul-add w (i + 1) (length behind) in
      let long : length (bytes l behind) ≡ w * n - w * (i + 1) = omega (arith, length_bytes behind) in
      ap (take (w * n - w * (i + 1))) (drop_bytes xs rest (i + 1) (omega arith)) ∙ take_at (bytes l behind) rest _ long

  pub taken_out-bytes : (xs : List X) (rest : List ℕ) (i : ℕ) → i < length xs
      → taken_out l.width (length xs) i (bytes l xs ++ rest)
      ≡ bytes l (remove xs i) ++ (replicate l.width 0 ++ rest)
  taken_out-bytes xs rest i h =
      let w = l.width in
      let n = length xs in
      let next : i + 1 ≡ suc i = omega arith in
      let past : drop (w * n) (bytes l xs ++ rest) ≡ rest = drop_at (bytes l xs) rest (w * n) (length_bytes xs) in
      rw (
        take_bytes xs rest i (omega arith),
        between_bytes xs rest i h,
        past,
        next,
        flat_map-append l.write (take i xs) (drop (suc i) xs),
        append_assoc (bytes l (take i xs)) (bytes l (drop (suc i) xs)) (replicate w 0 ++ rest),
      )

  pub written : (n k : ℕ) (bs : List ℕ) (xs : List X) → length xs ≡ n → bs ≡ bytes l xs ++ replicate k 0
      → Written l n bs xs
  written n k bs xs e h =
      let zeros : length bs - length (bytes l xs) ≡ k =
      omega (arith, ap length h ∙ length-append (bytes l xs) (replicate k 0), length-replicate {A = ℕ} k 0) in
      let r : in_use l n bs ≡ xs =
      ap (λ m. in_use l m bs) (sym e) ∙ ap (in_use l (length xs)) h ∙ in_use-bytes xs (replicate k 0) in
      record {
        reads = r;
        holds =
            h
            ∙ ap (λ m. bytes l xs ++ replicate m 0) (sym zeros)
            ∙ ap (λ ys. filled (length bs) (bytes l ys)) (sym r);
      }

  -- the record x written to an area of n records
  module _ (n : ℕ) (bs : List ℕ) (h : Holds l n bs) (x : X) where
    pub record_appended : (new : List ℕ) → new ≡ put bs (l.width * n) (l.write x)
        → Written l (n + 1) new (in_use l n bs ++ (x ∷ []))
    record_appended new e =
        let xs = in_use l n bs in
        let k = length bs - length (bytes l xs) in
        let put_is : put bs (l.width * n) (l.write x) ≡ bytes l (xs ++ (x ∷ [])) ++ replicate (k - l.width) 0 =
        ap (λ r. put r (l.width * n) (l.write x)) h
        ∙ ap (λ m. put (bytes l xs ++ replicate k 0) (l.width * m) (l.write x)) (sym (length_in_use l n bs))
        ∙ put_behind xs (replicate k 0) x
        ∙ ap (λ r. bytes l (xs ++ (x ∷ [])) ++ r) (drop-replicate l.width k 0) in
        written (n + 1) (k - l.width) _ _ (length_push xs x ∙ ap (λ m. m + 1) (length_in_use l n bs)) (e ∙ put_is)

    pub record_replaced : (i : ℕ) (new : List ℕ) → i < n → new ≡ put bs (l.width * i) (l.write x)
        → Written l n new (set (in_use l n bs) i x)
    record_replaced i new below e =
        let xs = in_use l n bs in
        let k = length bs - length (bytes l xs) in
        let inside : i < length xs = omega (arith, length_in_use l n bs) in
        let put_is : put bs (l.width * i) (l.write x) ≡ bytes l (set xs i x) ++ replicate k 0 =
        ap (λ r. put r (l.width * i) (l.write x)) h ∙ put_record xs (replicate k 0) i x inside in
        written n k _ _ (length-set xs i x ∙ length_in_use l n bs) (e ∙ put_is)

  -- record i taken out of an area of n records, which leaves m
  pub record_taken : (n m : ℕ) (bs : List ℕ) → Holds l n bs → n ≡ suc m → (i : ℕ) (new : List ℕ) → i < n
      → new ≡ taken_out l.width n i bs → Written l m new (remove (in_use l n bs) i)
  record_taken n m bs h one i new below e =
      let xs = in_use l n bs in
      let k = length bs - length (bytes l xs) in
      let count = length_in_use l n bs in
      let inside : i < length xs = omega arith in
      let taken_is : taken_out l.width n i bs ≡ bytes l (remove xs i) ++ replicate (l.width + k) 0 =
      ap (taken_out l.width n i) h
      ∙ ap (λ c. taken_out l.width c i (bytes l xs ++ replicate k 0)) (sym count)
      ∙ taken_out-bytes xs (replicate k 0) i inside
      ∙ ap (λ r. bytes l (remove xs i) ++ r) (replicate-append-replicate l.width k 0) in
      written m (l.width + k) new (remove xs i) (let fewer = length-remove xs i inside in omega arith) (e ∙ taken_is)
