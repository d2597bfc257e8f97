-- The function `signs` gives what a text writes.
use Rattle.std.proofs.Common.{◌≡◌, ℕ, suc, ◌+◌, ◌-◌, ◌*◌, ◌<◌, Bool, true, false, cond, eqb, leb, List, [], ◌∷◌, ◌++◌}
use Rattle.std.proofs.Common.{length, take, drop, sym, refl, ap, ◌∙◌, subst, arith, eq-eqb, eqb-true, leb-true}
use borrow.Author.Tests.{eqb-false, both_ways}
use Rattle.std.proofs.lemmas.List.{take-append-drop}
use Rattle.std.specs.List.{AllByRecursion}
use Rattle.rules.specs.declared.line.Quantifier.TheVariants as quantifier
use Rattle.signs.specs.declared.Sign.{Sign}
use Rattle.signs.specs.declared.Sign.TheVariants.{Open, Close, OpenSquare, CloseSquare, Bang, Amp, Bar, Each, Until}
use Rattle.signs.specs.declared.Sign.TheVariants.{UntilAtMost, UntilAtLeast, Letter, Number, Bad}
use Rattle.signs.specs.Signs.{digit, run, value, pair, plain_sign, sign, more, signs_after, signs}
use Rattle.signs.specs.Writing.{Digit, worth, Numeral, Spells, Starts, Apart, Space, Writes, Good}
use Rattle.signs.specs.Writing.{SignsRight}
use Rattle.signs.proofs.Lexing.{digit_yes, digit_no, first_byte, letter_begins, number_begins}
use Rattle.signs.proofs.Conds.{by_cond, both_cond}

-- from what is written to signs

spaces_skipped : (ws bs : List ℕ) → AllByRecursion Space ws → signs (ws ++ bs) ≡ signs bs
unfolding signs_after
spaces_skipped [] bs a = refl
spaces_skipped (w ∷ ws) bs a = let e : eqb w 32 ≡ true = eq-eqb w 32 a.0 in rw e (spaces_skipped ws bs a.1)

only_spaces : (ws : List ℕ) → AllByRecursion Space ws → signs ws ≡ []
unfolding signs_after
only_spaces [] a = refl
only_spaces (w ∷ ws) a = let e : eqb w 32 ≡ true = eq-eqb w 32 a.0 in rw e (only_spaces ws a.1)

-- a text of no digit in front
none_in_front : (bs : List ℕ) → ((b : ℕ) → Digit b → Starts bs (b ∷ []) → ⊥) → (run bs ≡ 0) × ((v : ℕ) → value v bs ≡ v)
none_in_front [] n = (refl, λ v. refl)
none_in_front (b ∷ bs) n =
    let d : digit b ≡ false = digit_no b (λ low high. n b (low, high) (bs, refl)) in
    (rw d, λ v. rw d)

-- digits before such a text
digits_run : (ds bs : List ℕ) → AllByRecursion Digit ds → run bs ≡ 0 → run (ds ++ bs) ≡ length ds
digits_run [] bs a e = e
digits_run (d ∷ ds) bs a e =
    let t : digit d ≡ true = digit_yes d a.0.0 a.0.1 in rw t (ap suc (digits_run ds bs a.1 e))

digits_value : (v : ℕ) (ds bs : List ℕ) → AllByRecursion Digit ds → ((u : ℕ) → value u bs ≡ u)
    → value v (ds ++ bs) ≡ worth v ds
digits_value v [] bs a e = e v
digits_value v (d ∷ ds) bs a e =
    let t : digit d ≡ true = digit_yes d a.0.0 a.0.1 in rw t (digits_value (v * 10 + (d - 48)) ds bs a.1 e)

drop_front : (ds bs : List ℕ) → drop (length ds) (ds ++ bs) ≡ bs
drop_front [] bs = refl
drop_front (d ∷ ds) bs = drop_front ds bs

zero_signs : (bs : List ℕ) → run bs ≡ 0 → signs (48 ∷ bs) ≡ Number 0 ∷ signs bs
unfolding sign more signs_after
zero_signs bs e = rw e

number_signs : (ds bs : List ℕ) (n : ℕ) → Numeral ds n → ((b : ℕ) → Digit b → Starts bs (b ∷ []) → ⊥)
    → signs (ds ++ bs) ≡ Number n ∷ signs bs
number_signs [] bs n h a = absurd (omega (arith, h.some))
number_signs (d ∷ ds) bs n h a = go (eqb d 48) refl
  where
    go : (t : Bool) → eqb d 48 ≡ t → signs ((d ∷ ds) ++ bs) ≡ Number n ∷ signs bs
    go true t =
        let e = h.lead (eqb-true d 48 t) in
        ap (λ xs. signs (xs ++ bs)) e ∙ zero_signs bs (none_in_front bs a).0
        ∙ ap (λ m. Number m ∷ signs bs) (sym (ap (worth 0) e) ∙ h.value)
    go false t =
        let none = none_in_front bs a in
        let k = number_begins d (ds ++ bs) (omega (arith, eqb-false d 48 t)) h.digits.0.1 in
        let v = digits_value 0 (d ∷ ds) bs h.digits none.1 ∙ h.value in
        let r = k.1 ∙ digits_run ds bs h.digits.1 none.0 in
        first_byte d (ds ++ bs) (λ e. omega arith)
        ∙ ap (λ s. s ∷ signs (drop (more d (ds ++ bs)) (ds ++ bs))) (k.0 ∙ ap Number v)
        ∙ ap (λ i. Number n ∷ signs (drop i (ds ++ bs))) r ∙ ap (λ xs. Number n ∷ signs xs) (drop_front ds bs)

pair_apart : (x y : ℕ) (bs : List ℕ) → (Starts bs (x ∷ y ∷ []) → ⊥) → pair x y bs ≡ false
pair_apart x y [] n = refl
pair_apart x y (a ∷ []) n = refl
pair_apart x y (a ∷ b ∷ bs) n = go (eqb a x) refl (eqb b y) refl
  where
    go : (p : Bool) → eqb a x ≡ p → (q : Bool) → eqb b y ≡ q → cond p q false ≡ false
    go true e true h = absurd (n (bs, let p = eqb-true a x e in let q = eqb-true b y h in cc))
    go true e false h = refl
    go false e q h = refl

letter_signs : (k : ℕ) (bs : List ℕ) → k < 16 → signs ((97 + k) ∷ bs) ≡ Letter k ∷ signs bs
letter_signs k bs h =
    let b = 97 + k in
    let p = letter_begins b bs (omega arith) (omega arith) in
    let back : b - 97 ≡ k = omega arith in
    first_byte b bs (λ e. omega arith) ∙ ap (λ s. s ∷ signs (drop (more b bs) bs)) (p.0 ∙ ap Letter back)
    ∙ ap (λ i. Letter k ∷ signs (drop i bs)) p.1

until_plainly : (bs : List ℕ) → pair 60 61 bs ≡ false → pair 62 61 bs ≡ false → signs (85 ∷ bs) ≡ Until ∷ signs bs
unfolding sign more signs_after
until_plainly bs p q = rw (p, q)

one_sign : (bytes bs : List ℕ) (s : Sign) → Spells bytes s → Apart s bs → signs (bytes ++ bs) ≡ s ∷ signs bs
unfolding sign more signs_after
one_sign bytes bs Open e a = ap (λ xs. signs (xs ++ bs)) e
one_sign bytes bs Close e a = ap (λ xs. signs (xs ++ bs)) e
one_sign bytes bs OpenSquare e a = ap (λ xs. signs (xs ++ bs)) e
one_sign bytes bs CloseSquare e a = ap (λ xs. signs (xs ++ bs)) e
one_sign bytes bs Bang e a = ap (λ xs. signs (xs ++ bs)) e
one_sign bytes bs Amp e a = ap (λ xs. signs (xs ++ bs)) e
one_sign bytes bs Bar e a = ap (λ xs. signs (xs ++ bs)) e
one_sign bytes bs (Each quantifier.Some) e a = ap (λ xs. signs (xs ++ bs)) e
one_sign bytes bs (Each quantifier.All) e a = ap (λ xs. signs (xs ++ bs)) e
one_sign bytes bs Until e a =
    ap (λ xs. signs (xs ++ bs)) e ∙ until_plainly bs (pair_apart 60 61 bs a.0) (pair_apart 62 61 bs a.1)
one_sign bytes bs UntilAtMost e a = ap (λ xs. signs (xs ++ bs)) e
one_sign bytes bs UntilAtLeast e a = ap (λ xs. signs (xs ++ bs)) e
one_sign bytes bs (Letter k) e a = ap (λ xs. signs (xs ++ bs)) e.1 ∙ letter_signs k bs e.0
one_sign bytes bs (Number n) e a = number_signs bytes bs n e a
one_sign bytes bs Bad e a = absurd e

written_signs : (text : List ℕ) (ss : List Sign) → Writes text ss → signs text ≡ ss
written_signs text [] a = only_spaces text a
written_signs text (s ∷ ss) w =
    ap signs w.splits ∙ spaces_skipped w.spaces (w.bytes ++ w.rest) w.blank
    ∙ one_sign w.bytes w.rest s w.spelled w.apart
    ∙ ap (λ us. s ∷ us) (written_signs w.rest ss w.goes_on)

bad_unwritten : (bytes : List ℕ) (s : Sign) → Spells bytes s → Good s
bad_unwritten bytes s w e = subst (Spells bytes) e w

written_good : (text : List ℕ) (ss : List Sign) → Writes text ss → AllByRecursion Good ss
written_good text [] a = tt
written_good text (s ∷ ss) w = (bad_unwritten w.bytes s w.spelled, written_good w.rest ss w.goes_on)

-- from signs to what is written

-- a text is spaces alone, or has a first byte that is none
pub data Front (text : List ℕ) : Type 0 where
  blank : AllByRecursion Space text → Front text
  begins : (ws : List ℕ) (b : ℕ) (bs : List ℕ) → AllByRecursion Space ws → (b ≡ 32 → ⊥)
      → text ≡ ws ++ (b ∷ bs) → Front text

front : (text : List ℕ) → Front text
front [] = blank tt
front (b ∷ bs) = go (eqb b 32) refl (front bs)
  where
    go : (t : Bool) → eqb b 32 ≡ t → Front bs → Front (b ∷ bs)
    go true t (blank a) = blank (eqb-true b 32 t, a)
    go true t (begins ws x xs a n e) = begins (b ∷ ws) x xs (eqb-true b 32 t, a) n (ap (λ ys. b ∷ ys) e)
    go false t f = begins [] b bs tt (eqb-false b 32 t) refl

digit_bounds : (b : ℕ) → digit b ≡ true → Digit b
digit_bounds b e = go (leb 48 b) refl (leb b 57) refl e
  where
    go : (x : Bool) → leb 48 b ≡ x → (y : Bool) → leb b 57 ≡ y → cond x y false ≡ true → Digit b
    go true p true q t = (leb-true 48 b p, leb-true b 57 q)
    go true p false q t = absurd (both_ways false refl t)
    go false p y q t = absurd (both_ways false refl t)

-- the digits in front are digits, with the value of the text, and no digit follows them
run_digits : (bs : List ℕ) → AllByRecursion Digit (take (run bs) bs)
run_digits [] = tt
run_digits (b ∷ bs) =
    by_cond (λ m. AllByRecursion Digit (take m (b ∷ bs))) (digit b) _ _ (λ e. (digit_bounds b e, run_digits bs))
    (λ _. tt)

run_value : (v : ℕ) (bs : List ℕ) → worth v (take (run bs) bs) ≡ value v bs
run_value v [] = refl
run_value v (b ∷ bs) =
    both_cond (λ m w. worth v (take m (b ∷ bs)) ≡ w) (digit b) _ _ _ _ (λ _. run_value (v * 10 + (b - 48)) bs)
    (λ _. refl)

run_apart : (bs : List ℕ) (c : ℕ) → Digit c → Starts (drop (run bs) bs) (c ∷ []) → ⊥
run_apart [] c d = λ st. let e = st.1 in cc
run_apart (b ∷ bs) c d =
    by_cond (λ m. Starts (drop m (b ∷ bs)) (c ∷ []) → ⊥) (digit b) _ _ (λ _. run_apart bs c d)
    (λ no_digit st.
    let same : b ≡ c = cc st.1 in
    both_ways (digit b) no_digit (digit_yes b (omega (arith, d.0)) (omega (arith, d.1))))

pair_take : (x y : ℕ) (bs : List ℕ) → pair x y bs ≡ true → take 2 bs ≡ x ∷ y ∷ []
pair_take x y [] e = absurd (both_ways false refl e)
pair_take x y (a ∷ []) e = absurd (both_ways false refl e)
pair_take x y (a ∷ b ∷ bs) e = go (eqb a x) refl (eqb b y) refl e
  where
    go : (p : Bool) → eqb a x ≡ p → (q : Bool) → eqb b y ≡ q → cond p q false ≡ true
        → ◌≡◌ {A = List ℕ} (a ∷ b ∷ []) (x ∷ y ∷ [])
    go true u true w t = let p = eqb-true a x u in let q = eqb-true b y w in cc
    go true u false w t = absurd (both_ways false refl t)
    go false u q w t = absurd (both_ways false refl t)

pair_starts : (x y : ℕ) (bs : List ℕ) → pair x y bs ≡ false → Starts bs (x ∷ y ∷ []) → ⊥
pair_starts x y bs n (rest, e) =
    let p : eqb x x ≡ true = eq-eqb x x refl in
    let q : eqb y y ≡ true = eq-eqb y y refl in
    let t : pair x y (x ∷ y ∷ rest) ≡ true = rw (p, q) in
    both_ways (pair x y (x ∷ y ∷ rest)) (sym (ap (pair x y) e) ∙ n) t

-- the first sign, which takes m bytes besides b, is written by them
abbrev Meant : ℕ → List ℕ → Sign → ℕ → Type 0
Meant b bs s m = Good s → Spells (b ∷ take m bs) s × Apart s (drop m bs)

one_byte : (b k : ℕ) → eqb b k ≡ true → ◌≡◌ {A = List ℕ} (b ∷ []) (k ∷ [])
one_byte b k e = ap (λ x. x ∷ []) (eqb-true b k e)

letter_meant : (b : ℕ) (bs : List ℕ) (x y : Bool) → leb 97 b ≡ x → leb b 112 ≡ y
    → Meant b bs (cond (cond x y false) (Letter (b - 97)) Bad) 0
letter_meant b bs true true p q g =
    let low = leb-true 97 b p in
    let high = leb-true b 112 q in
    let k : b ≡ 97 + (b - 97) = omega arith in
    ((omega arith, ap (λ x. x ∷ []) k), tt)
letter_meant b bs true false p q g = absurd (g refl)
letter_meant b bs false y p q g = absurd (g refl)

plain_meant : (b : ℕ) (bs : List ℕ) → Meant b bs (plain_sign b) 0
plain_meant b bs =
    let P : Sign → Type 0 = λ s. Meant b bs s 0 in
    by_cond P (eqb b 40) _ _ (λ e g. (one_byte b 40 e, tt)) (λ _.
    by_cond P (eqb b 41) _ _ (λ e g. (one_byte b 41 e, tt)) (λ _.
    by_cond P (eqb b 91) _ _ (λ e g. (one_byte b 91 e, tt)) (λ _.
    by_cond P (eqb b 93) _ _ (λ e g. (one_byte b 93 e, tt)) (λ _.
    by_cond P (eqb b 33) _ _ (λ e g. (one_byte b 33 e, tt)) (λ _.
    by_cond P (eqb b 38) _ _ (λ e g. (one_byte b 38 e, tt)) (λ _.
    by_cond P (eqb b 124) _ _ (λ e g. (one_byte b 124 e, tt)) (λ _.
    by_cond P (eqb b 69) _ _ (λ e g. (one_byte b 69 e, tt)) (λ _.
    by_cond P (eqb b 65) _ _ (λ e g. (one_byte b 65 e, tt))
    (λ _. letter_meant b bs (leb 97 b) (leb b 112) refl refl)))))))))

three_bytes : (b x y : ℕ) (bs : List ℕ) → eqb b 85 ≡ true → pair x y bs ≡ true
    → ◌≡◌ {A = List ℕ} (b ∷ take 2 bs) (85 ∷ x ∷ y ∷ [])
three_bytes b x y bs u e = let p = eqb-true b 85 u in let q = pair_take x y bs e in cc

zero_meant : (b : ℕ) (bs : List ℕ) → eqb b 48 ≡ true → eqb (run bs) 0 ≡ true
    → Numeral (b ∷ []) 0 × ((c : ℕ) → Digit c → Starts bs (c ∷ []) → ⊥)
zero_meant b bs z e =
    let k = eqb-true b 48 z in (
      record {
        digits =
            ((omega arith, omega arith), tt);
        some = omega arith;
        lead = λ _. one_byte b 48 z;
        value = omega arith;
      },
      subst (λ m. (c : ℕ) → Digit c → Starts (drop m bs) (c ∷ []) → ⊥) (eqb-true (run bs) 0 e) (run_apart bs),
    )

number_meant : (b : ℕ) (bs : List ℕ) → eqb b 48 ≡ false → digit b ≡ true
    → Meant b bs (Number (value 0 (b ∷ bs))) (run bs)
number_meant b bs z d g = (
  record {
    digits = (digit_bounds b d, run_digits bs);
    some = omega arith;
    lead = λ e. absurd (eqb-false b 48 z e);
    value = run_value (0 + (b - 48)) bs ∙ rw d;
  },
  run_apart bs,
)

sign_meant : (b : ℕ) (bs : List ℕ) → Meant b bs (sign b bs) (more b bs)
unfolding sign more
sign_meant b bs =
    let P : Sign → ℕ → Type 0 = Meant b bs in
    both_cond P (eqb b 85) _ _ _ _
    (λ u.
    both_cond P (pair 60 61 bs) _ _ _ _ (λ e g. (three_bytes b 60 61 bs u e, tt)) (λ most.
    both_cond P (pair 62 61 bs) _ _ _ _ (λ e g. (three_bytes b 62 61 bs u e, tt)) (λ least g.
    (one_byte b 85 u, (pair_starts 60 61 bs most, pair_starts 62 61 bs least)))))
    (λ _.
    both_cond P (eqb b 48) _ _ _ _
    (λ z. by_cond (λ s. P s 0) (eqb (run bs) 0) _ _ (λ e _. zero_meant b bs z e) (λ _ g. absurd (g refl)))
    (λ z. both_cond P (digit b) _ _ _ _ (number_meant b bs z) (λ _. plain_meant b bs)))

first_of : {text : List ℕ} (ws : List ℕ) (b : ℕ) (bs : List ℕ) → AllByRecursion Space ws → (b ≡ 32 → ⊥)
    → text ≡ ws ++ (b ∷ bs) → signs text ≡ sign b bs ∷ signs (drop (more b bs) bs)
first_of ws b bs a n e = ap signs e ∙ spaces_skipped ws (b ∷ bs) a ∙ first_byte b bs n

signs_written : (text : List ℕ) (ss : List Sign) → signs text ≡ ss → AllByRecursion Good ss → Writes text ss
signs_written text [] e g = go (front text)
  where
    go : Front text → Writes text []
    go (blank a) = a
    go (begins ws b bs a n t) = let x = first_of ws b bs a n t in cc
signs_written text (s ∷ ss) e g = go (front text) (λ rest t. signs_written rest ss t g.1)
  where
    go : Front text → ((rest : List ℕ) → signs rest ≡ ss → Writes rest ss) → Writes text (s ∷ ss)
    go (blank a) next = let x = only_spaces text a in cc
    go (begins ws b bs a n t) next =
        let x = sym (first_of ws b bs a n t) ∙ e in
        let same : sign b bs ≡ s = cc in
        let rest : signs (drop (more b bs) bs) ≡ ss = cc in
        let k = subst (λ u. Meant b bs u (more b bs)) same (sign_meant b bs) g.0 in
        record {
          spaces = ws;
          bytes = b ∷ take (more b bs) bs;
          rest = drop (more b bs) bs;
          splits = t ∙ ap (λ xs. ws ++ (b ∷ xs)) (sym (take-append-drop (more b bs) bs));
          blank = a;
          spelled = k.0;
          apart = k.1;
          goes_on = next (drop (more b bs) bs) rest;
        }

pub signs_right : SignsRight
signs_right text ss =
    (λ w. (written_signs text ss w, written_good text ss w), λ h. signs_written text ss h.0 h.1)
