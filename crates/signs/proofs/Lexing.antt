-- How the bytes of a text become signs.
use Rattle.std.proofs.Common.{◌≡◌, ℕ, zero, suc, ◌+◌, ◌-◌, ◌*◌, ◌≤◌, Bool, true, false, cond, eqb, leb, List, []}
use Rattle.std.proofs.Common.{◌∷◌, length, get_or, take, drop, sym, refl, ap, ◌∙◌, subst, arith, length-drop, eq-eqb}
use Rattle.std.proofs.Common.{ne_eqb, eqb-true, le-leb, leb-true}
use Rattle.std.proofs.lemmas.List.{take_rest}
use Rattle.signs.specs.declared.Sign.{Sign}
use Rattle.signs.specs.declared.Sign.TheVariants.{Until, UntilAtMost, UntilAtLeast, Letter, Number, Bad}
use Rattle.signs.specs.Signs.{between, digit, run, value, pair, zero_sign, plain_sign, sign, more, signs_after, signs}
use Rattle.signs.specs.Signs.{told, cap}
use Rattle.signs.proofs.Conds.{by_cond}
use Rattle.signs.specs.First.{Begins, Told, Skipped, Takes}

-- digits

pub digit_yes : (b : ℕ) → 48 ≤ b → b ≤ 57 → digit b ≡ true
digit_yes b p q = rw (le-leb 48 b p, le-leb b 57 q)

pub digit_no : (b : ℕ) → (48 ≤ b → b ≤ 57 → ⊥) → digit b ≡ false
digit_no b n = go (leb 48 b) refl (leb b 57) refl
  where
    go : (x : Bool) → leb 48 b ≡ x → (y : Bool) → leb b 57 ≡ y → cond x y false ≡ false
    go true e true h = absurd (n (leb-true 48 b e) (leb-true b 57 h))
    go true e false h = refl
    go false e y h = refl

cap_ten : (v d : ℕ) → cap (cap v * 10 + d) ≡ cap (v * 10 + d)
cap_ten v d = omega arith

-- a number that is cut on the way is cut at the end
value_capped : (v : ℕ) (bs : List ℕ) → cap (value (cap v) bs) ≡ cap (value v bs)
value_capped v [] = omega arith
value_capped v (b ∷ bs) =
    let d = b - 48 in
    go (digit b)
    (sym (value_capped (cap v * 10 + d) bs) ∙ ap (λ x. cap (value x bs)) (cap_ten v d) ∙ value_capped (v * 10 + d) bs)
  where
    go : (t : Bool) → cap (value (cap v * 10 + (b - 48)) bs) ≡ cap (value (v * 10 + (b - 48)) bs)
        → cap (cond t (value (cap v * 10 + (b - 48)) bs) (cap v)) ≡ cap (cond t (value (v * 10 + (b - 48)) bs) v)
    go true h = h
    go false h = omega arith

-- one digit more in front
pub value_more : (v : ℕ) (text : List ℕ) → 1 ≤ length text → 48 ≤ get_or text 0 0 → get_or text 0 0 ≤ 57
    → cap (value (cap (v * 10 + (get_or text 0 0 - 48))) (drop 1 text)) ≡ cap (value v text)
value_more v [] p l h = absurd (omega arith)
value_more v (b ∷ bs) p l h =
    let d : digit b ≡ true = digit_yes b l h in rw d (value_capped (v * 10 + (b - 48)) bs)

pub run_more : (text : List ℕ) → 1 ≤ length text → 48 ≤ get_or text 0 0 → get_or text 0 0 ≤ 57
    → drop (run (drop 1 text)) (drop 1 text) ≡ drop (run text) text
run_more [] p l h = absurd (omega arith)
run_more (b ∷ bs) p l h = let d : digit b ≡ true = digit_yes b l h in rw d

-- the first sign of a text

signs_drop : (k : ℕ) (bs : List ℕ) → signs_after k bs ≡ signs (drop k bs)
unfolding signs_after
signs_drop k [] = elim k as (λ n. signs_after n [] ≡ signs (drop n [])) [ zero ↦ refl | suc n ↦ refl ]
signs_drop zero (b ∷ bs) = refl
signs_drop (suc k) (b ∷ bs) = signs_drop k bs

pub first_byte : (b : ℕ) (bs : List ℕ) → (b ≡ 32 → ⊥) → signs (b ∷ bs) ≡ sign b bs ∷ signs (drop (more b bs) bs)
unfolding signs_after
first_byte b bs n =
    let e : eqb b 32 ≡ false = ne_eqb b 32 n in rw e (ap (λ us. sign b bs ∷ us) (signs_drop (more b bs) bs))

pub space_byte : (text : List ℕ) → 1 ≤ length text → get_or text 0 0 ≡ 32
    → signs (take (length text - 1) (drop 1 text)) ≡ signs text
unfolding signs_after
space_byte [] p e = absurd (omega arith)
space_byte (b ∷ bs) p e = let h : eqb b 32 ≡ true = eq-eqb b 32 e in ap signs (take_rest (b ∷ bs) 1) ∙ rw h

pub empty_signs : (text : List ℕ) → length text ≡ 0 → signs text ≡ []
unfolding signs_after
empty_signs [] l = refl
empty_signs (b ∷ bs) l = absurd (omega arith)

begins : {t0 bs rest : List ℕ} {b : ℕ} → Skipped t0 (b ∷ bs) → rest ≡ drop (more b bs) bs → Begins t0 (sign b bs) rest
begins {bs = bs} {b = b} k r =
    record {
      splits = sym k.same ∙ first_byte b bs k.stops ∙ ap (λ us. sign b bs ∷ signs us) (sym r);
      shorter = omega (arith, ap length r, length-drop (more b bs) bs, k.shorter);
    }

-- the sign that begins with the first byte, which is x, of what is left after the spaces, and what follows it
pub taken : {t0 bs rest : List ℕ} {s : Sign} {b x : ℕ} → Skipped t0 (b ∷ bs) → b ≡ x → Takes x bs s rest
    → Told t0 s rest
taken {bs = bs} {rest = rest} {s = s} {b = b} k e h =
    let t = subst (λ c. Takes c bs s rest) (sym e) h in (sign b bs, t.first, begins k t.left)

pub takes : {b : ℕ} {bs rest : List ℕ} {s : Sign} (t : Sign) (m : ℕ) → (sign b bs ≡ t) × (more b bs ≡ m) → s ≡ told t
    → rest ≡ drop m bs → Takes b bs s rest
takes {bs = bs} t m p u v = record { first = u ∙ ap told (sym p.0); left = v ∙ ap (λ k. drop k bs) (sym p.1) }

pub zero_takes : {s : Sign} (bs : List ℕ) → s ≡ zero_sign bs → Takes 48 bs s bs
unfolding sign more
zero_takes bs e =
    let same = by_cond (λ t. t ≡ told t) (eqb (run bs) 0) (Number 0) Bad (λ _. refl) (λ _. refl) in
    record { first = e ∙ same; left = refl }

-- a byte that begins no number and is no U

plain_told : (b : ℕ) → plain_sign b ≡ told (plain_sign b)
plain_told b =
    let P : Sign → Type 0 = λ s. s ≡ told s in
    by_cond P (eqb b 40) _ _ (λ _. refl) (λ _. by_cond P (eqb b 41) _ _ (λ _. refl) (λ _.
    by_cond P (eqb b 91) _ _ (λ _. refl) (λ _. by_cond P (eqb b 93) _ _ (λ _. refl) (λ _.
    by_cond P (eqb b 33) _ _ (λ _. refl) (λ _. by_cond P (eqb b 38) _ _ (λ _. refl) (λ _.
    by_cond P (eqb b 124) _ _ (λ _. refl) (λ _. by_cond P (eqb b 69) _ _ (λ _. refl) (λ _.
    by_cond P (eqb b 65) _ _ (λ _. refl) (λ _. by_cond P (between 97 112 b) _ _ (λ _. refl) (λ _. refl))))))))))

plain_begins : (b : ℕ) (bs : List ℕ) → (48 ≤ b → b ≤ 57 → ⊥) → (b ≡ 85 → ⊥)
    → (sign b bs ≡ plain_sign b) × (more b bs ≡ 0)
unfolding sign more
plain_begins b bs n u =
    let e85 : eqb b 85 ≡ false = ne_eqb b 85 u in
    let e48 : eqb b 48 ≡ false = ne_eqb b 48 (λ h. n (omega arith) (omega arith)) in
    let d : digit b ≡ false = digit_no b n in
    (rw (e85, e48, d), rw (e85, e48, d))

pub plain_takes : {s : Sign} (b : ℕ) (bs : List ℕ) → (48 ≤ b → b ≤ 57 → ⊥) → (b ≡ 85 → ⊥) → s ≡ plain_sign b
    → Takes b bs s bs
plain_takes b bs n u e = takes (plain_sign b) 0 (plain_begins b bs n u) (e ∙ plain_told b) refl

plain_letter : (b : ℕ) → 97 ≤ b → b ≤ 112 → plain_sign b ≡ Letter (b - 97)
plain_letter b p q =
    let e40 : eqb b 40 ≡ false = ne_eqb b 40 (λ h. omega arith) in
    let e41 : eqb b 41 ≡ false = ne_eqb b 41 (λ h. omega arith) in
    let e91 : eqb b 91 ≡ false = ne_eqb b 91 (λ h. omega arith) in
    let e93 : eqb b 93 ≡ false = ne_eqb b 93 (λ h. omega arith) in
    let e33 : eqb b 33 ≡ false = ne_eqb b 33 (λ h. omega arith) in
    let e38 : eqb b 38 ≡ false = ne_eqb b 38 (λ h. omega arith) in
    let e124 : eqb b 124 ≡ false = ne_eqb b 124 (λ h. omega arith) in
    let e69 : eqb b 69 ≡ false = ne_eqb b 69 (λ h. omega arith) in
    let e65 : eqb b 65 ≡ false = ne_eqb b 65 (λ h. omega arith) in
    rw (e40, e41, e91, e93, e33, e38, e124, e69, e65, le-leb 97 b p, le-leb b 112 q)

pub letter_begins : (b : ℕ) (bs : List ℕ) → 97 ≤ b → b ≤ 112 → (sign b bs ≡ Letter (b - 97)) × (more b bs ≡ 0)
letter_begins b bs p q =
    let k = plain_begins b bs (λ x y. omega arith) (λ e. omega arith) in
    (k.0 ∙ plain_letter b p q, k.1)

-- a number

pub number_begins : (b : ℕ) (bs : List ℕ) → 49 ≤ b → b ≤ 57
    → (sign b bs ≡ Number (value 0 (b ∷ bs))) × (more b bs ≡ run bs)
unfolding sign more
number_begins b bs p q =
    let e85 : eqb b 85 ≡ false = ne_eqb b 85 (λ h. omega arith) in
    let e48 : eqb b 48 ≡ false = ne_eqb b 48 (λ h. omega arith) in
    let d : digit b ≡ true = digit_yes b (omega arith) q in
    (rw (e85, e48, d), rw (e85, e48, d))

pub number_found : {t0 bs rest : List ℕ} {b : ℕ} (n : ℕ) → Skipped t0 (b ∷ bs) → 49 ≤ b → b ≤ 57
    → n ≡ cap (value 0 (b ∷ bs)) → rest ≡ drop (run (b ∷ bs)) (b ∷ bs) → Told t0 (Number n) rest
number_found {bs = bs} {b = b} n k low high v r =
    let x = number_begins b bs low high in
    let d : digit b ≡ true = digit_yes b (omega arith) high in
    let left : drop (run (b ∷ bs)) (b ∷ bs) ≡ drop (more b bs) bs = rw d (ap (λ i. drop i bs) (sym x.1)) in
    (sign b bs, ap Number v ∙ ap told (sym x.0), begins k (r ∙ left))

-- `U`, and what follows it

pub pair_no : (x y : ℕ) (bs : List ℕ) → (2 ≤ length bs → get_or bs 0 0 ≡ x → get_or bs 1 0 ≡ y → ⊥)
    → pair x y bs ≡ false
pair_no x y [] n = refl
pair_no x y (a ∷ []) n = refl
pair_no x y (a ∷ b ∷ bs) n = go (eqb a x) refl (eqb b y) refl
  where
    go : (p : Bool) → eqb a x ≡ p → (q : Bool) → eqb b y ≡ q → cond p q false ≡ false
    go true e true h = absurd (n (omega arith) (eqb-true a x e) (eqb-true b y h))
    go true e false h = refl
    go false e q h = refl

pub pair_yes : (x y : ℕ) (bs : List ℕ) → 2 ≤ length bs → get_or bs 0 0 ≡ x → get_or bs 1 0 ≡ y → pair x y bs ≡ true
pair_yes x y [] l p q = absurd (omega arith)
pair_yes x y (a ∷ []) l p q = absurd (omega arith)
pair_yes x y (a ∷ b ∷ bs) l p q = rw (eq-eqb a x p, eq-eqb b y q)

pub until_plain : (bs : List ℕ) → pair 60 61 bs ≡ false → pair 62 61 bs ≡ false
    → (sign 85 bs ≡ Until) × (more 85 bs ≡ 0)
unfolding sign more
until_plain bs p q = (rw (p, q), rw (p, q))

pub until_most : (bs : List ℕ) → pair 60 61 bs ≡ true → (sign 85 bs ≡ UntilAtMost) × (more 85 bs ≡ 2)
unfolding sign more
until_most bs p = (rw p, rw p)

pub until_least : (bs : List ℕ) → pair 60 61 bs ≡ false → pair 62 61 bs ≡ true
    → (sign 85 bs ≡ UntilAtLeast) × (more 85 bs ≡ 2)
unfolding sign more
until_least bs p q = (rw (p, q), rw (p, q))
