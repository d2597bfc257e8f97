-- Letters in rising order, and what they are worth as a set of marks.
use Rattle.std.proofs.Common.{◌≡◌, ℕ, zero, suc, ◌+◌, ◌-◌, ◌*◌, ◌/◌, ◌%◌, ◌^◌, ◌<◌, ◌≤◌, Bool, true, false, cond, eqb}
use Rattle.std.proofs.Common.{List, [], ◌∷◌, length, get_or, drop, sym, refl, ap, ◌∙◌, subst, ⊎_elim, arith, pow_mono}
use Rattle.std.proofs.Common.{eq-eqb, ne_eqb, eqb-true}
use native.Mathlib.Nat.{pow-succ'}
use borrow.Author.Tests.{eqb-false}
use Rattle.std.proofs.lemmas.List.{drop_more, drop_all}
use Rattle.std.proofs.lemmas.Bool.{cases_lt}
use Rattle.std.proofs.lemmas.Nat.{one_shl}
use Rattle.layout.specs.Letters.{letters_from, letters, Sixteen}

-- The letters stand in rising order, from b on and below e.
abbrev pub Rising : ℕ → ℕ → List ℕ → Type 0
Rising b e [] = Unit {0}
Rising b e (x ∷ xs) = (b ≤ x) × (x < e) × Rising (x + 1) e xs

-- What letters are worth, where the letter b is worth 1 and each next one twice as much.
abbrev pub weigh : ℕ → List ℕ → ℕ
weigh b [] = 0
weigh b (x ∷ xs) = 2 ^ (x - b) + weigh b xs

rising_from : (b c e : ℕ) (xs : List ℕ) → b ≤ c → Rising c e xs → Rising b e xs
rising_from b c e [] l r = tt
rising_from b c e (x ∷ xs) l r = (omega arith, r.1, r.2)

pow_next : (x b : ℕ) → b < x → 2 ^ (x - b) ≡ 2 * 2 ^ (x - (b + 1))
pow_next x b l = let e : x - b ≡ suc (x - (b + 1)) = omega arith in ap (λ k. 2 ^ k) e ∙ pow-succ' 2 (x - (b + 1))

weigh_next : (b e : ℕ) (xs : List ℕ) → Rising (b + 1) e xs → weigh b xs ≡ 2 * weigh (b + 1) xs
weigh_next b e [] r = refl
weigh_next b e (x ∷ xs) r =
    let l : b + 1 ≤ x = r.0 in
    let h = weigh_next b e xs (rising_from (b + 1) (x + 1) e xs (omega arith) r.2) in
    omega (arith, pow_next x b (omega arith), h)

letters_rising : (k b marks e : ℕ) → e ≡ b + k → Rising b e (letters_from k b marks)
unfolding letters_from
letters_rising zero b marks e is = tt
letters_rising (suc k) b marks e is = go (eqb (marks % 2) 1) (letters_rising k (b + 1) (marks / 2) e (omega arith))
  where
    go : (t : Bool) → Rising (b + 1) e (letters_from k (b + 1) (marks / 2))
        → Rising b e (cond t (b ∷ letters_from k (b + 1) (marks / 2)) (letters_from k (b + 1) (marks / 2)))
    go true r = (omega arith, omega arith, r)
    go false r = rising_from b (b + 1) e (letters_from k (b + 1) (marks / 2)) (omega arith) r

weigh_letters : (k b marks : ℕ) → marks < 2 ^ k → weigh b (letters_from k b marks) ≡ marks
unfolding letters_from
weigh_letters zero b marks l = omega (arith, l)
weigh_letters (suc k) b marks l =
    go (eqb (marks % 2) 1) refl
    (weigh_next b (b + 1 + k) (letters_from k (b + 1) (marks / 2))
    (letters_rising k (b + 1) (marks / 2) (b + 1 + k) refl))
    (weigh_letters k (b + 1) (marks / 2) (omega (arith, l, pow-succ' 2 k)))
  where
    go : (t : Bool) → eqb (marks % 2) 1 ≡ t → weigh b (letters_from k (b + 1) (marks / 2)) ≡ 2 * weigh (b + 1)
        (letters_from k (b + 1) (marks / 2))
        → weigh (b + 1) (letters_from k (b + 1) (marks / 2)) ≡ marks / 2
        → weigh b (cond t (b ∷ letters_from k (b + 1) (marks / 2)) (letters_from k (b + 1) (marks / 2))) ≡ marks
    go true t h e = let z : b - b ≡ 0 = omega arith in omega (arith, ap (λ n. 2 ^ n) z, eqb-true (marks % 2) 1 t)
    go false t h e = let n : marks % 2 ≡ 1 → ⊥ = eqb-false (marks % 2) 1 t in omega arith

letters_even : (k b m marks : ℕ) (xs : List ℕ) → marks ≡ 2 * m → letters_from k (b + 1) m ≡ xs
    → letters_from (suc k) b marks ≡ xs
unfolding letters_from
letters_even k b m marks xs e h =
    let even : eqb (marks % 2) 1 ≡ false = ne_eqb (marks % 2) 1 (λ x. omega arith) in
    let half : marks / 2 ≡ m = omega arith in
    rw (even, half) h

letters_odd : (k b m marks : ℕ) (xs : List ℕ) → marks ≡ 1 + 2 * m → letters_from k (b + 1) m ≡ xs
    → letters_from (suc k) b marks ≡ b ∷ xs
unfolding letters_from
letters_odd k b m marks xs e h =
    let odd : eqb (marks % 2) 1 ≡ true = eq-eqb (marks % 2) 1 (omega arith) in
    let half : marks / 2 ≡ m = omega arith in
    rw (odd, half) (ap (λ ys. b ∷ ys) h)

letters_weigh : (k b e : ℕ) (xs : List ℕ) → e ≡ b + k → Rising b e xs → letters_from k b (weigh b xs) ≡ xs
unfolding letters_from
letters_weigh zero b e [] is r = refl
letters_weigh zero b e (x ∷ xs) is r = absurd (omega (arith, r.0, r.1))
letters_weigh (suc k) b e [] is r = letters_even k b 0 0 [] refl (letters_weigh k (b + 1) e [] (omega arith) tt)
letters_weigh (suc k) b e (x ∷ xs) is r =
    ⊎_elim
    (λ (l : b < x).
    let next : Rising (b + 1) e (x ∷ xs) = (omega arith, r.1, r.2) in
    letters_even k b (weigh (b + 1) (x ∷ xs)) (weigh b (x ∷ xs)) (x ∷ xs) (weigh_next b e (x ∷ xs) next)
    (letters_weigh k (b + 1) e (x ∷ xs) (omega arith) next))
    (λ (l : x ≤ b).
    let same : x ≡ b = omega (arith, r.0) in
    let next : Rising (b + 1) e xs = subst (λ y. Rising (y + 1) e xs) same r.2 in
    let one : x - b ≡ 0 = omega arith in
    letters_odd k b (weigh (b + 1) xs) (weigh b (x ∷ xs)) xs
    (omega (arith, ap (λ n. 2 ^ n) one, weigh_next b e xs next)) (letters_weigh k (b + 1) e xs (omega arith) next)
    ∙ ap (λ y. y ∷ xs) (sym same))
    (cases_lt b x)

pub same_marks : (x y : ℕ) → Sixteen x → Sixteen y → letters x ≡ letters y → x ≡ y
same_marks x y h l e = sym (weigh_letters 16 97 x h) ∙ ap (weigh 97) e ∙ weigh_letters 16 97 y l

pub rising_read : (text : List ℕ) (marks : ℕ) → text ≡ letters marks → Rising 97 113 text
rising_read text marks e = subst (Rising 97 113) (sym e) (letters_rising 16 97 marks 113 refl)

-- The first i letters rise up to below next, and are worth marks; the rest decides of the whole.
pub record Sofar (text : List ℕ) (i next marks : ℕ) : Type 0 where
  pub low : 97 ≤ next
  pub high : next ≤ 113
  pub below : marks < 2 ^ (next - 97)
  pub adds : marks + weigh 97 (drop i text) ≡ weigh 97 text
  pub to : Rising 97 113 text → Rising next 113 (drop i text)
  pub from : Rising next 113 (drop i text) → Rising 97 113 text

pub no_letter_yet : (text : List ℕ) → Sofar text 0 97 0
no_letter_yet text =
    record {
      low = omega arith;
      high = omega arith;
      below = omega arith;
      adds = omega arith;
      to = λ r. r;
      from = λ r. r;
    }

pub one_more : (text : List ℕ) (i next marks : ℕ) → i < length text → Sofar text i next marks → next ≤ get_or text i 0
    → get_or text i 0 ≤ 112
    → Sofar text (i + 1) (get_or text i 0 + 1) (marks + (1 * 2 ^ (get_or text i 0 - 97)) % 65536)
one_more text i next marks l s lo hi =
    let x = get_or text i 0 in
    let e : drop i text ≡ x ∷ drop (i + 1) text = drop_more text i 0 l in
    let worth : (1 * 2 ^ (x - 97)) % 65536 ≡ 2 ^ (x - 97) = one_shl (x - 97) 16 (omega arith) in
    let k : suc (x - 97) ≡ x + 1 - 97 = omega (arith, s.low) in
    record {
      low = omega (arith, s.low);
      high = omega arith;
      below = omega (
        arith,
        s.below,
        pow_mono {i = next - 97} {j = x - 97} (omega arith),
        ap (λ n. 2 ^ n) k,
        pow-succ' 2 (x - 97),
      );
      adds = omega (arith, s.adds, ap (weigh 97) e);
      to = λ r. (subst (Rising next 113) e (s.to r)).2;
      from = λ r. s.from (subst (Rising next 113) (sym e) (lo, omega arith, r));
    }

pub marks_fit : (text : List ℕ) (i next marks : ℕ) → Sofar text i next marks → next ≤ get_or text i 0
    → get_or text i 0 ≤ 112 → marks + (1 * 2 ^ (get_or text i 0 - 97)) % 65536 < 65536
marks_fit text i next marks s lo hi =
    let x = get_or text i 0 in
    omega (
      arith,
      s.below,
      one_shl (x - 97) 16 (omega (arith, s.low)),
      pow_mono {i = next - 97} {j = x - 97} (omega arith),
      pow_mono {i = x - 97} {j = 15} (omega arith),
    )

pub no_more : (text : List ℕ) (i next marks : ℕ) → length text ≤ i → Sofar text i next marks
    → Sixteen marks × (text ≡ letters marks)
no_more text i next marks l s =
    let e : drop i text ≡ [] = drop_all i text l in
    let worth : marks ≡ weigh 97 text = omega (arith, s.adds, ap (weigh 97) e) in
    let r : Rising 97 113 text = s.from (subst (Rising next 113) (sym e) tt) in (
      omega (arith, s.below, pow_mono {i = next - 97} {j = 16} (omega (arith, s.high))),
      sym (ap letters worth ∙ letters_weigh 16 97 113 text refl r),
    )

pub no_rise : (text : List ℕ) (i next marks : ℕ) → i < length text → Sofar text i next marks
    → (next ≤ get_or text i 0 → get_or text i 0 ≤ 112 → ⊥) → Rising 97 113 text → ⊥
no_rise text i next marks l s bad r =
    let h = subst (Rising next 113) (drop_more text i 0 l) (s.to r) in
    bad h.0 (omega (arith, h.1))

rising_low : (b e : ℕ) (xs : List ℕ) → Rising b e xs → (i : ℕ) → i < length xs → b ≤ get_or xs i 0
rising_low b e [] r i l = absurd (omega arith)
rising_low b e (x ∷ xs) r zero l = r.0
rising_low b e (x ∷ xs) r (suc i) l = omega (arith, r.0, rising_low (x + 1) e xs r.2 i (omega arith))

pub letter_low : (marks i : ℕ) → i < length (letters marks) → 97 ≤ get_or (letters marks) i 0
letter_low marks i l = rising_low 97 113 (letters marks) (letters_rising 16 97 marks 113 refl) i l
