-- What decimal digits say of the number that they write.
use Rattle.std.proofs.Common.{◌≡◌, ℕ, ◌+◌, ◌-◌, ◌*◌, ◌^◌, ◌<◌, ◌≤◌, List, [], ◌∷◌, ◌++◌, length, get_or, take, decimal}
use Rattle.std.proofs.Common.{sym, refl, ap, ◌∙◌, subst, ⊎_elim, arith, rules}
use Rattle.std.proofs.lemmas.Str.Parse.{IsNumeralModel, numerals_by_fold, tells_by_index, digits_value_short}
use Rattle.std.proofs.lemmas.Fmt.{decimal_nonempty, first_decimal, decimal_digit, digits_decimal, digits_value-decimal}
use Rattle.std.proofs.lemmas.Fmt.{decimal-digits_value, length-decimal-le}
use Rattle.std.proofs.lemmas.Bool.{cases_lt}
use Rattle.std.proofs.lemmas.List.{take_more, length-take-le, get_or_push, get_or_append_left, length_push, take_all}
use Rattle.layout.specs.Numbers.{Small, Shaped, worth_after, Writes}

abbrev pub Digits : List ℕ → Type 0
Digits ds = (i : ℕ) → i < length ds → (48 ≤ get_or ds i 0) × (get_or ds i 0 ≤ 57)

pub digit_numerals : IsNumeralModel Digits (worth_after 0)
digit_numerals = numerals_by_fold _ tells_by_index worth_after (search rules)

decimal_plain : (n : ℕ) → n < 2 ^ 64 → get_or (decimal n) 0 0 ≡ 48 → length (decimal n) ≡ 1
decimal_plain n h e =
    ⊎_elim (λ (l : n < 10). ap length (decimal_digit n l))
    (λ (l : 10 ≤ n). absurd (omega (arith, first_decimal n (omega arith) h)))
    (cases_lt n 10)

pub decimal_writes : (n : ℕ) → n < 2 ^ 64 → Writes (decimal n) n
decimal_writes n h =
    record {
      plain = (decimal_nonempty n h, decimal_plain n h);
      digits = digits_decimal digit_numerals n h;
      worth = digits_value-decimal digit_numerals n h;
    }

pub writes_decimal : (bytes : List ℕ) (n : ℕ) → n < 2 ^ 64 → Writes bytes n → bytes ≡ decimal n
writes_decimal bytes n h w =
    sym (decimal-digits_value digit_numerals bytes w.digits w.plain.0 w.plain.1 (omega (arith, w.worth)))
    ∙ ap decimal w.worth

-- The decimal of a small number has at most five digits.
pub small_writes : (bytes : List ℕ) (n : ℕ) → Small n → bytes ≡ decimal n → Writes bytes n × (length bytes ≤ 5)
small_writes bytes n s e =
    subst (λ b. Writes b n × (length b ≤ 5)) (sym e)
    (decimal_writes n (omega arith), length-decimal-le 5 n (omega arith) (omega arith) (omega arith))

worth_after-push : (n : ℕ) (bs : List ℕ) (b : ℕ) → worth_after n (bs ++ b ∷ []) ≡ worth_after n bs * 10 + (b - 48)
worth_after-push n [] b = refl
worth_after-push n (d ∷ bs) b = worth_after-push (n * 10 + (d - 48)) bs b

-- The first i bytes are digits, worth v.
abbrev pub Front : List ℕ → ℕ → ℕ → Type 0
Front text i v = Digits (take i text) × (v ≡ worth_after 0 (take i text))

digits_push : (bs : List ℕ) (b : ℕ) → Digits bs → 48 ≤ b → b ≤ 57 → Digits (bs ++ b ∷ [])
digits_push bs b ds low high i h =
    ⊎_elim
    (λ (l : i < length bs). subst (λ x. (48 ≤ x) × (x ≤ 57)) (sym (get_or_append_left bs (b ∷ []) 0 i l)) (ds i l))
    (λ (l : length bs ≤ i). subst (λ x. (48 ≤ x) × (x ≤ 57))
    (sym (get_or_push bs b 0 i (omega (arith, length_push bs b)))) (low, high))
    (cases_lt i (length bs))

pub front_more : (text : List ℕ) (i v d : ℕ) → i < length text → Front text i v → 48 ≤ get_or text i 0
    → get_or text i 0 ≤ 57 → d ≡ get_or text i 0 - 48 → Front text (i + 1) (10 * v + d)
front_more text i v d l f low high is =
    let e : take (i + 1) text ≡ take i text ++ get_or text i 0 ∷ [] = take_more text i 0 l in (
      subst Digits (sym e) (digits_push (take i text) (get_or text i 0) f.0 low high),
      omega (arith, ap (worth_after 0) e, worth_after-push 0 (take i text) (get_or text i 0), f.1),
    )

pub front_small : (text : List ℕ) (i v : ℕ) → length text ≤ 5 → i ≤ length text → Front text i v → v ≤ 99999
front_small text i v l h f =
    omega (arith, digits_value_short digit_numerals (take i text) 5 f.0 (omega (arith, length-take-le i text h)), f.1)

-- A text of one to five digits without a needless leading 0 is the decimal of what it is worth.
pub all_digits : (text : List ℕ) (v : ℕ) → Shaped text → Front text (length text) v → Small v × (text ≡ decimal v)
all_digits text v shaped f =
    let e : take (length text) text ≡ text = take_all (length text) text (omega arith) in
    let s : v ≤ 99999 = front_small text (length text) v shaped.1 (omega arith) f in (
      s,
      writes_decimal text v (omega arith)
          (record { plain = shaped.0; digits = subst Digits e f.0; worth = sym (f.1 ∙ ap (worth_after 0) e) }),
    )
