-- What a check leaves is what the console answers.
use Rattle.std.proofs.Common.{◌≡◌, ℕ, suc, ◌+◌, ◌-◌, ◌%◌, ◌^◌, ◌<◌, ◌≤◌, ◌==◌, Bool, true, false, cond, T}
use Rattle.std.proofs.Common.{List, [], ◌∷◌, ◌++◌, length}
use Rattle.std.proofs.Common.{get_or, take, is_ok, Ok, Err, Result, sym, refl, ap, ◌∙◌, subst, inl, inr, ⊎_elim, arith}
use Rattle.std.proofs.lemmas.List.{get_or-take, get_or_past, length-take}
use Rattle.std.proofs.lemmas.Bool.{cases_lt}
use Rattle.std.proofs.Math.Nat.{zero-div}
use Rattle.tctl.specs.Rules as tree
use Rattle.tctl.specs.Holds.{Holds}
use Rattle.program.specs.Meaning.{Prog, Limits, most_stages}
use Rattle.program.specs.Graphs.{graph}
use Rattle.rules.specs.Lines.{rule_at}
use Rattle.rules.specs.Postorder.{lines_of}
use Rattle.rules.proofs.Parts.{lines_stand_lem}
use Rattle.rules.proofs.Postorder.{put_longer}
use Rattle.sheet.specs.Sheets.{Names}
use Rattle.checker.specs.declared.faults.CheckFault.{CheckFault}
use Rattle.checker.specs.declared.faults.CheckFault.TheVariants.{Text, NoStage, DeadEnd, StillCycle, ShortMemory}
use Rattle.checker.specs.Outcomes.{Memory, Enough}
use Rattle.checker.specs.Checks.{Check}
use Rattle.page.specs.Answers.{holds_in, stages_from, stages_of, answer_of, rule_bytes, Lined}
use Rattle.page.specs.Console.{Rises, Among, Where, Answers, Adds}

rises_from : (b c : ℕ) (ns : List ℕ) → b ≤ c → Rises c ns → Rises b ns
rises_from b c [] l r = tt
rises_from b c (n ∷ ns) l r = (omega arith, r.1)

stages_rise : (k s : ℕ) (words : List ℕ) → Rises s (stages_from k s words)
stages_rise k s [] = tt
stages_rise k s (w ∷ words) = go (holds_in k w) (stages_rise k (s + 1) words)
  where
    go : (t : Bool) → Rises (s + 1) (stages_from k (s + 1) words)
        → Rises s (cond t (s ∷ stages_from k (s + 1) words) (stages_from k (s + 1) words))
    go true r = (omega arith, r)
    go false r = rises_from s (s + 1) (stages_from k (s + 1) words) (omega arith) r

-- A stage is among those of a sheet exactly where its word says so.
pub record In (k s : ℕ) (words : List ℕ) (t : ℕ) : Type 0 where
  pub low : s ≤ t
  pub high : t < s + length words
  pub holds : T (holds_in k (get_or words (t - s) 0))

in_later : (k s : ℕ) (w : ℕ) (words : List ℕ) (t : ℕ) → In k (s + 1) words t → In k s (w ∷ words) t
in_later k s w words t i =
    let e : t - s ≡ suc (t - (s + 1)) = omega (arith, i.low) in
    record {
      low = omega (arith, i.low);
      high = omega (arith, i.high);
      holds = subst (λ n. T (holds_in k (get_or (w ∷ words) n 0))) (sym e) i.holds;
    }

among_in : (k s : ℕ) (words : List ℕ) (t : ℕ) → Among t (stages_from k s words) → In k s words t
among_in k s [] t a = absurd a
among_in k s (w ∷ words) t a = go (holds_in k w) refl (among_in k (s + 1) words t) a
  where
    go : (h : Bool) → holds_in k w ≡ h → (Among t (stages_from k (s + 1) words) → In k (s + 1) words t)
        → Among t (cond h (s ∷ stages_from k (s + 1) words) (stages_from k (s + 1) words)) → In k s (w ∷ words) t
    go true e rec (inl here) =
        let z : t - s ≡ 0 = omega arith in
        record {
          low = omega arith;
          high = omega arith;
          holds = subst (λ n. T (holds_in k (get_or (w ∷ words) n 0))) (sym z) (subst T (sym e) tt);
        }
    go true e rec (inr later) = in_later k s w words t (rec later)
    go false e rec later = in_later k s w words t (rec later)

in_among : (k s : ℕ) (words : List ℕ) (t : ℕ) → In k s words t → Among t (stages_from k s words)
in_among k s [] t i = absurd (omega (arith, i.low, i.high))
in_among k s (w ∷ words) t i = go (holds_in k w) refl (in_among k (s + 1) words t)
  where
    later : s < t → In k (s + 1) words t
    later l =
        let e : t - s ≡ suc (t - (s + 1)) = omega arith in
        record {
          low = omega arith;
          high = omega (arith, i.high);
          holds = subst (λ n. T (holds_in k (get_or (w ∷ words) n 0))) e i.holds;
        }

    at : t ≡ s → T (holds_in k w)
    at e = let z : t - s ≡ 0 = omega arith in subst (λ n. T (holds_in k (get_or (w ∷ words) n 0))) z i.holds

    go : (h : Bool) → holds_in k w ≡ h → (In k (s + 1) words t → Among t (stages_from k (s + 1) words))
        → Among t (cond h (s ∷ stages_from k (s + 1) words) (stages_from k (s + 1) words))
    go true e rec =
        ⊎_elim (λ (x : s < t). inr (rec (later x))) (λ (x : t ≤ s). inl (omega (arith, i.low))) (cases_lt s t)
    go false e rec =
        ⊎_elim (λ (x : s < t). rec (later x)) (λ (x : t ≤ s). absurd (subst T e (at (omega (arith, i.low)))))
        (cases_lt s t)

-- Behind its end a list reads as 0, at which no line holds.
within : (k : ℕ) (words : List ℕ) (t : ℕ) → T (holds_in k (get_or words t 0)) → t < length words
within k words t h =
    ⊎_elim (λ (x : t < length words). x)
    (λ (x : length words ≤ t). absurd (subst T (ap (holds_in k) (get_or_past words t 0 x) ∙ none) h))
    (cases_lt t (length words))
  where
    none : holds_in k 0 ≡ false
    none = ap (λ n. n % 2 == 1) (zero-div (2 ^ k))

-- The stages that the sheet of a check names for the last line are those at which the rule holds.
where_named : (p : Prog) (f : tree.Rule) (was sheet : List ℕ) → Names p (lines_of f) was sheet
    → Where p f (stages_of (length (lines_of f) - 1) (take (length p.stages) sheet))
where_named p f was sheet names =
    let n = length p.stages in
    let k = length (lines_of f) - 1 in
    let words = take n sheet in
    record {
      rising = stages_rise k 0 words;
      within = λ s a. omega (arith, (among_in k 0 words s a).high, length-take n sheet);
      exact = λ s l.
          let named = names.exact k (omega (arith, put_longer f [])) s l in
          let word : get_or words (s - 0) 0 ≡ get_or sheet s 0 = ap (λ i. get_or words i 0) (omega arith)
          ∙ get_or-take n sheet s 0 l in
          let same : rule_at (lines_of f) k ≡ f = (lines_stand_lem f).whole in (
            λ a. subst (λ r. Holds (graph p) r s) same (named.0
                (subst (λ w. T (holds_in k w)) word (among_in k 0 words s a).holds)),
            λ h.
                let held = subst (λ w. T (holds_in k w)) (sym word)
                (named.1 (subst (λ r. Holds (graph p) r s) (sym same) h)) in
                in_among k 0 words s (record {
                  low = omega arith;
                  high = omega (arith, within k words (s - 0) held);
                  holds = held;
                }),
          );
    }

pub told : (p : Prog) (text : List ℕ) (was after : Memory) (r : Result ℕ CheckFault) → Check p text was after r
    → Enough (length p.stages) was → Answers p text (answer_of r (take (length p.stages) after.sheet))
told p text was after (Ok lines) h enough =
    let f = h.0 in
    let outcome = h.2 in
    record {
      rule = f;
      reads = h.1;
      checkable = outcome.0.0;
      lines_are = outcome.1;
      stages_are = subst (λ n. Where p f (stages_of (n - 1) (take (length p.stages) after.sheet)))
          (sym outcome.1) (where_named p f was.sheet after.sheet outcome.2.names);
    }
told p text was after (Err (Text e)) h enough = h.0
told p text was after (Err NoStage) h enough = ((h.0, h.1), h.2.0)
told p text was after (Err (DeadEnd s)) h enough = ((h.0, h.1), h.2.0)
told p text was after (Err (StillCycle s)) h enough = ((h.0, h.1), h.2.0.0, h.2.0.1, h.2.0.2)
told p text was after (Err ShortMemory) h enough = h.2.0.1 enough

pub lined : (p : Prog) (text : List ℕ) (was after : Memory) (r : Result ℕ CheckFault) → Check p text was after r
    → Lined r
lined p text was after (Ok lines) h = (omega (arith, put_longer h.0 [], h.2.1), omega (arith, h.1.few, h.2.1))
lined p text was after (Err fault) h = tt

answer_ok : (r : Result ℕ CheckFault) (words : List ℕ) → is_ok r ≡ is_ok (answer_of r words)
answer_ok (Ok lines) words = refl
answer_ok (Err fault) words = refl

pub adds : (p : Prog) (n : ℕ) (text before after words : List ℕ) (was left : Memory) (r : Result ℕ CheckFault)
    → Limits p → Check p text was left r → Enough most_stages was
    → words ≡ take (length p.stages) left.sheet → after ≡ before ++ rule_bytes n (answer_of r words)
    → Adds p n text before after (is_ok r)
adds p n text before after words was left r limits h room is e =
    let few = limits.few_stages in
    let enough : Enough (length p.stages) was =
    (omega (arith, room.0), omega (arith, room.1), omega (arith, room.2), omega (arith, room.3)) in
    record {
      answer = answer_of r words;
      answers = subst (λ ws. Answers p text (answer_of r ws)) (sym is) (told p text was left r h enough);
      bytes = e;
      checked_is = answer_ok r words;
    }
