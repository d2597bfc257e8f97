-- Rules are answered one after another.
use Rattle.std.proofs.Common.{◌≡◌, ℕ, ◌+◌, ◌≤◌, Bool, true, false, cond, List, [], ◌∷◌, ◌++◌, length}
use Rattle.std.proofs.Common.{is_ok, Ok, Err, sym}
use Rattle.std.proofs.Common.{refl, ap, ◌∙◌, subst, arith}
use Rattle.std.proofs.lemmas.List.{append_assoc, append-nil, length-append, length_push}
use Rattle.program.specs.Meaning.{Prog}
use Rattle.program.specs.Edits.{Caps}
use Rattle.layout.specs.declared.loading.Part.{Part}
use Rattle.layout.specs.declared.loading.Part.TheVariants.{Stages, Moves, Rules}
use Rattle.layout.specs.Splits.{Lacks}
use Rattle.layout.specs.Lines.{Line, stage, move, rule, write}
use Rattle.layout.specs.Pages.{rules_of, texts_of, Follows, InForm, NoLine, Whole}
use Rattle.page.specs.Answers.{Answer, rule_bytes}
use Rattle.page.specs.Console.{Answers, AllAnswered, bytes_from, checked_among, Texts, Adds, AddsAll}
use Rattle.page.specs.Whole.{PageAnswered}
use Rattle.layout.proofs.Cuts.{one_cut}
use Rattle.layout.proofs.Readings.{line_lacks_end}

rules_push : (texts : List (List ℕ)) (text rest : List ℕ)
    → rules_of (texts ++ text ∷ []) ++ rest ≡ rules_of texts ++ (write (rule text) ++ 10 ∷ rest)
rules_push [] text rest = append_assoc (write (rule text)) (10 ∷ []) rest
rules_push (t ∷ texts) text rest =
    append_assoc (write (rule t)) (10 ∷ rules_of (texts ++ text ∷ [])) rest
    ∙ ap (λ bs. write (rule t) ++ 10 ∷ bs) (rules_push texts text rest)
    ∙ sym (append_assoc (write (rule t)) (10 ∷ rules_of texts) (write (rule text) ++ 10 ∷ rest))

rules_long : (texts : List (List ℕ)) → length texts ≤ length (rules_of texts)
rules_long [] = omega arith
rules_long (t ∷ texts) = omega (arith, length-append (write (rule t)) (10 ∷ rules_of texts), rules_long texts)

texts_push : (texts : List (List ℕ)) (text : List ℕ) → Texts texts → Lacks 10 text → Texts (texts ++ text ∷ [])
texts_push [] text w l = (l, tt)
texts_push (t ∷ texts) text w l = (w.0, texts_push texts text w.1 l)

answered_push : (p : Prog) (texts : List (List ℕ)) (answers : List Answer) (text : List ℕ) (a : Answer)
    → AllAnswered p texts answers → Answers p text a → AllAnswered p (texts ++ text ∷ []) (answers ++ a ∷ [])
answered_push p [] [] text a h x = (x, tt)
answered_push p [] (b ∷ answers) text a h x = absurd h
answered_push p (t ∷ texts) [] text a h x = absurd h
answered_push p (t ∷ texts) (b ∷ answers) text a h x = (h.0, answered_push p texts answers text a h.1 x)

as_many : (p : Prog) (texts : List (List ℕ)) (answers : List Answer) → AllAnswered p texts answers
    → length answers ≡ length texts
as_many p [] [] h = refl
as_many p [] (a ∷ answers) h = absurd h
as_many p (t ∷ texts) [] h = absurd h
as_many p (t ∷ texts) (a ∷ answers) h = omega (arith, as_many p texts answers h.1)

bytes_push : (n : ℕ) (answers : List Answer) (a : Answer)
    → bytes_from n (answers ++ a ∷ []) ≡ bytes_from n answers ++ rule_bytes (n + length answers) a
bytes_push n [] a = append-nil (rule_bytes n a) ∙ ap (λ k. rule_bytes k a) (omega arith)
bytes_push n (b ∷ answers) a =
    ap (λ bs. rule_bytes n b ++ bs) (bytes_push (n + 1) answers a
    ∙ ap (λ k. bytes_from (n + 1) answers ++ rule_bytes k a) (omega arith))
    ∙ sym (append_assoc (rule_bytes n b) (bytes_from (n + 1) answers) (rule_bytes (n + length (b ∷ answers)) a))

counted_push : (answers : List Answer) (a : Answer)
    → checked_among (answers ++ a ∷ []) ≡ cond (is_ok a) (checked_among answers + 1) (checked_among answers)
counted_push [] (Ok a) = refl
counted_push [] (Err fault) = refl
counted_push (Ok b ∷ answers) (Ok a) = ap (λ n. 1 + n) (counted_push answers (Ok a)) ∙ omega arith
counted_push (Ok b ∷ answers) (Err fault) = ap (λ n. 1 + n) (counted_push answers (Err fault))
counted_push (Err fault ∷ answers) a = counted_push answers a

-- The rules before `rest` are answered.
pub record Sofar (p : Prog) (rules before rest out : List ℕ) (checked refused : ℕ) : Type 0 where
  pub texts : List (List ℕ)
  pub answers : List Answer
  pub rules_are : rules ≡ rules_of texts ++ rest
  pub whole : Texts texts
  pub answered : AllAnswered p texts answers
  pub bytes : out ≡ before ++ bytes_from 0 answers
  pub checked_is : checked ≡ checked_among answers
  pub refused_is : checked + refused ≡ length answers

pub none_answered : (p : Prog) (rules before : List ℕ) {checked refused : ℕ} → checked ≡ 0 → refused ≡ 0
    → Sofar p rules before rules before checked refused
none_answered p rules before h k =
    record {
      texts = [];
      answers = [];
      rules_are = refl;
      whole = tt;
      answered = tt;
      bytes = sym (append-nil before);
      checked_is = h;
      refused_is = omega (arith, h, k);
    }

module _ {p : Prog} {rules before rest out : List ℕ} {checked refused : ℕ}
    (s : Sofar p rules before rest out checked refused) where
  pub few_rules : checked + refused + length rest ≤ length rules
  few_rules =
      omega (
        arith,
        s.refused_is,
        as_many p s.texts s.answers s.answered,
        rules_long s.texts,
        ap length s.rules_are,
        length-append (rules_of s.texts) rest,
      )

  -- One more rule is answered, by its number, and counted.
  pub one_answered : (text rest' out' : List ℕ) (n : ℕ) (t : Bool) (checked' refused' : ℕ) → Lacks 10 text
      → rest ≡ write (rule text) ++ 10 ∷ rest' → n ≡ checked + refused → Adds p n text out out' t
      → checked' ≡ cond t (checked + 1) checked → refused' ≡ cond t refused (refused + 1)
      → Sofar p rules before rest' out' checked' refused'
  one_answered text rest' out' n t checked' refused' l e at a h k =
      let both : checked' + refused' ≡ checked + refused + 1 = one_counted t h k in
      record {
        texts = s.texts ++ text ∷ [];
        answers = s.answers ++ a.answer ∷ [];
        rules_are = s.rules_are ∙ ap (λ bs. rules_of s.texts ++ bs) e ∙ sym (rules_push s.texts text rest');
        whole = texts_push s.texts text s.whole l;
        answered = answered_push p s.texts s.answers text a.answer s.answered a.answers;
        bytes = a.bytes ∙ ap (λ bs. bs ++ rule_bytes n a.answer) s.bytes
            ∙ append_assoc before (bytes_from 0 s.answers) (rule_bytes n a.answer)
            ∙ ap (λ i. before ++ (bytes_from 0 s.answers ++ rule_bytes i a.answer)) (omega (arith, at, s.refused_is))
            ∙ ap (λ bs. before ++ bs) (sym (bytes_push 0 s.answers a.answer));
        checked_is = h ∙ ap (λ i. cond t (i + 1) i) s.checked_is
            ∙ ap (λ b. cond b (checked_among s.answers + 1) (checked_among s.answers)) a.checked_is
            ∙ sym (counted_push s.answers a.answer);
        refused_is = omega (arith, both, s.refused_is, length_push s.answers a.answer);
      }
    where
      one_counted : (t : Bool) → checked' ≡ cond t (checked + 1) checked → refused' ≡ cond t refused (refused + 1)
          → checked' + refused' ≡ checked + refused + 1
      one_counted true h k = omega (arith, h, k)
      one_counted false h k = omega (arith, h, k)

  pub all_answered : NoLine Rules rest → AddsAll p rules before out checked refused
  all_answered none =
      record {
        texts = s.texts;
        rest = rest;
        answers = s.answers;
        rules_are = s.rules_are;
        whole = s.whole;
        ends = none;
        answered = s.answered;
        bytes = s.bytes;
        checked_is = s.checked_is;
        refused_is = s.refused_is;
      }

follows_rules : (text : List ℕ) → Lacks 10 text → Follows Rules (rule text)
follows_rules text l = record { fits = l; later = omega arith }

-- Bytes are those of rules in one way.
pub same_rules : (ts us : List (List ℕ)) (rest : List ℕ) → Texts ts → Texts us → rules_of ts ≡ rules_of us ++ rest
    → NoLine Rules rest → ts ≡ us
same_rules [] [] rest f g e none = refl
same_rules (t ∷ ts) [] rest f g e none = absurd (none (rule t) (rules_of ts) (follows_rules t f.0) (sym e))
same_rules [] (u ∷ us) rest f g e none = absurd (let z : ◌≡◌ {A = ℕ} 0 1 = cc in omega arith)
same_rules (t ∷ ts) (u ∷ us) rest f g e none =
    let h = one_cut 10 (write (rule t)) (write (rule u)) (rules_of ts) (rules_of us ++ rest)
    (line_lacks_end (rule t) f.0) (line_lacks_end (rule u) g.0)
    (e ∙ append_assoc (write (rule u)) (10 ∷ rules_of us) rest) in
    let first : t ≡ u = cc in
    let more : ts ≡ us = same_rules ts us rest f.1 g.1 h.1 none in
    cc

form_texts : (part : Part) (ls : List Line) → InForm part ls → Texts (texts_of ls)
form_texts part [] i = tt
form_texts part (stage marks ∷ ls) i = form_texts Stages ls i.1
form_texts part (move s d t ∷ ls) i = form_texts Moves ls i.1
form_texts part (rule text ∷ ls) i = (i.0.fits, form_texts Rules ls i.1)

pub page_answered : {caps : Caps} {start p : Prog} {page rules before after : List ℕ} {checked declined : ℕ}
    (stages moves : ℕ)
    → Whole caps start page rules p → AddsAll p rules before after checked declined
    → stages ≡ length p.stages → moves ≡ length p.moves
    → (bytes : List ℕ) × (after ≡ before ++ bytes) × PageAnswered caps start page bytes stages moves checked declined
page_answered {p = p} stages moves w a s m =
    let same : texts_of w.lines ≡ a.texts =
    same_rules (texts_of w.lines) a.texts a.rest (form_texts Stages w.lines w.took.form) a.whole
    (sym w.rules_are ∙ a.rules_are) a.ends in (
      bytes_from 0 a.answers,
      a.bytes,
      record {
        lines = w.lines;
        made = p;
        answers = a.answers;
        short = w.short;
        took = w.took;
        answered = subst (λ ts. AllAnswered p ts a.answers) (sym same) a.answered;
        bytes_are = refl;
        stages_are = s;
        moves_are = m;
        checked_is = a.checked_is;
        declined_is = a.refused_is;
      },
    )
