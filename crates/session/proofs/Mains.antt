-- The main theorem, of any list of calls.
use Rattle.std.proofs.Common.{◌≡◌, ℕ, zero, suc, ◌%◌, ◌^◌, ◌<◌, ◌≤◌, Bool, true, false, T, eqb, ltb, leb, ◌⊎◌, ◌↔◌}
use Rattle.std.proofs.Common.{List, [], ◌∷◌, length, get_or, take, Ok, Err, vec_items, Result, sym, refl, ◌∙◌, subst}
use Rattle.std.proofs.Common.{inl, inr, ⊎_elim, not-suc-le-zero, arith}
use native.Mathlib.Nat.{zero-div}
use Rattle.std.proofs.lemmas.List.{length-take, get_or-take, get_or_past}
use Rattle.std.proofs.lemmas.Bool.{cases_eq, cases_lt, cond_both}
use Rattle.tctl.specs.Rules.{Rule}
use Rattle.tctl.specs.Holds.{Holds}
use Rattle.tctl.proofs.Common.{open_fits}
use Rattle.program.specs.declared.EditFault.{EditFault}
use Rattle.program.specs.declared.EditFault.TheVariants.{NoStage, SilentStage, TooLong, StagesFull, MovesFull}
use Rattle.program.specs.declared.edit.Edit.{Edit}
use Rattle.program.specs.declared.edit.Edit.TheVariants as edit
use Rattle.program.specs.Meaning.{Prog, stage_at, most_minutes}
use Rattle.program.specs.Edits.{Caps, Out, open_step, mark_step, lay_step, is_open}
use Rattle.program.specs.Edits as edits
use Rattle.program.specs.Steps.{step}
use Rattle.program.specs.Graphs.{graph}
use Rattle.program.specs.Tidy.{Tidy}
use Rattle.program.proofs.Kept.{step_tidy}
use Rattle.rules.specs.declared.line.Line.{Line}
use Rattle.rules.specs.Lines.{rule_at}
use Rattle.rules.specs.Postorder.{lines_of}
use Rattle.reader.proofs.Readings.{one_reading_lem}
use Rattle.sheet.specs.Sheets.{bit, Names}
use Rattle.cutting.specs.Theorems.{Agree}
use Rattle.cutting.proofs.Alikes.{holds_open, agree_refl, agree_trans}
use Rattle.cutting.proofs.Halves.{graph_size}
use Rattle.cutting.proofs.Verdicts.{same_verdicts_lem}
use Rattle.session.specs.declared.calls.Call.{Call}
use Rattle.session.specs.declared.calls.Call.TheVariants as call
use Rattle.session.specs.declared.calls.Answer.{Answer}
use Rattle.session.specs.declared.calls.Answer.TheVariants.{Edited, Checked}
use Rattle.session.specs.Reckoned.{after, reckoned}
use Rattle.session.specs.Answers.{Answers, changes, accepted}
use Rattle.session.specs.Sessions.{call_at, answer_at, Quiet, Asks, Tells, Accepted, Named, AnsweredAll, Main}

-- An edit that is no accepted open, mark or lay changes no verdict.

abbrev made : Result ℕ EditFault → Bool
made (Ok n) = true
made (Err e) = false

made_accepted : (r : Result ℕ EditFault) → T (made r) → T (accepted (Edited r))
made_accepted (Ok n) m = tt
made_accepted (Err x) m = m

module _ (caps : Caps) (p : Prog) where
  abbrev Same : Out → Type 0
  Same o = (T (made o.answer) → ⊥) → Agree (graph p) (graph o.after)

  stays : (T false → ⊥) → Agree (graph p) (graph p)
  stays h = agree_refl (graph p)

  open_same : (m : ℕ) → Same (open_step caps p m)
  open_same m =
      cond_both (ltb (length p.stages) caps.stages) _ (edits.refused StagesFull p) Same (λ e h. absurd (h tt))
      (λ e. stays)

  mark_same : (s m : ℕ) → Same (mark_step p s m)
  mark_same s m =
      cond_both (ltb s (length p.stages)) _ (edits.refused NoStage p) Same
      (λ e.
      cond_both (is_open (stage_at p s).kind) _ (edits.refused SilentStage p) Same (λ o h. absurd (h tt)) (λ o. stays))
      (λ e. stays)

  lay_same : (s d t : ℕ) → Same (lay_step caps p s d t)
  lay_same s d t =
      cond_both (ltb s (length p.stages)) _ (edits.refused NoStage p) Same
      (λ ls.
      cond_both (ltb t (length p.stages)) _ (edits.refused NoStage p) Same
      (λ lt.
      cond_both (is_open (stage_at p s).kind) _ (edits.refused SilentStage p) Same
      (λ os.
      cond_both (is_open (stage_at p t).kind) _ (edits.refused SilentStage p) Same
      (λ ot.
      cond_both (leb d most_minutes) _ (edits.refused TooLong p) Same
      (λ ld.
      cond_both (ltb (length p.moves) caps.moves) _ (edits.refused MovesFull p) Same (λ h n. absurd (n tt))
      (λ h. stays))
      (λ ld. stays))
      (λ ot. stays))
      (λ os. stays))
      (λ lt. stays))
      (λ ls. stays)

  -- the answer, as it was given, was no accepted open, mark or lay
  still_agree : (c : Call) (a : Answer) → Tidy p → Answers caps p c a
      → (T (changes c) → T (accepted a) → ⊥) → Agree (graph p) (graph (after caps p c))
  still_agree (call.Check text) a t h quiet = agree_refl (graph p)
  still_agree (call.Edit e) (Checked r) t h quiet = absurd h
  still_agree (call.Edit e) (Edited r) t h quiet = go e h quiet
    where
      unmade : (o : Result ℕ EditFault) → r ≡ o → (T (accepted (Edited r)) → ⊥) → T (made o) → ⊥
      unmade o h refused m = refused (made_accepted r (subst (λ x. T (made x)) (sym h) m))

      go : (e : Edit) → r ≡ (step caps p e).answer
          → (T (changes (call.Edit e)) → T (accepted (Edited r)) → ⊥)
          → Agree (graph p) (graph (step caps p e).after)
      go (edit.Open m) h quiet = open_same m (unmade (open_step caps p m).answer h (quiet tt))
      go (edit.Mark s m) h quiet = mark_same s m (unmade (mark_step p s m).answer h (quiet tt))
      go (edit.Lay s d u) h quiet = lay_same s d u (unmade (lay_step caps p s d u).answer h (quiet tt))
      go (edit.Cut k a) h quiet = same_verdicts_lem.after_cut caps p k a t
      go edit.Join h quiet = same_verdicts_lem.after_join p t

-- Lists of calls

after_tidy : (caps : Caps) (p : Prog) (c : Call) → Tidy p → Tidy (after caps p c)
after_tidy caps p (call.Edit e) t = step_tidy p caps e t
after_tidy caps p (call.Check text) t = t

module _ (caps : Caps) where
  reckoned_more : (p : Prog) (cs : List Call) (n : ℕ) → n < length cs
      → reckoned caps p cs (suc n) ≡ after caps (reckoned caps p cs n) (call_at cs n)
  reckoned_more p [] n l = absurd (not-suc-le-zero l)
  reckoned_more p (c ∷ cs) zero l = refl
  reckoned_more p (c ∷ cs) (suc n) l = reckoned_more (after caps p c) cs n (omega arith)

  reckoned_past : (p : Prog) (cs : List Call) (n : ℕ) → length cs ≤ n
      → reckoned caps p cs (suc n) ≡ reckoned caps p cs n
  reckoned_past p [] zero l = refl
  reckoned_past p [] (suc n) l = refl
  reckoned_past p (c ∷ cs) zero l = absurd (omega arith)
  reckoned_past p (c ∷ cs) (suc n) l = reckoned_past (after caps p c) cs n (omega arith)

  reckoned_tidy : (p : Prog) (cs : List Call) → Tidy p → (n : ℕ) → Tidy (reckoned caps p cs n)
  reckoned_tidy p cs t zero = t
  reckoned_tidy p [] t (suc n) = t
  reckoned_tidy p (c ∷ cs) t (suc n) = reckoned_tidy (after caps p c) cs (after_tidy caps p c t) n

-- What an accepted check told holds of the program, at every stage and past them.

no_bit : (k : ℕ) → T (bit k 0) → ⊥
no_bit k t = subst (λ x. T (eqb (x % 2) 1)) (zero-div (2 ^ k)) t

module _ (p : Prog) (lines : List Line) (was sheet : List ℕ) (names : Names p lines was sheet) where
  abbrev words : List ℕ
  words = take (length p.stages) sheet

  names_all : (k s : ℕ) → k < length lines → Named words k s ↔ Holds (graph p) (rule_at lines k) s
  names_all k s lk = go (cases_lt s (length p.stages))
    where
      go : (s < length p.stages) ⊎ (length p.stages ≤ s) → Named words k s ↔ Holds (graph p) (rule_at lines k) s
      go (inl l) =
          subst (λ w. T (bit k w) ↔ Holds (graph p) (rule_at lines k) s)
          (sym (get_or-take (length p.stages) sheet s 0 l)) (names.exact k lk s l)
      go (inr l) =
          let n = length-take (length p.stages) sheet in
          let z : get_or words s 0 ≡ 0 = get_or_past words s 0 (omega arith) in (
            (λ t. absurd (no_bit k (subst (λ w. T (bit k w)) z t))),
            (λ h.
                let u = open_fits (graph p) s (holds_open (graph p) (rule_at lines k) s h) in
                let e = graph_size p in
                absurd (omega arith)),
          )

abbrev Right : Prog → Rule → List ℕ → Type 0
Right p rule shown =
    (k s : ℕ) → k < length (lines_of rule) → Named shown k s ↔ Holds (graph p) (rule_at (lines_of rule) k) s

told_right : (caps : Caps) (p : Prog) (c : Call) (a : Answer) (rule : Rule) (shown : List ℕ) → Answers caps p c a
    → Asks c rule → Tells a shown → Right p rule shown
told_right caps p (call.Edit e) a rule shown h asked told = absurd asked
told_right caps p (call.Check text) (Edited r) rule shown h asked told = absurd told
told_right caps p (call.Check text) (Checked (Ok v)) rule shown h asked told =
    let was = h.0 in
    let left = h.1 in
    let checks = h.3.0 in
    let same : checks.0 ≡ rule = one_reading_lem (vec_items text) checks.0 rule checks.1.reading asked in
    subst (λ ws. Right p rule ws) (sym h.3.1 ∙ told)
    (subst (λ r. Right p r (take (length p.stages) left.sheet)) same
    (names_all p (lines_of checks.0) was.sheet left.sheet checks.2.2.names))
told_right caps p (call.Check text) (Checked (Err e)) rule shown h asked told = absurd told

module _ (caps : Caps) (start : Prog) (tidy : Tidy start) (calls : List Call) (given : List Answer) (left : Prog)
    (A : AnsweredAll caps start calls given left) where
  abbrev at_call : ℕ → Prog
  at_call i = reckoned caps start calls i

  all_tidy : (i : ℕ) → Tidy (at_call i)
  all_tidy i = reckoned_tidy caps start calls tidy i

  next_agrees : (n : ℕ) → (T (changes (call_at calls n)) → T (accepted (answer_at given n)) → ⊥)
      → Agree (graph (at_call n)) (graph (at_call (suc n)))
  next_agrees n quiet =
      ⊎_elim
      (λ l.
      subst (λ (x : Prog). Agree (graph (at_call n)) (graph x)) (sym (reckoned_more caps start calls n l))
      (still_agree caps (at_call n) (call_at calls n) (answer_at given n) (all_tidy n) (A.answers n l) quiet))
      (λ l.
      subst (λ (x : Prog). Agree (graph (at_call n)) (graph x)) (sym (reckoned_past caps start calls n l))
      (agree_refl (graph (at_call n))))
      (cases_lt n (length calls))

  quiet_agrees : (i j : ℕ) → i ≤ j → Quiet calls given i j → Agree (graph (at_call i)) (graph (at_call j))
  quiet_agrees i zero l quiet =
      subst (λ x. Agree (graph (at_call x)) (graph (at_call 0))) (let z : 0 ≡ i = omega arith in z)
      (agree_refl (graph (at_call 0)))
  quiet_agrees i (suc j) l quiet =
      ⊎_elim (λ e. subst (λ x. Agree (graph (at_call i)) (graph (at_call x))) e (agree_refl (graph (at_call i))))
      (λ e.
      let l' : i ≤ j = omega arith in
      agree_trans (graph (at_call i)) (graph (at_call j)) (graph (at_call (suc j)))
      (quiet_agrees i j l' (λ n a b. quiet n a (omega arith))) (next_agrees j (quiet j l' (omega arith))))
      (cases_eq i (suc j))

  named_right : (i : ℕ) (rule : Rule) (shown : List ℕ) → Accepted calls given i rule shown
      → Right (at_call i) rule shown
  named_right i rule shown c =
      told_right caps (at_call i) (call_at calls i) (answer_at given i) rule shown (A.answers i c.within) c.asked
      c.told

  pub main_theorem : Main caps start calls given left
  main_theorem =
      record {
        answered = A;
        minutely = λ i rule words c k s l.
            let a = named_right i rule words c k s l in
            let b = (same_verdicts_lem.by_the_minute (at_call i) (all_tidy i)).alike (rule_at (lines_of rule) k) s in
            ((λ t. b.0 (a.0 t)), (λ t. a.1 (b.1 t)));
        steady = λ i j rule words words' l quiet c d k s lk.
            let a = named_right i rule words c k s lk in
            let b = (quiet_agrees i j l quiet).alike (rule_at (lines_of rule) k) s in
            let a' = named_right j rule words' d k s lk in
            ((λ t. a'.1 (b.0 (a.0 t))), (λ t. a.1 (b.1 (a'.0 t))));
        minute_agrees = λ i. same_verdicts_lem.by_the_minute (at_call i) (all_tidy i);
        quiet_agrees = quiet_agrees;
        tidy = all_tidy;
      }
