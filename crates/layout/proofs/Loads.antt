-- A page is loaded one line after another.
use Rattle.std.proofs.Common.{◌≡◌, ℕ, ◌+◌, ◌<◌, ◌≤◌, Bool, true, false, cond, not, ltb, leb, List, [], ◌∷◌, ◌++◌}
use Rattle.std.proofs.Common.{length, Ok, Err, Result, sym, refl, ap, ◌∙◌, subst, arith}
use denote.Enum.Bare.{sameb, differs_true, differs_false}
use Rattle.layout.specs.contracts.loading.Part.{the_type}
use Rattle.std.specs.Result.{MatchResult, IsErrAnd}
use Rattle.std.proofs.lemmas.Result.{err_from_is_err_and}
use Rattle.std.proofs.lemmas.List.{append_assoc, append-nil, length-append, length_push, nil_from_length}
use Rattle.program.specs.declared.EditFault.{EditFault}
use Rattle.program.specs.declared.EditFault.TheVariants.{NoStage, SilentStage, TooLong, StagesFull, MovesFull}
use Rattle.program.specs.Meaning.{Prog, stage_at, most_minutes}
use Rattle.program.specs.Edits.{Caps, Out, accepted, refused, is_open, with_stage, with_move, lay_step}
use Rattle.layout.specs.declared.loading.Part.{Part}
use Rattle.layout.specs.declared.loading.Part.TheVariants.{Stages, Moves, Rules}
use Rattle.layout.specs.Lines.{Line, stage, move, rule, write}
use Rattle.layout.specs.Pages.{rank, part_of, bytes_of, Follows, InForm, last_part, NoLine, edit_step, verdict, Edited}
use Rattle.layout.specs.Pages.{after, Accepted, texts_of, rules_of, Took, Whole, BreaksForm, BreaksEdit, most_bytes}

bytes_push : (ls : List Line) (l : Line) (rest : List ℕ)
    → bytes_of (ls ++ l ∷ []) ++ rest ≡ bytes_of ls ++ (write l ++ 10 ∷ rest)
bytes_push [] l rest = append_assoc (write l) (10 ∷ []) rest
bytes_push (k ∷ ls) l rest =
    append_assoc (write k) (10 ∷ bytes_of (ls ++ l ∷ [])) rest ∙ ap (λ bs. write k ++ 10 ∷ bs) (bytes_push ls l rest)
    ∙ sym (append_assoc (write k) (10 ∷ bytes_of ls) (write l ++ 10 ∷ rest))

bytes_long : (ls : List Line) → length ls ≤ length (bytes_of ls)
bytes_long [] = omega arith
bytes_long (l ∷ ls) = omega (arith, length-append (write l) (10 ∷ bytes_of ls), bytes_long ls)

form_push : (part : Part) (ls : List Line) (l : Line) → InForm part ls → Follows (last_part part ls) l
    → InForm part (ls ++ l ∷ [])
form_push part [] l i f = (f, tt)
form_push part (k ∷ ls) l i f = (i.0, form_push (part_of k) ls l i.1 f)

last_push : (part : Part) (ls : List Line) (l : Line) → last_part part (ls ++ l ∷ []) ≡ part_of l
last_push part [] l = refl
last_push part (k ∷ ls) l = last_push (part_of k) ls l

after_push : (caps : Caps) (p : Prog) (ls : List Line) (l : Line)
    → after caps p (ls ++ l ∷ []) ≡ (edit_step caps (after caps p ls) l).after
after_push caps p [] l = refl
after_push caps p (k ∷ ls) l = after_push caps (edit_step caps p k).after ls l

accepted_push : (caps : Caps) (p : Prog) (ls : List Line) (l : Line) → Accepted caps p ls
    → verdict (edit_step caps (after caps p ls) l).answer ≡ Ok tt → Accepted caps p (ls ++ l ∷ [])
accepted_push caps p [] l a v = (v, tt)
accepted_push caps p (k ∷ ls) l a v = (a.0, accepted_push caps (edit_step caps p k).after ls l a.1 v)

rank_rises : (part : Part) (ls : List Line) → InForm part ls → rank part ≤ rank (last_part part ls)
rank_rises part [] i = omega arith
rank_rises part (l ∷ ls) i = omega (arith, i.0.later, rank_rises (part_of l) ls i.1)

-- Before the last stage or move there is no rule.
no_rule_yet : (part : Part) (ls : List Line) → InForm part ls → rank (last_part part ls) < 2 → texts_of ls ≡ []
no_rule_yet part [] i h = refl
no_rule_yet part (stage marks ∷ ls) i h = no_rule_yet Stages ls i.1 h
no_rule_yet part (move s d t ∷ ls) i h = no_rule_yet Moves ls i.1 h
no_rule_yet part (rule text ∷ ls) i h = absurd (omega (arith, rank_rises Rules ls i.1))

rules_push : (ls : List Line) (l : Line) (rest : List ℕ) → part_of l ≡ Rules
    → rules_of (texts_of (ls ++ l ∷ [])) ++ rest ≡ rules_of (texts_of ls) ++ (write l ++ 10 ∷ rest)
rules_push [] (stage marks) rest e = absurd (let z : ◌≡◌ {A = ℕ} 0 1 = cc in omega arith)
rules_push [] (move s d t) rest e = absurd (let z : ◌≡◌ {A = ℕ} 0 1 = cc in omega arith)
rules_push [] (rule text) rest e = append_assoc (write (rule text)) (10 ∷ []) rest
rules_push (stage marks ∷ ls) l rest e = rules_push ls l rest e
rules_push (move s d t ∷ ls) l rest e = rules_push ls l rest e
rules_push (rule text ∷ ls) l rest e =
    append_assoc (write (rule text)) (10 ∷ rules_of (texts_of (ls ++ l ∷ []))) rest
    ∙ ap (λ bs. write (rule text) ++ 10 ∷ bs) (rules_push ls l rest e)
    ∙ sym (append_assoc (write (rule text)) (10 ∷ rules_of (texts_of ls)) (write l ++ 10 ∷ rest))

low_rank : (part : Part) → (part ≡ Rules → ⊥) → rank part < 2
low_rank Stages n = omega arith
low_rank Moves n = omega arith
low_rank Rules n = absurd (n refl)

refused_verdict : (r : Result ℕ EditFault) (fault : EditFault) → verdict r ≡ Err fault → r ≡ Err fault
refused_verdict (Ok n) fault e = absurd (let z : ◌≡◌ {A = ℕ} 0 1 = cc in omega arith)
refused_verdict (Err x) fault e = ap Err (cc)

-- An edit that is refused changes nothing.
abbrev Keeps : Prog → EditFault → Out → Type 0
Keeps p fault o = o.answer ≡ Err fault → o.after ≡ p

keeps_cond : (p : Prog) (fault : EditFault) (b : Bool) (x y : Out) → Keeps p fault x → Keeps p fault y
    → Keeps p fault (cond b x y)
keeps_cond p fault true x y h k = h
keeps_cond p fault false x y h k = k

keeps_accepted : (p q : Prog) (fault : EditFault) (n : ℕ) → Keeps p fault (accepted n q)
keeps_accepted p q fault n e = absurd (let z : ◌≡◌ {A = ℕ} 0 1 = cc in omega arith)

keeps_refused : (p : Prog) (fault e : EditFault) → Keeps p fault (refused e p)
keeps_refused p fault e h = refl

refused_lay : (caps : Caps) (p : Prog) (s d t : ℕ) (fault : EditFault) → Keeps p fault (lay_step caps p s d t)
refused_lay caps p s d t fault =
    let if = keeps_cond p fault in
    let no = keeps_refused p fault in
    let room = cond (ltb (length p.moves) caps.moves) (accepted (length p.moves) (with_move p s d t))
    (refused MovesFull p) in
    let short = cond (leb d most_minutes) room (refused TooLong p) in
    let enters = cond (is_open (stage_at p t).kind) short (refused SilentStage p) in
    let leaves = cond (is_open (stage_at p s).kind) enters (refused SilentStage p) in
    let target = cond (ltb t (length p.stages)) leaves (refused NoStage p) in
    if (ltb s (length p.stages)) target (refused NoStage p)
    (if (ltb t (length p.stages)) leaves (refused NoStage p)
    (if (is_open (stage_at p s).kind) enters (refused SilentStage p)
    (if (is_open (stage_at p t).kind) short (refused SilentStage p)
    (if (leb d most_minutes) room (refused TooLong p)
    (if (ltb (length p.moves) caps.moves) (accepted (length p.moves) (with_move p s d t)) (refused MovesFull p)
    (keeps_accepted p (with_move p s d t) fault (length p.moves)) (no MovesFull))
    (no TooLong))
    (no SilentStage))
    (no SilentStage))
    (no NoStage))
    (no NoStage)

refused_keeps : (caps : Caps) (p : Prog) (l : Line) (fault : EditFault) → Keeps p fault (edit_step caps p l)
refused_keeps caps p (stage marks) fault =
    keeps_cond p fault (ltb (length p.stages) caps.stages) (accepted (length p.stages) (with_stage p marks))
    (refused StagesFull p)
    (keeps_accepted p (with_stage p marks) fault (length p.stages)) (keeps_refused p fault StagesFull)
refused_keeps caps p (move s d t) fault = refused_lay caps p s d t fault
refused_keeps caps p (rule text) fault = keeps_accepted p p fault 0

-- The reader stands before `rest`, behind `number` lines of which the last is of the part.
pub record Stands (caps : Caps) (p : Prog) (page : List ℕ) (part : Part) (number : ℕ) (rest rules : List ℕ)
    (q : Prog) : Type 0 where
  pub lines : List Line
  pub took : Took caps p page lines rest q
  pub part_is : part ≡ last_part Stages lines
  pub number_is : number ≡ length lines
  pub rules_are : rules ≡ rules_of (texts_of lines) ++ rest

pub at_start : (caps : Caps) (p : Prog) (page : List ℕ) → Stands caps p page Stages 0 page page p
at_start caps p page =
    record {
      lines = [];
      took = record { splits = refl; form = tt; accepted = tt; leaves = refl };
      part_is = refl;
      number_is = refl;
      rules_are = refl;
    }

pub few_lines : {caps : Caps} {p : Prog} {page : List ℕ} {part : Part} {number : ℕ} {rest rules : List ℕ} {q : Prog}
    → Stands caps p page part number rest rules q → number + length rest ≤ length page
few_lines {rest} s =
    omega (
      arith,
      s.number_is,
      bytes_long s.lines,
      ap length s.took.splits,
      length-append (bytes_of s.lines) rest,
    )

module _ {caps : Caps} {p : Prog} {page : List ℕ} {part : Part} {number : ℕ} {rest rules : List ℕ} {q : Prog}
    (s : Stands caps p page part number rest rules q) where
  lines_more : (l : Line) (rest' : List ℕ) (q' : Prog) → Follows part l → rest ≡ write l ++ 10 ∷ rest'
      → Edited (edit_step caps q l) (Ok tt) q' → Took caps p page (s.lines ++ l ∷ []) rest' q'
  lines_more l rest' q' f e d =
      let at : q ≡ after caps p s.lines = s.took.leaves in
      record {
        splits = s.took.splits ∙ ap (λ bs. bytes_of s.lines ++ bs) e ∙ sym (bytes_push s.lines l rest');
        form = form_push Stages s.lines l s.took.form (subst (λ x. Follows x l) s.part_is f);
        accepted = accepted_push caps p s.lines l s.took.accepted
            (ap (λ x. verdict (edit_step caps x l).answer) (sym at) ∙ sym d.answers);
        leaves = d.leaves ∙ ap (λ x. (edit_step caps x l).after) at ∙ sym (after_push caps p s.lines l);
      }

  pub rule_more : (l : Line) (rest' : List ℕ) (part' : Part) (q' : Prog) → Follows part l → rest ≡ write l ++ 10 ∷ rest'
      → Edited (edit_step caps q l) (Ok tt) q' → part' ≡ part_of l → part' ≡ Rules
      → Stands caps p page part' (number + 1) rest' rules q'
  rule_more l rest' part' q' f e d is rule-line =
      record {
        lines = s.lines ++ l ∷ [];
        took = lines_more l rest' q' f e d;
        part_is = is ∙ sym (last_push Stages s.lines l);
        number_is = ap (λ n. n + 1) s.number_is ∙ sym (length_push s.lines l);
        rules_are = s.rules_are ∙ ap (λ bs. rules_of (texts_of s.lines) ++ bs) e
            ∙ sym (rules_push s.lines l rest' (sym is ∙ rule-line));
      }

  pub other_more : (l : Line) (rest' : List ℕ) (part' : Part) (q' : Prog) → Follows part l
      → rest ≡ write l ++ 10 ∷ rest'
      → Edited (edit_step caps q l) (Ok tt) q' → part' ≡ part_of l → (part' ≡ Rules → ⊥)
      → Stands caps p page part' (number + 1) rest' rest' q'
  other_more l rest' part' q' f e d is other =
      let took = lines_more l rest' q' f e d in
      let last : part' ≡ last_part Stages (s.lines ++ l ∷ []) = is ∙ sym (last_push Stages s.lines l) in
      record {
        lines = s.lines ++ l ∷ [];
        took = took;
        part_is = last;
        number_is = ap (λ n. n + 1) s.number_is ∙ sym (length_push s.lines l);
        rules_are = ap (λ ts. rules_of ts ++ rest')
            (sym (no_rule_yet Stages (s.lines ++ l ∷ []) took.form
            (subst (λ x. rank x < 2) last (low_rank part' other))));
      }

  pub page_ends : length rest ≤ 0 → length page ≤ most_bytes → Whole caps p page rules q
  page_ends none short =
      let e : rest ≡ [] = nil_from_length rest (omega arith) in
      record {
        lines = s.lines;
        short = short;
        took = subst (λ bs. Took caps p page s.lines bs q) e s.took;
        rules_are = s.rules_are ∙ ap (λ bs. rules_of (texts_of s.lines) ++ bs) e
            ∙ append-nil (rules_of (texts_of s.lines));
      }

  pub breaks_form : 0 < length rest → length page ≤ most_bytes → NoLine part rest
      → BreaksForm caps p page (number + 1) q
  breaks_form more short none =
      record {
        lines = s.lines;
        rest = rest;
        short = short;
        took = s.took;
        more = more;
        breaks = subst (λ x. NoLine x rest) s.part_is none;
        number = ap (λ n. n + 1) s.number_is;
      }

  pub breaks_edit : (l : Line) (rest' : List ℕ) (fault : EditFault) (q' : Prog) → length page ≤ most_bytes
      → Follows part l
      → rest ≡ write l ++ 10 ∷ rest' → Edited (edit_step caps q l) (Err fault) q'
      → BreaksEdit caps p page (number + 1) fault q'
  breaks_edit l rest' fault q' short f e d =
      let no : (edit_step caps q l).answer ≡ Err fault = refused_verdict (edit_step caps q l).answer fault
      (sym d.answers) in
      let same : q ≡ q' = sym (d.leaves ∙ refused_keeps caps q l fault no) in
      record {
        lines = s.lines;
        line = l;
        rest = rest';
        short = short;
        took = subst (λ x. Took caps p page s.lines (write l ++ 10 ∷ rest') x) same
            (subst (λ bs. Took caps p page s.lines bs q) e s.took);
        follows = subst (λ x. Follows x l) s.part_is f;
        refused = subst (λ x. (edit_step caps x l).answer ≡ Err fault) same no;
        number = ap (λ n. n + 1) s.number_is;
      }

pub shorter : {bytes : List ℕ} (l : Line) (rest : List ℕ) → bytes ≡ write l ++ 10 ∷ rest → length rest < length bytes
shorter l rest e = omega (arith, ap length e, length-append (write l) (10 ∷ rest))

-- What a test for another part says.
pub is_part : (x part : Part) (r : Bool) → r ≡ not (sameb the_type x part) → r ≡ false → x ≡ part
is_part x part r h e = differs_false the_type tt x part (sym h ∙ e)

pub not_part : (x part : Part) (r : Bool) → r ≡ not (sameb the_type x part) → r ≡ true → x ≡ part → ⊥
not_part x part r h e = differs_true the_type x part (sym h ∙ e)

ok_or_err : {T E : Type 0} {x : T} {e : E} → ◌≡◌ {A = Result T E} (Ok x) (Err e) → ⊥
ok_or_err h = let z : ◌≡◌ {A = ℕ} 0 1 = cc in omega arith

-- The edit behind an answer whose error was given a line.
pub mapped_err : {T E D : Type 0} (Q : E → D → Type 0) (r : Result T E) (s : Result T D) (y : D)
    → MatchResult r (λ x. s ≡ Ok x) (λ e. IsErrAnd s (Q e)) → s ≡ Err y → (e : E) × (r ≡ Err e) × Q e y
mapped_err Q (Ok x) s y m is = absurd (ok_or_err (sym m ∙ is))
mapped_err {T} {E} {D} Q (Err e) s y m is =
    let p = err_from_is_err_and s m in
    let z : ◌≡◌ {A = Result T D} (Err p.0) (Err y) = sym p.1 ∙ is in
    (e, refl, subst (Q e) (let w : p.0 ≡ y = cc in w) p.2)

pub mapped_ok : {T E D : Type 0} (Q : E → D → Type 0) (r : Result T E) (s : Result T D) (x : T)
    → MatchResult r (λ x. s ≡ Ok x) (λ e. IsErrAnd s (Q e)) → s ≡ Ok x → r ≡ Ok x
mapped_ok {T} {E} {D} Q (Ok y) s x m is =
    let z : ◌≡◌ {A = Result T D} (Ok y) (Ok x) = sym m ∙ is in
    ap Ok (let w : y ≡ x = cc in w)
mapped_ok Q (Err e) s x m is = absurd (let p = err_from_is_err_and s m in ok_or_err (sym is ∙ p.1))
