-- What one step of a reader keeps.
use Rattle.std.proofs.Common.{◌≡◌, ℕ, ◌-◌, ◌<◌, ◌≤◌, List, [], ◌∷◌, length, Option, sym, refl, ap, ◌∙◌, subst, arith}
use Rattle.std.proofs.Common.{Bor}
use Rattle.std.specs.declared.option.Option.TheVariants as option
use Rattle.tctl.specs.Rules as tree
use Rattle.tctl.specs.Rules.{Rule}
use Rattle.rules.specs.declared.line.Bound.{Bound}
use Rattle.rules.specs.declared.line.Bound.TheVariants.{AtMost, AtLeast}
use Rattle.rules.specs.declared.line.Line.{Line}
use Rattle.rules.specs.declared.line.Line.TheVariants as line
use Rattle.rules.specs.declared.line.Quantifier.{Quantifier}
use Rattle.rules.specs.declared.line.Quantifier.TheVariants as quantifier
use Rattle.rules.specs.Lines.{until_rule}
use Rattle.rules.specs.Postorder.{put, after_two}
use Rattle.rules.proofs.Postorder.{put_longer}
use Rattle.signs.specs.declared.Sign.{Sign}
use Rattle.signs.specs.declared.Sign.TheVariants.{Open, Close, OpenSquare, CloseSquare, Bang, Amp, Bar, Each}
use Rattle.signs.specs.declared.Sign.TheVariants.{UntilAtMost, UntilAtLeast, Letter, Number}
use Rattle.signs.specs.Signs.{signs, told, cap}
use Rattle.signs.specs.First.{Begins, Told}
use Rattle.reader.specs.declared.draft.Draft.{Draft}
use Rattle.reader.specs.declared.parts.Reader.{Reader}
use Rattle.reader.specs.Drafts.{Drawn, Pushed}
use Rattle.reader.specs.Parts.{Limit, at_most, at_least, Formula, Terms, Term, Items, Item, Body, body, terms}
use Rattle.reader.specs.Parts.{no_term, bar, items, no_item, amp, one, letter, not, round, until, spell_limit, bound_of}
use Rattle.reader.specs.Parts.{spell_formula, spell_terms, spell_term, spell_items, spell_item, spell_body}
use Rattle.reader.specs.Parts.{tree_formula, tree_terms, tree_term, tree_items, tree_item, tree_body}
use Rattle.reader.specs.Reads.{ReadsItem, ReadsBody, Without, Anything, NoAmp, NoJoint, Took, Lacks, TookLimit}
use Rattle.reader.proofs.Drafts.{push_one, push_two, push_until, push_new}
use Rattle.reader.proofs.Unique.{barred, limit_free, limit_same, terms_free, close_free, square_free, formula_same}
use Rattle.reader.proofs.Unique.{term_same, item_same}

-- parts of the grammar that go on from one text to what is left of it, and join their lines to those of f
pub record Grew {F : Type 0} (spell : F → List Sign → List Sign) (tree : F → Rule → Rule) (Stop : List Sign → Type 0)
    (text rest : List ℕ) (before after : Draft) (number : ℕ) : Type 0 where
  pub parts : F
  pub splits : signs text ≡ spell parts (signs rest)
  pub adds : (f : Rule) (ls : List Line) → Drawn before (put f ls) → Drawn after (put (tree parts f) ls)
  pub last : number ≡ after.count - 1
  pub stops : Stop (signs rest)
  pub shorter : length rest ≤ length text

abbrev pub TookItem : List ℕ → List ℕ → Draft → Draft → ℕ → Type 0
TookItem text rest d e n = Took spell_item tree_item Anything text rest d e n

abbrev pub TookTerm : List ℕ → List ℕ → Draft → Draft → ℕ → Type 0
TookTerm text rest d e n = Took spell_term tree_term NoAmp text rest d e n

abbrev pub TookRule : List ℕ → List ℕ → Draft → Draft → ℕ → Type 0
TookRule text rest d e n = Took spell_formula tree_formula NoJoint text rest d e n

abbrev pub TookBody : Quantifier → List ℕ → List ℕ → Draft → Draft → ℕ → Type 0
TookBody q text rest d e n = Took spell_body (tree_body q) Anything text rest d e n

abbrev pub LacksItem : List ℕ → Type 0
LacksItem text = Lacks spell_item Anything text

abbrev pub LacksTerm : List ℕ → Type 0
LacksTerm text = Lacks spell_term NoAmp text

abbrev pub LacksRule : List ℕ → Type 0
LacksRule text = Lacks spell_formula NoJoint text

abbrev pub LacksBody : List ℕ → Type 0
LacksBody text = Lacks spell_body Anything text

abbrev pub GrewItems : List ℕ → List ℕ → Draft → Draft → ℕ → Type 0
GrewItems text rest d e n = Grew spell_items tree_items Anything text rest d e n

abbrev pub GrewTerms : List ℕ → List ℕ → Draft → Draft → ℕ → Type 0
GrewTerms text rest d e n = Grew spell_terms tree_terms NoAmp text rest d e n

pub without : (s : Sign) (us : List Sign) → ((ss : List Sign) → us ≡ s ∷ ss → ⊥) → Without s us
without s [] n = tt
without s (t ∷ ts) n = λ e. n ts (ap (λ x. x ∷ ts) e)

tail_same : {s t : Sign} (ss us : List Sign) → ◌≡◌ {A = List Sign} (s ∷ ss) (t ∷ us) → ss ≡ us
tail_same ss us e = cc

head_same : {s t : Sign} (ss us : List Sign) → ◌≡◌ {A = List Sign} (s ∷ ss) (t ∷ us) → s ≡ t
head_same ss us e = cc

not_shorter : (f : Rule) (ls : List Line) → length ls ≤ length (put f ls)
not_shorter f ls = omega (arith, put_longer f ls)

-- items

pub snoc_item : Items → Item → Items
snoc_item no_item j = amp j no_item
snoc_item (amp i is) j = amp i (snoc_item is j)

pub spell_snoc_item : (is : Items) (j : Item) (ss : List Sign)
    → spell_items (snoc_item is j) ss ≡ spell_items is (Amp ∷ spell_item j ss)
unfolding spell_formula snoc_item
spell_snoc_item no_item j ss = refl
spell_snoc_item (amp i is) j ss = ap (λ us. Amp ∷ spell_item i us) (spell_snoc_item is j ss)

pub tree_snoc_item : (is : Items) (j : Item) (f : Rule)
    → tree_items (snoc_item is j) f ≡ tree.both (tree_items is f) (tree_item j)
unfolding tree_formula snoc_item
tree_snoc_item no_item j f = refl
tree_snoc_item (amp i is) j f = tree_snoc_item is j (tree.both f (tree_item i))

-- where items are followed by & and another reading goes further, an item follows
items_on : (is js : Items) (vs ss : List Sign) → spell_items is (Amp ∷ vs) ≡ spell_items js ss → NoAmp ss
    → (j : Item) × (us : List Sign) × (vs ≡ spell_item j us)
unfolding spell_formula
items_on no_item no_item vs ss e n = barred Amp ss vs (sym e) n
items_on no_item (amp j js) vs ss e n = (j, spell_items js ss, tail_same _ _ e)
items_on (amp i is) no_item vs ss e n = barred Amp ss _ (sym e) n
items_on (amp i is) (amp j js) vs ss e n = items_on is js vs ss (item_same i j _ _ (tail_same _ _ e)).1 n

-- terms

pub snoc_term : Terms → Term → Terms
snoc_term no_term u = bar u no_term
snoc_term (bar t ts) u = bar t (snoc_term ts u)

pub spell_snoc_term : (ts : Terms) (u : Term) (ss : List Sign)
    → spell_terms (snoc_term ts u) ss ≡ spell_terms ts (Bar ∷ spell_term u ss)
unfolding spell_formula snoc_term
spell_snoc_term no_term u ss = refl
spell_snoc_term (bar t ts) u ss = ap (λ us. Bar ∷ spell_term t us) (spell_snoc_term ts u ss)

pub tree_snoc_term : (ts : Terms) (u : Term) (f : Rule)
    → tree_terms (snoc_term ts u) f ≡ tree.either (tree_terms ts f) (tree_term u)
unfolding tree_formula snoc_term
tree_snoc_term no_term u f = refl
tree_snoc_term (bar t ts) u f = tree_snoc_term ts u (tree.either f (tree_term t))

bar_free : (ss : List Sign) → NoAmp (Bar ∷ ss)
bar_free ss = λ e. cc

terms_on : (ts us : Terms) (vs ss : List Sign) → spell_terms ts (Bar ∷ vs) ≡ spell_terms us ss → NoJoint ss
    → (u : Term) × (xs : List Sign) × NoAmp xs × (vs ≡ spell_term u xs)
unfolding spell_formula
terms_on no_term no_term vs ss e n = barred Bar ss vs (sym e) n.1
terms_on no_term (bar u us) vs ss e n = (u, spell_terms us ss, terms_free us ss n.0, tail_same _ _ e)
terms_on (bar t ts) no_term vs ss e n = barred Bar ss _ (sym e) n.1
terms_on (bar t ts) (bar u us) vs ss e n =
    let a = term_same t u _ _ (tail_same _ _ e) (terms_free ts _ (bar_free vs)) (terms_free us _ n.0) in
    terms_on ts us vs ss a.1 n

-- the loop of a term

pub term_lacks : (text : List ℕ) → LacksItem text → LacksTerm text
unfolding spell_formula
term_lacks text l (items i is) ss e n = l i (spell_items is ss) e tt

pub term_starts : {text rest : List ℕ} {d e : Draft} {n : ℕ} → TookItem text rest d e n → GrewItems rest rest e e n
unfolding spell_formula tree_formula
term_starts h =
    record { parts = no_item; splits = refl; adds = λ f ls x. x; last = h.last; stops = tt; shorter = omega arith }

pub term_goes_on : {r0 rest next after : List ℕ} {d0 d1 d2 d3 : Draft} {i j k : ℕ} → GrewItems r0 rest d0 d1 i
    → Begins rest Amp after → TookItem after next d1 d2 j → Pushed d2 (line.And i j) d3 → k ≡ d3.count - 1
    → GrewItems r0 next d0 d3 k
term_goes_on {next = next} {d3 = d3} {i} {j} g s h p last =
    record {
      parts = snoc_item g.parts h.part;
      splits =
          g.splits ∙ ap (spell_items g.parts) (s.splits ∙ ap (λ us. Amp ∷ us) h.splits)
          ∙ sym (spell_snoc_item g.parts h.part (signs next));
      adds =
          λ f ls w.
          let u = g.adds f ls w in
          subst (λ z. Drawn d3 (put z ls)) (sym (tree_snoc_item g.parts h.part f))
          (push_two line.And line.And i j _ _ u (h.adds _ u) (not_shorter (tree_item h.part) _) p g.last h.last
          (λ a b. refl) (λ a b z. refl));
      last = last;
      stops = tt;
      shorter = omega (arith, g.shorter, s.shorter, h.shorter);
    }

pub term_lacks_on : {text r0 rest after : List ℕ} {before d0 d1 : Draft} {m n : ℕ} → TookItem text r0 before d0 m
    → GrewItems r0 rest d0 d1 n → Begins rest Amp after → LacksItem after → LacksTerm text
unfolding spell_formula
term_lacks_on h g s l (items i is) ss e n =
    let a = item_same h.part i _ _ (sym h.splits ∙ e) in
    let b = items_on g.parts is _ ss (sym (ap (spell_items g.parts) s.splits) ∙ sym g.splits ∙ a.1) n in
    l b.0 b.1 b.2 tt

pub term_ends : {text r0 rest : List ℕ} {before d0 d1 : Draft} {m n : ℕ} → TookItem text r0 before d0 m
    → GrewItems r0 rest d0 d1 n → ((ss : List Sign) → signs rest ≡ Amp ∷ ss → ⊥) → TookTerm text rest before d1 n
unfolding spell_formula tree_formula
term_ends h g n =
    record {
      part = items h.part g.parts;
      splits = h.splits ∙ ap (spell_item h.part) g.splits;
      adds = λ ls w. g.adds (tree_item h.part) ls (h.adds ls w);
      last = g.last;
      stops = without Amp _ n;
      shorter = omega (arith, h.shorter, g.shorter);
    }

-- the loop of a rule

pub rule_lacks : (text : List ℕ) → LacksTerm text → LacksRule text
unfolding spell_formula
rule_lacks text l (terms t ts) ss e n = l t (spell_terms ts ss) e (terms_free ts ss n.0)

pub rule_starts : {text rest : List ℕ} {d e : Draft} {n : ℕ} → TookTerm text rest d e n → GrewTerms rest rest e e n
unfolding spell_formula tree_formula
rule_starts h =
    record {
      parts = no_term;
      splits = refl;
      adds = λ f ls x. x;
      last = h.last;
      stops = h.stops;
      shorter = omega arith;
    }

pub rule_goes_on : {r0 rest next after : List ℕ} {d0 d1 d2 d3 : Draft} {i j k : ℕ} → GrewTerms r0 rest d0 d1 i
    → Begins rest Bar after → TookTerm after next d1 d2 j → Pushed d2 (line.Or i j) d3 → k ≡ d3.count - 1
    → GrewTerms r0 next d0 d3 k
rule_goes_on {next = next} {d3 = d3} {i} {j} g s h p last =
    record {
      parts = snoc_term g.parts h.part;
      splits =
          g.splits ∙ ap (spell_terms g.parts) (s.splits ∙ ap (λ us. Bar ∷ us) h.splits)
          ∙ sym (spell_snoc_term g.parts h.part (signs next));
      adds =
          λ f ls w.
          let u = g.adds f ls w in
          subst (λ z. Drawn d3 (put z ls)) (sym (tree_snoc_term g.parts h.part f))
          (push_two line.Or line.Or i j _ _ u (h.adds _ u) (not_shorter (tree_term h.part) _) p g.last h.last
          (λ a b. refl) (λ a b z. refl));
      last = last;
      stops = h.stops;
      shorter = omega (arith, g.shorter, s.shorter, h.shorter);
    }

pub rule_lacks_on : {text r0 rest after : List ℕ} {before d0 d1 : Draft} {m n : ℕ} → TookTerm text r0 before d0 m
    → GrewTerms r0 rest d0 d1 n → Begins rest Bar after → LacksTerm after → LacksRule text
unfolding spell_formula
rule_lacks_on h g s l (terms t ts) ss e n =
    let a = term_same h.part t _ _ (sym h.splits ∙ e) h.stops (terms_free ts ss n.0) in
    let b = terms_on g.parts ts _ ss (sym (ap (spell_terms g.parts) s.splits) ∙ sym g.splits ∙ a.1) n in
    l b.0 b.1 b.3 b.2

pub rule_ends : {text r0 rest : List ℕ} {before d0 d1 : Draft} {m n : ℕ} → TookTerm text r0 before d0 m
    → GrewTerms r0 rest d0 d1 n → ((ss : List Sign) → signs rest ≡ Bar ∷ ss → ⊥) → TookRule text rest before d1 n
unfolding spell_formula tree_formula
rule_ends h g n =
    record {
      part = terms h.part g.parts;
      splits = h.splits ∙ ap (spell_term h.part) g.splits;
      adds = λ ls w. g.adds (tree_term h.part) ls (h.adds ls w);
      last = g.last;
      stops = (g.stops, without Bar _ n);
      shorter = omega (arith, h.shorter, g.shorter);
    }

-- the body of E and A

put_until : (q : Quantifier) (b : Bound) (f g : Rule) (ls : List Line)
    → put (until_rule q b f g) ls ≡ after_two (λ i j. line.Until q i b j) (put f ls) (put g (put f ls))
put_until quantifier.Some (AtMost c) f g ls = refl
put_until quantifier.Some (AtLeast c) f g ls = refl
put_until quantifier.All (AtMost c) f g ls = refl
put_until quantifier.All (AtLeast c) f g ls = refl

pub body_lacks_open : (text : List ℕ) → ((ss : List Sign) → signs text ≡ OpenSquare ∷ ss → ⊥) → LacksBody text
unfolding spell_body
body_lacks_open text n (body f b g) ss e a = n _ e

module _ {text r1 : List ℕ} (o : Begins text OpenSquare r1) where
  pub body_lacks_left : LacksRule r1 → LacksBody text
  unfolding spell_body
  body_lacks_left l (body f b g) ss e a = l f _ (tail_same _ _ (sym o.splits ∙ e)) (limit_free b _)

  module _ {r2 : List ℕ} {d0 d1 : Draft} {i : ℕ} (h : TookRule r1 r2 d0 d1 i) where
    left_same : (f : Formula) (b : Limit) (g : Formula) (ss : List Sign) → signs text ≡ spell_body (body f b g) ss
        → signs r2 ≡ spell_limit b (spell_formula g (CloseSquare ∷ ss))
    unfolding spell_body
    left_same f b g ss e =
        (formula_same h.part f _ _ (sym h.splits ∙ tail_same _ _ (sym o.splits ∙ e)) h.stops
        (limit_free b _)).1

    pub body_lacks_limit : ((b : Limit) (ss : List Sign) → signs r2 ≡ spell_limit b ss → ⊥) → LacksBody text
    body_lacks_limit l (body f b g) ss e a = l b _ (left_same f b g ss e)

    module _ {r3 : List ℕ} {c : Bound} (m : TookLimit r2 c r3) where
      limit_goes : (f : Formula) (b : Limit) (g : Formula) (ss : List Sign) → signs text ≡ spell_body (body f b g) ss
          → signs r3 ≡ spell_formula g (CloseSquare ∷ ss)
      limit_goes f b g ss e = (limit_same m.limit b _ _ (sym m.splits ∙ left_same f b g ss e)).1

      pub body_lacks_right : LacksRule r3 → LacksBody text
      body_lacks_right l (body f b g) ss e a = l g _ (limit_goes f b g ss e) (square_free ss)

      module _ {r4 : List ℕ} {d2 : Draft} {j : ℕ} (k : TookRule r3 r4 d1 d2 j) where
        pub body_lacks_close : ((ss : List Sign) → signs r4 ≡ CloseSquare ∷ ss → ⊥) → LacksBody text
        body_lacks_close n (body f b g) ss e a =
            n ss (formula_same k.part g _ _ (sym k.splits ∙ limit_goes f b g ss e) k.stops (square_free ss)).1

        pub body_ends : {r5 : List ℕ} {d3 : Draft} {n : ℕ} (q : Quantifier) → Begins r4 CloseSquare r5
            → Pushed d2 (line.Until q i c j) d3 → n ≡ d3.count - 1 → TookBody q text r5 d0 d3 n
        unfolding spell_body tree_body
        body_ends {r5} {d3} q z p last =
            record {
              part = body h.part m.limit k.part;
              splits =
                  let right = k.splits ∙ ap (spell_formula k.part) z.splits in
                  let bound = m.splits ∙ ap (spell_limit m.limit) right in
                  o.splits ∙ ap (λ us. OpenSquare ∷ us) (h.splits ∙ ap (spell_formula h.part) bound);
              adds =
                  λ ls w.
                  let u = h.adds ls w in
                  let f = tree_formula h.part in
                  let g = tree_formula k.part in
                  subst (Drawn d3) (sym (put_until q (bound_of m.limit) f g ls))
                  (push_until q c (bound_of m.limit) i j _ _ u (k.adds _ u) (not_shorter g _) p m.bound h.last k.last);
              last = last;
              stops = tt;
              shorter = omega (arith, o.shorter, h.shorter, m.shorter, k.shorter, z.shorter);
            }

-- an item

pub item_lacks_none : (text : List ℕ) → signs text ≡ [] → LacksItem text
unfolding spell_formula spell_body
item_lacks_none text n one ss e a = cc
item_lacks_none text n (letter k) ss e a = cc
item_lacks_none text n (not i) ss e a = cc
item_lacks_none text n (round f) ss e a = cc
item_lacks_none text n (until q f b g) ss e a = cc

pub item_lacks_number : {text rest : List ℕ} (n : ℕ) → Begins text (Number n) rest → (n ≡ 1 → ⊥) → LacksItem text
unfolding spell_formula spell_body
item_lacks_number n s l one ss e a = l (cc (s.splits, e))
item_lacks_number n s l (letter k) ss e a = cc
item_lacks_number n s l (not i) ss e a = cc
item_lacks_number n s l (round f) ss e a = cc
item_lacks_number n s l (until q f b g) ss e a = cc

pub item_lacks_not : {text rest : List ℕ} → Begins text Bang rest → LacksItem rest → LacksItem text
unfolding spell_formula spell_body
item_lacks_not s l one ss e a = cc
item_lacks_not s l (letter k) ss e a = cc
item_lacks_not s l (not i) ss e a = l i ss (tail_same _ _ (sym s.splits ∙ e)) tt
item_lacks_not s l (round f) ss e a = cc
item_lacks_not s l (until q f b g) ss e a = cc

pub item_lacks_round : {text rest : List ℕ} → Begins text Open rest → LacksRule rest → LacksItem text
unfolding spell_formula spell_body
item_lacks_round s l one ss e a = cc
item_lacks_round s l (letter k) ss e a = cc
item_lacks_round s l (not i) ss e a = cc
item_lacks_round s l (round f) ss e a = l f _ (tail_same _ _ (sym s.splits ∙ e)) (close_free ss)
item_lacks_round s l (until q f b g) ss e a = cc

pub item_lacks_close : {text rest r2 : List ℕ} {d e : Draft} {n : ℕ} → Begins text Open rest → TookRule rest r2 d e n
    → ((ss : List Sign) → signs r2 ≡ Close ∷ ss → ⊥) → LacksItem text
unfolding spell_formula spell_body
item_lacks_close s h n one ss e a = cc
item_lacks_close s h n (letter k) ss e a = cc
item_lacks_close s h n (not i) ss e a = cc
item_lacks_close s h n (round f) ss e a =
    let rest = sym h.splits ∙ tail_same _ _ (sym s.splits ∙ e) in
    n ss (formula_same h.part f _ _ rest h.stops (close_free ss)).1
item_lacks_close s h n (until q f b g) ss e a = cc

pub item_lacks_body : {text rest : List ℕ} {r : Quantifier} → Begins text (Each r) rest → LacksBody rest
    → LacksItem text
unfolding spell_formula spell_body
item_lacks_body s l one ss e a = cc
item_lacks_body s l (letter k) ss e a = cc
item_lacks_body s l (not i) ss e a = cc
item_lacks_body s l (round f) ss e a = cc
item_lacks_body s l (until q f b g) ss e a = l (body f b g) ss (tail_same _ _ (sym s.splits ∙ e)) tt

pub item_lacks_other : {text rest : List ℕ} (first : Sign) → Told text first rest → ((n : ℕ) → first ≡ Number n → ⊥)
    → ((k : ℕ) → first ≡ Letter k → ⊥) → (first ≡ Bang → ⊥) → (first ≡ Open → ⊥)
    → ((r : Quantifier) → first ≡ Each r → ⊥) → LacksItem text
unfolding spell_formula spell_body
item_lacks_other first (t, h, s) n l x p u one ss e a = n 1 (h ∙ ap told (head_same _ _ (sym s.splits ∙ e)))
item_lacks_other first (t, h, s) n l x p u (letter k) ss e a = l k (h ∙ ap told (head_same _ _ (sym s.splits ∙ e)))
item_lacks_other first (t, h, s) n l x p u (not i) ss e a = x (h ∙ ap told (head_same _ _ (sym s.splits ∙ e)))
item_lacks_other first (t, h, s) n l x p u (round f) ss e a = p (h ∙ ap told (head_same _ _ (sym s.splits ∙ e)))
item_lacks_other first (t, h, s) n l x p u (until q f b g) ss e a =
    u q (h ∙ ap told (head_same _ _ (sym s.splits ∙ e)))

pub item_one : {text rest : List ℕ} {d e : Draft} {n : ℕ} → Begins text (Number 1) rest → Pushed d line.One e
    → n ≡ e.count - 1 → TookItem text rest d e n
unfolding spell_formula tree_formula
item_one s p last =
    record {
      part = one;
      splits = s.splits;
      adds = λ ls w. push_new line.One ls w p refl;
      last = last;
      stops = tt;
      shorter = s.shorter;
    }

pub item_letter : {text rest : List ℕ} {d e : Draft} {n : ℕ} (k : ℕ) → Begins text (Letter k) rest
    → Pushed d (line.Letter k) e → n ≡ e.count - 1 → TookItem text rest d e n
unfolding spell_formula tree_formula
item_letter k s p last =
    record {
      part = letter k;
      splits = s.splits;
      adds = λ ls w. push_new (line.Letter k) ls w p refl;
      last = last;
      stops = tt;
      shorter = s.shorter;
    }

pub item_not : {text rest r2 : List ℕ} {d0 d1 d2 : Draft} {i n : ℕ} → Begins text Bang rest → TookItem rest r2 d0 d1 i
    → Pushed d1 (line.Not i) d2 → n ≡ d2.count - 1 → TookItem text r2 d0 d2 n
unfolding spell_formula tree_formula
item_not s h p last =
    record {
      part = not h.part;
      splits = s.splits ∙ ap (λ us. Bang ∷ us) h.splits;
      adds = λ ls w. push_one line.Not _ _ (h.adds ls w) p h.last (λ k. refl);
      last = last;
      stops = tt;
      shorter = omega (arith, s.shorter, h.shorter);
    }

pub item_round : {text rest r2 r3 : List ℕ} {d e : Draft} {n : ℕ} → Begins text Open rest → TookRule rest r2 d e n
    → Begins r2 Close r3 → TookItem text r3 d e n
unfolding spell_formula tree_formula
item_round s h z =
    record {
      part = round h.part;
      splits = s.splits ∙ ap (λ us. Open ∷ us) (h.splits ∙ ap (spell_formula h.part) z.splits);
      adds = h.adds;
      last = h.last;
      stops = tt;
      shorter = omega (arith, s.shorter, h.shorter, z.shorter);
    }

body_in : {text rest : List ℕ} {d e : Draft} {n : ℕ} (q : Quantifier) (p : Body) (us : List Sign)
    → signs text ≡ Each q ∷ spell_body p us → us ≡ signs rest
    → ((ls : List Line) → Drawn d ls → Drawn e (put (tree_body q p) ls)) → n ≡ e.count - 1 → length rest < length text
    → TookItem text rest d e n
unfolding spell_formula tree_formula spell_body tree_body
body_in q (body f b g) us e u m last lt =
    record {
      part = until q f b g;
      splits = e ∙ ap (spell_item (until q f b g)) u;
      adds = m;
      last = last;
      stops = tt;
      shorter = lt;
    }

item_body : {text rest r2 : List ℕ} {d e : Draft} {n : ℕ} (q : Quantifier) → Begins text (Each q) rest
    → TookBody q rest r2 d e n → TookItem text r2 d e n
item_body q s h =
    body_in q h.part _ (s.splits ∙ ap (λ us. Each q ∷ us) h.splits) refl h.adds h.last
    (omega (arith, s.shorter, h.shorter))

pub item_by_body : (before after : Reader) (rest : Bor (List ℕ)) (q : Quantifier) (r : Option ℕ)
    → Begins before.rest.now (Each q) rest.now → ReadsBody q (record before { rest = rest }) after r
    → ReadsItem before after r
item_by_body before after rest q (option.Some n) s h = item_body q s h
item_by_body before after rest q option.None s h = item_lacks_body s h

pub limit_most : {text r1 r2 : List ℕ} {b n : ℕ} → Begins text UntilAtMost r1 → b ≡ cap n → Begins r1 (Number n) r2
    → TookLimit text (AtMost b) r2
limit_most {n = n} s e h =
    record {
      limit = at_most n;
      splits = s.splits ∙ ap (λ us. UntilAtMost ∷ us) h.splits;
      bound = ap AtMost e;
      shorter = omega (arith, s.shorter, h.shorter);
    }

pub limit_least : {text r1 r2 : List ℕ} {b n : ℕ} → Begins text UntilAtLeast r1 → b ≡ cap n → Begins r1 (Number n) r2
    → TookLimit text (AtLeast b) r2
limit_least {n = n} s e h =
    record {
      limit = at_least n;
      splits = s.splits ∙ ap (λ us. UntilAtLeast ∷ us) h.splits;
      bound = ap AtLeast e;
      shorter = omega (arith, s.shorter, h.shorter);
    }

pub trailing : {text rest r2 : List ℕ} {d e : Draft} {n : ℕ} {s : Sign} → TookRule text rest d e n → Begins rest s r2
    → (f : Formula) → signs text ≡ spell_formula f [] → ⊥
trailing h z f e =
    let n = (formula_same h.part f _ _ (sym h.splits ∙ e) h.stops (tt, tt)).1 in
    cc (n, z.splits)
