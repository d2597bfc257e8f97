-- What a removal keeps when a stage comes to watch another move, and when it is gone.
use Rattle.std.proofs.Common.{◌≡◌, ℕ, ◌+◌, ◌<◌, ◌≤◌, Bool, false, T, ltb, ◌⊎◌, Option, Some, None}
use Rattle.std.proofs.Common.{List, [], ◌∷◌, ◌++◌, length, get_or, set, sym, refl, ap, ◌∙◌, subst, inl, inr, ⊎_elim}
use Rattle.std.proofs.Common.{arith, length-append}
use Rattle.std.proofs.lemmas.List.{get_or-set_same, get_or-set_other, get_or_push, get_or_append_left, length-set}
use Rattle.std.proofs.lemmas.Bool.{cases_eq, cases_lt}
use Rattle.program.specs.declared.Move.{Move}
use Rattle.tally.specs.Walks.{among}
use Rattle.tctl.proofs.Basics.{card, card_lt, card_top}
use Rattle.program.specs.declared.End.TheVariants.{Leaves, Enters}
use Rattle.settle.specs.declared.endless.Sort.{Sort}
use Rattle.settle.specs.Chains.{end_at, link_at}
use Rattle.settle.proofs.Chains.{Step}
use Rattle.settle.specs.declared.removal.Removal.{Removal}
use Rattle.settle.specs.declared.links.Chained.{Chained}
use Rattle.settle.specs.Removals.{stages_of, moves_of, Leads, NoneAtOrPast, From, Watched, WatchingBelow, Watching, Due}
use Rattle.settle.specs.Removals.{Booked, Gone, Outside, Lasting, Inside, Shrinks, Removes, Rewatches}

-- While a stage is left there is room for one more that is gone.
pub room_left : (p : Chained) (set : List ℕ) (r : Removal) → Booked p set r → (stage : ℕ) → stage < stages_of p
    → T (among set stage) → length r.gone.items < stages_of p
room_left p set r booked stage l t =
    let some = card_lt (λ x. false) (among set) (λ x f. absurd f) stage (λ f. f) t (stages_of p) l in
    let room = booked.room in
    omega arith

-- At the beginning no stage is gone.
pub booked_none : (p : Chained) (set : List ℕ) (r : Removal) → stages_of p ≤ length set → r.gone.items ≡ []
    → Booked p set r
booked_none p set r wide none = record {
  wide = wide;
  room = let h = card_top (among set) (stages_of p) in omega (arith, ap length none);
  outside = λ i l. absurd (omega (arith, ap length none));
}

-- What is kept where no more stages are gone.
pub booked_same : (p : Chained) (set : List ℕ) (r after : Removal) → after.gone.items ≡ r.gone.items → Booked p set r
    → Booked p set after
booked_same p set r after e booked = record {
  wide = booked.wide;
  room = subst (λ xs. card (among set) (stages_of p) + length xs ≤ stages_of p) (sym e) booked.room;
  outside = subst (λ xs. (i : ℕ) → i < length xs → Outside p (among set) (get_or xs i 0)) (sym e) booked.outside;
}

gone_same : (r after : Removal) → after.gone.items ≡ r.gone.items → after.done ≡ r.done → (stage : ℕ) → Gone r stage
    → Gone after stage
gone_same r after e done stage g = record {
  place = g.place;
  not_yet = subst (λ x. x ≤ g.place) (sym done) g.not_yet;
  already = subst (λ xs. g.place < length xs) (sym e) g.already;
  is = ap (λ xs. get_or xs g.place 0) e ∙ g.is;
}

-- A stage with a move into the set watches it.
pub rewatched : (sort : Sort) (p : Chained) (stage : ℕ) (was : List ℕ) (r after : Removal) → Booked p was r
    → stage < length r.watched → (link : Option ℕ) (k : ℕ) → link ≡ Some k
    → Leads sort (moves_of p) (among was) stage k → NoneAtOrPast sort (moves_of p) (among was) stage (k + 1)
    → after.watched ≡ set r.watched stage link → after.gone.items ≡ r.gone.items → after.done ≡ r.done
    → Rewatches sort p stage was was r after
rewatched sort p stage was r after booked low link k is lead none watched gone done = record {
  removes = record {
    shrinks = record { inside = λ x h. h; lasts = λ part lasting inside. inside };
    rest = λ i h. refl;
    booked = booked_same p was r after gone booked;
    done = done;
  };
  others = λ other ne. ap (λ ws. link_at ws other) watched ∙ get_or-set_other r.watched stage other link None ne;
  here = λ t. record {
    by = k;
    is = ap (λ ws. link_at ws stage) watched ∙ get_or-set_same r.watched stage link None low ∙ is;
    real = lead.real;
    leaves = lead.leaves;
    counts = lead.counts;
    enters = inl lead.enters;
    no_higher = none;
  };
  gone = gone_same r after gone done;
  left = λ other t. inl t;
}

module _ (sort : Sort) (p : Chained) (stage : ℕ) (was : List ℕ) (r : Removal) (booked : Booked p was r)
    (low : stage < stages_of p) (left : T (among was stage))
    (useless : NoneAtOrPast sort (moves_of p) (among was) stage 0) where
  abbrev fewer : List ℕ
  fewer = set was stage 0

  in_was : stage < length was
  in_was = let h = booked.wide in omega arith

  not_left : T (among fewer stage) → ⊥
  not_left t = subst (λ x. T (ltb 0 x)) (get_or-set_same was stage 0 0 in_was) t

  others_left : (s : ℕ) → (s ≡ stage → ⊥) → T (among was s) → T (among fewer s)
  others_left s ne t = subst (λ x. T (ltb 0 x)) (sym (get_or-set_other was stage s 0 0 ne)) t

  fewer_inside : Inside (among fewer) (among was)
  fewer_inside s t =
      ⊎_elim (λ e. subst (λ x. T (among was x)) (sym e) left)
      (λ ne. subst (λ x. T (ltb 0 x)) (get_or-set_other was stage s 0 0 ne) t) (cases_eq s stage)

  -- No part that lasts has the stage.
  lasts_left : (part : ℕ → Bool) → Lasting sort (moves_of p) part → Inside part (among was) → Inside part (among fewer)
  lasts_left part lasting inside s t =
      ⊎_elim
      (λ e.
      let o = lasting s t in
      absurd (useless o.0 (omega arith) (record {
        real = o.1.real;
        leaves = o.1.leaves ∙ e;
        counts = o.1.counts;
        enters = inside _ o.1.enters;
      })))
      (λ ne. others_left s ne (inside s t)) (cases_eq s stage)

  module _ (after : Removal) (watched : after.watched ≡ r.watched) (done : after.done ≡ r.done)
      (gone : after.gone.items ≡ r.gone.items ++ stage ∷ []) where
    longer : length after.gone.items ≡ length r.gone.items + 1
    longer = ap length gone ∙ length-append r.gone.items (stage ∷ [])

    last_gone : get_or after.gone.items (length r.gone.items) 0 ≡ stage
    last_gone = ap (λ xs. get_or xs (length r.gone.items) 0) gone ∙ get_or_push r.gone.items stage 0 _ refl

    others_gone : (i : ℕ) → i < length r.gone.items → get_or after.gone.items i 0 ≡ get_or r.gone.items i 0
    others_gone i l = ap (λ xs. get_or xs i 0) gone ∙ get_or_append_left r.gone.items (stage ∷ []) 0 i l

    still_outside : (i : ℕ) → i < length after.gone.items → Outside p (among fewer) (get_or after.gone.items i 0)
    still_outside i l =
        ⊎_elim
        (λ e.
        subst (λ x. Outside p (among fewer) (get_or after.gone.items x 0)) (sym e)
        (subst (λ x. Outside p (among fewer) x) (sym last_gone) (low, not_left)))
        (λ ne.
        let before : i < length r.gone.items = let h = longer in omega arith in
        let o = booked.outside i before in
        subst (λ x. Outside p (among fewer) x) (sym (others_gone i before)) (o.0, λ t. o.1 (fewer_inside _ t)))
        (cases_eq i (length r.gone.items))

    -- A stage with no move into the set is gone.
    pub removed : Rewatches sort p stage was fewer r after
    removed = record {
      removes = record {
        shrinks = record { inside = fewer_inside; lasts = lasts_left };
        rest = λ i h. get_or-set_other was stage i 0 0 (λ e. omega arith);
        booked = record {
          wide = let h = booked.wide in omega (arith, length-set was stage 0);
          room =
              let less =
              card_lt (among fewer) (among was) fewer_inside stage not_left left (stages_of p) low in
              let h = booked.room in
              let e = longer in
              omega arith;
          outside = still_outside;
        };
        done = done;
      };
      others = λ other ne. ap (λ ws. link_at ws other) watched;
      here = λ t. absurd (not_left t);
      gone = λ other g.
          let l = g.already in
          let e = longer in
          record {
            place = g.place;
            not_yet = subst (λ x. x ≤ g.place) (sym done) g.not_yet;
            already = omega arith;
            is = others_gone g.place l ∙ g.is;
          };
      left = λ other t.
          ⊎_elim
          (λ e. inr (record {
            place = length r.gone.items;
            not_yet = subst (λ x. x ≤ length r.gone.items) (sym done) r.order;
            already = let e = longer in omega arith;
            is = last_gone ∙ sym e;
          }))
          (λ ne. inl (others_left other ne t)) (cases_eq other stage);
    }

module _ (sort : Sort) (p : Chained) where
  abbrev n : ℕ
  n = stages_of p

  abbrev moves : List Move
  moves = moves_of p

  -- A set shrinks again.
  pub shrinks_more : (was mid after : ℕ → Bool) → Shrinks sort moves was mid → Shrinks sort moves mid after
      → Shrinks sort moves was after
  shrinks_more was mid after one two = record {
    inside = λ x h. one.inside x (two.inside x h);
    lasts = λ part lasting inside. two.lasts part lasting (one.lasts part lasting inside);
  }

  -- One removal after another.
  pub removes_more : (was mid after : List ℕ) (r s t : Removal) → Removes sort p was mid r s
      → Removes sort p mid after s t → Removes sort p was after r t
  removes_more was mid after r s t one two = record {
    shrinks = shrinks_more (among was) (among mid) (among after) one.shrinks two.shrinks;
    rest = λ i h. two.rest i h ∙ one.rest i h;
    booked = two.booked;
    done = two.done ∙ one.done;
  }

  -- A watched move is watched in a smaller set, where it is due if it leads there no more.
  watched_more : (was after : ℕ → Bool) (due next : ℕ → Type 0) (stage : ℕ) (link : Option ℕ) → Inside after was
      → (w : Watched sort moves was due stage link)
      → (T (was (end_at Enters moves w.by)) → T (after (end_at Enters moves w.by)) ⊎ next w.by)
      → (due w.by → next w.by) → Watched sort moves after next stage link
  watched_more was after due next stage link inside w left still = record {
    by = w.by;
    is = w.is;
    real = w.real;
    leaves = w.leaves;
    counts = w.counts;
    enters = ⊎_elim left (λ d. inr (still d)) w.enters;
    no_higher = λ k h l. w.no_higher k h (record {
      real = l.real;
      leaves = l.leaves;
      counts = l.counts;
      enters = inside _ l.enters;
    });
  }

  -- Each of the first stages watches a move again once one of them has come to watch another.
  pub watching_more : (m stage : ℕ) (was after : List ℕ) (r s : Removal) (due next : ℕ → Type 0)
      → Rewatches sort p stage was after r s
      → ((k : ℕ) → (end_at Leaves moves k ≡ stage → ⊥) → due k → next k) → ((k : ℕ) → Due p s k → next k)
      → ((other : ℕ) → other < m → (other ≡ stage → ⊥) → T (among was other)
      → Watched sort moves (among was) due other (link_at r.watched other))
      → WatchingBelow m sort moves (among after) next s
  watching_more m stage was after r s due next re still gone others other l t =
      ⊎_elim
      (λ e.
      subst (λ x. Watched sort moves (among after) next x (link_at s.watched x)) (sym e)
      (watched_more (among after) (among after) (λ k. ⊥) next stage (link_at s.watched stage) (λ x h. h)
      (re.here (subst (λ x. T (among after x)) e t)) (λ h. inl h) (λ f. absurd f)))
      (λ ne.
      let w = others other l ne (re.removes.shrinks.inside other t) in
      subst (λ x. Watched sort moves (among after) next other x) (sym (re.others other ne))
      (watched_more (among was) (among after) due next other (link_at r.watched other) re.removes.shrinks.inside w
      (λ h. ⊎_elim (λ x. inl x) (λ g. inr (gone w.by g)) (re.left _ h))
      (still w.by (λ e. ne (sym w.leaves ∙ e)))))
      (cases_eq other stage)

  -- Where the move of a link leads into the set no more, no move from its next link on does unless it is lower.
  pub from_next : (set : ℕ → Bool) (stage k : ℕ) (link next : Option ℕ) → Step Leaves moves stage k link next
      → (Leads sort moves set stage k → ⊥) → NoneAtOrPast sort moves set stage (k + 1)
      → From sort moves set stage next
  from_next set stage k link next s out none = record {
    reaches = s.on;
    none = λ j h lead.
        ⊎_elim (λ e. out (subst (λ x. Leads sort moves set stage x) e lead))
        (λ ne. ⊎_elim (λ l. s.right.last j h l lead.leaves) (λ l. none j (omega arith) lead) (cases_lt j k))
        (cases_eq j k);
  }

  -- Each of the first stages watches a move where fewer are due, if what was due is.
  pub watching_due : (set : ℕ → Bool) (r : Removal) (due next : ℕ → Type 0) → ((k : ℕ) → due k → next k)
      → Watching sort p set due r → Watching sort p set next r
  watching_due set r due next still watching stage l t =
      let w = watching stage l t in
      watched_more set set due next stage (link_at r.watched stage) (λ x h. h) w (λ h. inl h) (still w.by)

  -- The same but for move k, if the stage that it leaves does not watch it.
  pub watching_next : (set : ℕ → Bool) (r : Removal) (due next : ℕ → Type 0) (k : ℕ)
      → ((j : ℕ) → (j ≡ k → ⊥) → due j → next j)
      → (T (set (end_at Leaves moves k)) → link_at r.watched (end_at Leaves moves k) ≡ Some k → ⊥)
      → Watching sort p set due r → Watching sort p set next r
  watching_next set r due next k still other watching stage l t =
      let w = watching stage l t in
      watched_more set set due next stage (link_at r.watched stage) (λ x h. h) w (λ h. inl h)
      (still w.by
      (λ e.
      let same = sym w.leaves ∙ ap (end_at Leaves moves) e in
      other (subst (λ x. T (set x)) same t)
      (subst (λ x. link_at r.watched x ≡ Some k) same (w.is ∙ ap (λ x. Some x) e))))
