-- Chains of moves: one more move, and a walk over a chain.
use Rattle.std.proofs.Common.{◌≡◌, ℕ, ◌+◌, ◌<◌, List, length, set, Option, Some, None, sym, ap, ◌∙◌, subst, ⊎_elim}
use Rattle.std.proofs.Common.{arith}
use Rattle.std.proofs.lemmas.List.{get_or-set_same, get_or-set_other}
use Rattle.std.proofs.lemmas.Bool.{cases_eq, cases_lt}
use Rattle.program.specs.declared.Move.{Move}
use Rattle.program.specs.Meaning.{most_stages}
use Rattle.tally.specs.Rounds.{Within}
use Rattle.program.specs.declared.End.{End}
use Rattle.program.specs.declared.End.TheVariants.{Leaves, Enters}
use Rattle.settle.specs.Chains.{bound, end_at, link_at, Reaches, Right, Chaining, Linked}
use Rattle.settle.specs.declared.links.Links.{Links}

module _ (end : End) (moves : List Move) where
  right_none : (stage : ℕ) → Right end moves stage 0 None
  right_none stage = record { low = omega arith; here = λ j e. absurd (cc); last = λ j h l. absurd (omega arith) }

  -- No move is chained yet.
  pub chaining_none : (first next : List (Option ℕ)) → ((i : ℕ) → i < most_stages → link_at first i ≡ None)
      → Chaining end moves 0 first next
  chaining_none first next e = record {
    firsts = λ stage l. subst (λ x. Right end moves stage 0 x) (sym (e stage l)) (right_none stage);
    nexts = λ j l. absurd (omega arith);
  }

  right_more : (stage k : ℕ) (link : Option ℕ) → (end_at end moves k ≡ stage → ⊥) → Right end moves stage k link
      → Right end moves stage (k + 1) link
  right_more stage k link ne r = record {
    low = omega (arith, r.low);
    here = r.here;
    last = λ j h l e.
        ⊎_elim (λ q. ne (subst (λ x. end_at end moves x ≡ stage) q e)) (λ d. r.last j h (omega arith) e) (cases_eq j k);
  }

  right_here : (k : ℕ) → Right end moves (end_at end moves k) (k + 1) (Some k)
  right_here k = record {
    low = omega arith;
    here = λ j e. ap (end_at end moves) (cc);
    last = λ j h l e. omega arith;
  }

  -- Move k, with the stage at its end, is chained before the move that came first.
  pub chaining_more : (k stage : ℕ) (first next : List (Option ℕ)) → stage ≡ end_at end moves k → stage < length first
      → k < length next → stage < most_stages → Chaining end moves k first next
      → Chaining end moves (k + 1) (set first stage (Some k)) (set next k (link_at first stage))
  chaining_more k t first next q lf ln l c =
      record {
        firsts = λ stage h.
            ⊎_elim
            (λ e.
            subst (λ x. Right end moves x (k + 1) (link_at (set first t (Some k)) x)) (sym e)
            (subst (λ x. Right end moves t (k + 1) x) (sym (get_or-set_same first t (Some k) None lf))
            (subst (λ x. Right end moves x (k + 1) (Some k)) (sym q) (right_here k))))
            (λ ne.
            subst (λ x. Right end moves stage (k + 1) x) (sym (get_or-set_other first t stage (Some k) None ne))
            (right_more stage k (link_at first stage) (λ e. ne (sym e ∙ sym q)) (c.firsts stage h)))
            (cases_eq stage t);
        nexts = λ j h.
            let v = link_at first t in
            ⊎_elim
            (λ e.
            subst (λ x. Right end moves (end_at end moves x) x (link_at (set next k v) x)) (sym e)
            (subst (λ x. Right end moves (end_at end moves k) k x) (sym (get_or-set_same next k v None ln))
            (subst (λ x. Right end moves x k v) q (c.firsts t l))))
            (λ ne.
            subst (λ x. Right end moves (end_at end moves j) j x) (sym (get_or-set_other next k j v None ne))
            (c.nexts j (omega arith)))
            (cases_eq j k);
      }

-- The end of a move is among the stages.
pub end_within : (end : End) (n : ℕ) (moves : List Move) → Within n moves → (k : ℕ) → k < length moves
    → end_at end moves k < n
end_within Leaves n moves w k h = (w k h).0
end_within Enters n moves w k h = (w k h).1

-- What a step along a chain finds: the move of the link, and the link to the next.
pub record Step (end : End) (moves : List Move) (stage k : ℕ) (link next : Option ℕ) : Type 0 where
  pub is : link ≡ Some k
  pub real : k < length moves
  pub here : end_at end moves k ≡ stage
  pub right : Right end moves stage k next
  pub on : Reaches end moves stage next

pub step : (end : End) (n : ℕ) (moves : List Move) (links : Links) → Linked end n moves links → (stage : ℕ)
    (link : Option ℕ) → Reaches end moves stage link → (j k : ℕ) → link ≡ Some j → k ≡ j
    → Step end moves stage k link (link_at links.next k)
step end n moves links linked stage link reaches j k some same = record {
  is = is;
  real = real;
  here = here;
  right = right;
  on = record { low = omega (arith, right.low, real); here = right.here };
}
  where
    is : link ≡ Some k
    is = some ∙ ap (λ x. Some x) (sym same)

    real : k < length moves
    real = let e : bound link ≡ k + 1 = ap bound is in omega (arith, reaches.low)

    here : end_at end moves k ≡ stage
    here = reaches.here k is

    right : Right end moves stage k (link_at links.next k)
    right = subst (λ x. Right end moves x k (link_at links.next k)) here (linked.chained.nexts k real)

-- What is still to come of a chain, once a move is passed, are the moves from its next link on.
pub chain_more : (end : End) (moves : List Move) (stage k : ℕ) (link next : Option ℕ) → Step end moves stage k link next
    → (j : ℕ) → (j ≡ k → ⊥) → (end_at end moves j ≡ stage) × (j < bound link)
    → (end_at end moves j ≡ stage) × (j < bound next)
chain_more end moves stage k link next s j ne o =
    let e : bound link ≡ k + 1 = ap bound s.is in
    (o.0, ⊎_elim (λ l. l) (λ l. absurd (s.right.last j l (omega (arith, o.1)) o.0)) (cases_lt j (bound next)))
