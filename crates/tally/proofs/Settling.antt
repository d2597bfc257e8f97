-- After as many rounds as there are stages, one more changes nothing: for reach and shortest always, and for longest
-- where no walk has more moves than there are stages.
use Rattle.std.proofs.Common.{◌≡◌, ℕ, zero, suc, ◌+◌, ◌<◌, ◌≤◌, min, Bool, T, ◌⊎◌, List, [], ◌∷◌, map, length, sym}
use Rattle.std.proofs.Common.{refl, ap, Some, true, false, ◌∙◌, subst, inl, inr, not-suc-le-zero, arith}
use Rattle.std.proofs.lemmas.Bool.{cases_eq}
use Rattle.tctl.specs.Graph as timed
use Rattle.tctl.specs.Graph.{size, count, move_at}
use Rattle.tctl.specs.Checker.{at, any_move}
use Rattle.tctl.proofs.Basics.{move_in, card, card_top, minus, minus_in, minus_keeps, minus_less}
use Rattle.tctl.proofs.Endless.{In, in_pull}
use Rattle.program.specs.declared.Move.{Move}
use Rattle.program.specs.Meaning.{Prog}
use Rattle.program.specs.Graphs.{graph, timed_move}
use Rattle.tally.specs.declared.Minutes.{Minutes}
use Rattle.tally.specs.Algebras.{Algebra, Laws, most_sum, reach_algebra, shortest_algebra, longest_algebra}
use Rattle.tally.specs.Walks.{Has, Leads, said, chosen, walks}
use Rattle.tally.specs.Rounds.{rounds, Within}
use Rattle.tally.specs.Sweeps.{Under, Fixed}
use Rattle.tally.proofs.Laws.{reach_laws, minutes_laws}
use Rattle.tally.proofs.Rounds.{rounds_tally}
use Rattle.tally.proofs.Walked.{all_walks_lem}
use Rattle.tally.proofs.Sweeps.{has_within, under_same, under_trans, under_both, under_chosen, chosen_under}

-- A walk under another that has at most k moves, from the same stage.
record WithinMoves {A : Type 0} (K : Algebra A) (moves : List Move) (pass goals : ℕ → Bool) (k s : ℕ)
    (w : List Move) : Type 0 where
  way : List Move
  leads : Leads moves pass goals s way
  few : length way ≤ k
  more : Under K (said K w) (said K way)

module _ {A : Type 0} (K : Algebra A) (laws : Laws K) (moves : List Move) (pass goals : ℕ → Bool) (k : ℕ) where
  -- Where walks of one more move add nothing, a round changes nothing.
  settles : ((s : ℕ) (w : List Move) → Leads moves pass goals s w → length w ≤ suc k
      → WithinMoves K moves pass goals k s w)
      → (s : ℕ) → rounds K moves pass goals k s ≡ rounds K moves pass goals (suc k) s
  settles enough s =
      sym (rounds_tally K laws moves pass goals k s)
      ∙ under_both K laws (chosen K now) (chosen K next)
      (chosen_under K laws (chosen K next) now
      (λ w h.
      let o = (all_walks_lem moves pass goals k s w).0 h in
      under_chosen K laws next w ((all_walks_lem moves pass goals (suc k) s w).1 (o.0, omega (arith, o.1)))))
      (chosen_under K laws (chosen K now) next
      (λ w h.
      let o = (all_walks_lem moves pass goals (suc k) s w).0 h in
      let v = enough s w o.0 o.1 in
      under_trans K laws (said K w) (said K v.way) (chosen K now) v.more
      (under_chosen K laws now v.way ((all_walks_lem moves pass goals k s v.way).1 (v.leads, v.few)))))
      ∙ rounds_tally K laws moves pass goals (suc k) s
    where
      now : List (List Move)
      now = walks moves pass goals k s

      next : List (List Move)
      next = walks moves pass goals (suc k) s

-- Walks without their cycles

abbrev minutes : List Move → ℕ
minutes [] = 0
minutes (m ∷ w) = m.minutes + minutes w

module _ (n : ℕ) (moves : List Move) (within : Within n moves) (goals : ℕ → Bool) where
  -- A walk from s of at most c moves and d minutes.
  record Short (pass : ℕ → Bool) (s c d : ℕ) : Type 0 where
    way : List Move
    leads : Leads moves pass goals s way
    few : length way ≤ c
    soon : minutes way ≤ d

  wider : (pass : ℕ → Bool) (s t : ℕ) (w : List Move) → Leads moves (minus s pass) goals t w
      → Leads moves pass goals t w
  wider pass s t [] h = h
  wider pass s t (m ∷ w) h = (h.0, h.1, minus_in s pass t h.2, wider pass s m.enters w h.3)

  -- A walk either never leaves s, or has a part that starts at s.
  part : (pass : ℕ → Bool) (s t : ℕ) (w : List Move) → Leads moves pass goals t w
      → Leads moves (minus s pass) goals t w ⊎ Short pass s (length w) (minutes w)
  part pass s t [] h = inl h
  part pass s t (m ∷ w) h = go (cases_eq t s) (part pass s m.enters w h.3)
    where
      go : (t ≡ s) ⊎ (t ≡ s → ⊥)
          → Leads moves (minus s pass) goals m.enters w ⊎ Short pass s (length w) (minutes w)
          → Leads moves (minus s pass) goals t (m ∷ w) ⊎ Short pass s (length (m ∷ w)) (minutes (m ∷ w))
      go (inl e) i =
          inr (record {
            way = m ∷ w;
            leads = subst (λ x. Leads moves pass goals x (m ∷ w)) e h;
            few = omega arith;
            soon = omega arith;
          })
      go (inr d) (inl i) = inl (h.0, h.1, minus_keeps s pass t h.2 d, i)
      go (inr d) (inr v) =
          inr (record { way = v.way; leads = v.leads; few = omega (arith, v.few); soon = omega (arith, v.soon) })

  -- A walk need not have more moves than there are stages to pass.
  abbrev Shortens : ℕ → Type 0
  Shortens c =
      (pass : ℕ → Bool) (k s : ℕ) (w : List Move) → length w ≤ k → card pass n ≤ c → Leads moves pass goals s w
      → Short pass s c (minutes w)

  fewer : (pass : ℕ → Bool) (s : ℕ) (m : Move) (w : List Move) → Leads moves pass goals s (m ∷ w)
      → card (minus s pass) n < card pass n
  fewer pass s m w h =
      minus_less s pass n (subst (λ x. x < n) h.1 (has_within n moves within m h.0).0) h.2

  shortens_suc : (c : ℕ) → Shortens c → Shortens (suc c)
  shortens_suc c ih pass k s [] lw l h = record { way = []; leads = h; few = omega arith; soon = omega arith }
  shortens_suc c ih pass zero s (m ∷ w) lw l h = absurd (not-suc-le-zero lw)
  shortens_suc c ih pass (suc k) s (m ∷ w) lw l h =
      go (part pass s m.enters w h.3) (shortens_suc c ih pass k s)
    where
      go : Leads moves (minus s pass) goals m.enters w ⊎ Short pass s (length w) (minutes w)
          → ((v : List Move) → length v ≤ k → card pass n ≤ suc c → Leads moves pass goals s v
          → Short pass s (suc c) (minutes v))
          → Short pass s (suc c) (minutes (m ∷ w))
      go (inl i) again =
          let less = fewer pass s m w h in
          let o = ih (minus s pass) (length w) m.enters w (omega arith) (omega arith) i in
          record {
            way = m ∷ o.way;
            leads = (h.0, h.1, h.2, wider pass s m.enters o.way o.leads);
            few = omega (arith, o.few);
            soon = omega (arith, o.soon);
          }
      go (inr v) again =
          let o = again v.way (omega (arith, v.few)) l v.leads in
          record { way = o.way; leads = o.leads; few = o.few; soon = omega (arith, o.soon, v.soon) }

  shortens : (c : ℕ) → Shortens c
  shortens zero pass k s [] lw l h = record { way = []; leads = h; few = omega arith; soon = omega arith }
  shortens zero pass k s (m ∷ w) lw l h = let less = fewer pass s m w h in absurd (omega arith)
  shortens (suc c) pass k s w lw l h = shortens_suc c (shortens c) pass k s w lw l h

  short_walk : (pass : ℕ → Bool) (s : ℕ) (w : List Move) → Leads moves pass goals s w → Short pass s n (minutes w)
  short_walk pass s w h = shortens n pass (length w) s w (omega arith) (card_top pass n) h

-- What is said of one walk

said_reach : (w : List Move) → said reach_algebra w ≡ reach_algebra.start
said_reach [] = refl
said_reach (m ∷ w) = said_reach w

-- There is a walk of so many minutes.
abbrev lasting : ℕ → Minutes 0
lasting d = record { 0 = Some d }

said_short : (w : List Move) → said shortest_algebra w ≡ lasting (min most_sum (minutes w))
said_short [] = refl
said_short (m ∷ w) = ap (λ x. shortest_algebra.before m.minutes x) (said_short w) ∙ ap lasting (omega arith)

module _ (n : ℕ) (moves : List Move) (within : Within n moves) (pass goals : ℕ → Bool) where
  pub reach_settles : Fixed reach_algebra n moves pass goals (rounds reach_algebra moves pass goals n)
  reach_settles s l =
      settles reach_algebra reach_laws moves pass goals n
      (λ s w h few.
      let v = short_walk n moves within goals pass s w h in
      record {
        way = v.way;
        leads = v.leads;
        few = v.few;
        more = under_same reach_algebra reach_laws (said reach_algebra w) (said reach_algebra v.way)
            (said_reach w ∙ sym (said_reach v.way));
      })
      s

  pub short_settles : Fixed shortest_algebra n moves pass goals (rounds shortest_algebra moves pass goals n)
  short_settles s l =
      settles shortest_algebra (minutes_laws false) moves pass goals n
      (λ s w h few.
      let v = short_walk n moves within goals pass s w h in
      record { way = v.way; leads = v.leads; few = v.few; more = sooner w v.way v.soon })
      s
    where
      sooner : (w v : List Move) → minutes v ≤ minutes w
          → Under shortest_algebra (said shortest_algebra w) (said shortest_algebra v)
      sooner w v h =
          ap (λ x. shortest_algebra.choice x (said shortest_algebra v)) (said_short w)
          ∙ ap (shortest_algebra.choice (lasting (min most_sum (minutes w)))) (said_short v)
          ∙ ap lasting (omega arith) ∙ sym (said_short v)

  pub long_settles : ((s : ℕ) (w : List Move) → Leads moves pass goals s w → length w ≤ n)
      → Fixed longest_algebra n moves pass goals (rounds longest_algebra moves pass goals n)
  long_settles none-longer s l =
      settles longest_algebra (minutes_laws true) moves pass goals n
      (λ s w h few.
      record {
        way = w;
        leads = h;
        few = none-longer s w h;
        more = (minutes_laws true).idempotent (said longest_algebra w);
      })
      s

-- Walks that leave only stages of a set from which the set has to be left

has_at : (moves : List Move) (m : Move) → Has moves m
    → (k : ℕ) × (k < length (map timed_move moves)) × (move_in (map timed_move moves) k ≡ timed_move m)
has_at [] m h = absurd h
has_at (x ∷ moves) m (inl e) = (0, omega arith, ap timed_move e)
has_at (x ∷ moves) m (inr h) = let o = has_at moves m h in (suc o.0, omega (arith, o.1), o.2)

module _ (p : Prog) (from : (k : ℕ) → k < count (graph p) → (move_at (graph p) k).leaves < size (graph p))
    (set : List Bool) (pass goals : ℕ → Bool)
    (inside : (s : ℕ) (m : Move) (w : List Move) → Leads p.moves pass goals s (m ∷ w) → T (at set s)) where
  few_from : (i s : ℕ) (w : List Move) → (In (graph p) from any_move set i s → ⊥) → Leads p.moves pass goals s w
      → length w ≤ i
  few_from i s [] d h = omega arith
  few_from zero s (m ∷ w) d h = absurd (d (inside s m w h))
  few_from (suc i) s (m ∷ w) d h =
      let o = has_at p.moves m h.0 in
      let fewer =
      few_from i m.enters w
      (λ t. d
      (in_pull (graph p) from any_move set i s (inside s m w h) (
        o.0,
        o.1,
        ap (λ (x : timed.Move). x.leaves) o.2 ∙ h.1,
        tt,
        subst (λ x. In (graph p) from any_move set i x) (ap (λ (x : timed.Move). x.enters) (sym o.2)) t,
      )))
      h.3 in
      omega arith

  -- A walk outside the part that need not be left has at most as many moves as turns were made.
  pub outside_few : (i : ℕ) → ((s : ℕ) → T (pass s) → In (graph p) from any_move set i s → ⊥)
      → (s : ℕ) (w : List Move) → Leads p.moves pass goals s w → length w ≤ i
  outside_few i out s [] h = omega arith
  outside_few i out s (m ∷ w) h = few_from i s (m ∷ w) (out s h.2) h
