-- The sets that the untils compute are the theory's lists.
use Rattle.std.proofs.Common.{◌≡◌, ℕ, suc, ◌-◌, ◌<◌, ◌≤◌, Bool, true, false, leb, List, map, length, get_or, sym, refl}
use Rattle.std.proofs.Common.{ap, ◌∙◌, subst}
use Rattle.std.proofs.lemmas.List.{length-map}
use Rattle.tctl.specs.Graph.{Graph, Stage, size}
use Rattle.tctl.specs.Checker.{non, none, shortest, longest, tally, table, at, some?, most?, least?, open?, endless}
use Rattle.tctl.specs.Checker.{into, any_move, some_list, each_list, ◌and◌, ◌or◌}
use Rattle.tctl.specs.Rules.{most, least}
use Rattle.tctl.proofs.Basics.{table_at}
use Rattle.program.specs.declared.Move.{Move}
use Rattle.program.specs.Graphs.{timed_stage, timed_move}
use Rattle.tally.specs.Algebras.{most_sum, reach_algebra, shortest_algebra, longest_algebra}
use Rattle.tally.specs.Walks.{among, tallied}
use Rattle.tally.specs.Rounds.{Within}
use Rattle.tally.proofs.Laws.{reach_laws, minutes_laws}
use Rattle.sheet.specs.declared.paths.Paths.{Paths}
use Rattle.settle.specs.Rows.{row}
use Rattle.sheet.specs.declared.stage_set.StageSet.{StageSet}
use Rattle.sheet.specs.Sets.{stage_count, has}
use Rattle.sheet.specs.Told.{reaches, short_to, long_from}
use Rattle.sheet.proofs.Sets.{table_same}
use Rattle.sheet.proofs.Homs.{told_reach, told_short, told_long}

-- a test, in a list of where it is true
pub in_table : (n : ℕ) (x : ℕ → Bool) (L : List Bool) → table n x ≡ L → (s : ℕ) → s < n → x s ≡ at L s
in_table n x L e s h = sym (table_at x false n s h) ∙ ap (λ (P : List Bool). at P s) e

-- what a word says, if the row is a list
pub in_row : (n : ℕ) (ws : List ℕ) (L : List Bool) → row n ws ≡ L → (s : ℕ) → s < n → among ws s ≡ at L s
in_row n ws = in_table n (among ws)

-- Two tests agree on the first n stages.
abbrev Agree : ℕ → (ℕ → Bool) → (ℕ → Bool) → Type 0
Agree n x y = (s : ℕ) → s < n → x s ≡ y s

module _ (S : List Stage) (moves : List Move) (f g : ℕ → Bool) where
  abbrev p : Graph
  p = record { stages = S; moves = map timed_move moves }

  -- what the sets that the code computes say, of n stages

  abbrev Passes : ℕ → (ℕ → Bool) → Type 0
  Passes n pass = Agree n pass (λ s. non (open? p s) or f s)

  -- silent or not g
  abbrev Misses : ℕ → (ℕ → Bool) → Type 0
  Misses n missed = Agree n missed (λ s. non (open? p s and g s))

  -- open, not f, not g
  abbrev Breaks : ℕ → (ℕ → Bool) → Type 0
  Breaks n bad = Agree n bad (λ s. open? p s and (non (f s) and non (g s)))

  abbrev Reaches : ℕ → (pass goals reached : ℕ → Bool) → Type 0
  Reaches n pass goals reached = Agree n reached (λ s. reaches 0 (tallied reach_algebra moves pass goals n s))

  abbrev Endless : ℕ → (set ever : ℕ → Bool) → Type 0
  Endless n set ever = table n ever ≡ endless p any_move (table n set) n

  abbrev Lasts : ℕ → ℕ → (pass goals long : ℕ → Bool) → Type 0
  Lasts n c pass goals long = Agree n long (λ s. long_from c (tallied longest_algebra moves pass goals n s))

  abbrev SomeMost : ℕ → Type 0
  SomeMost n =
      (c : ℕ) → c < most_sum → (pass soon out : ℕ → Bool)
      → Passes n pass
      → Agree n soon (λ s. short_to c (tallied shortest_algebra moves pass g n s))
      → Agree n out (λ s. open? p s and soon s)
      → table n out ≡ some_list p (table n f) (most c) (table n g)

  abbrev SomeLeast : ℕ → Type 0
  SomeLeast n =
      (c : ℕ) → c ≤ most_sum → (pass reached lead ever rest long out : ℕ → Bool)
      → Passes n pass
      → Reaches n pass g reached
      → Agree n lead (λ s. pass s and reached s)
      → Endless n lead ever
      → Agree n rest (λ s. pass s and non (ever s))
      → Lasts n c rest g long
      → Agree n out (λ s. open? p s and (ever s or long s))
      → table n out ≡ some_list p (table n f) (least c) (table n g)

  abbrev EachMost : ℕ → Type 0
  EachMost n =
      (c : ℕ) → suc c ≤ most_sum → (missed bad fails ever rest all long out : ℕ → Bool)
      → Misses n missed
      → Breaks n bad
      → Reaches n missed bad fails
      → Endless n missed ever
      → Agree n rest (λ s. missed s and non (ever s))
      → Agree n all (λ s. true)
      → Lasts n (suc c) rest all long
      → Agree n out (λ s. open? p s and non (fails s or (ever s or long s)))
      → table n out ≡ each_list p (table n f) (most c) (table n g)

  abbrev EachLeast : ℕ → Type 0
  EachLeast n =
      (c : ℕ) → c - 1 < most_sum → (missed bad fails ever doomed pass sources goals soon out : ℕ → Bool)
      → Misses n missed
      → Breaks n bad
      → Reaches n missed bad fails
      → Endless n missed ever
      → Agree n doomed (λ s. fails s or ever s)
      → Passes n pass
      → Agree n sources (into any_move p.moves (table n doomed))
      → Agree n goals (λ s. (open? p s and non (f s)) or (pass s and sources s))
      → Agree n soon (λ s. short_to (c - 1) (tallied shortest_algebra moves pass goals n s))
      → Agree n out (λ s. open? p s and non (doomed s or (leb 1 c and soon s)))
      → table n out ≡ each_list p (table n f) (least c) (table n g)

  module _ (within : Within (size p) moves) where
    abbrev n : ℕ
    n = size p

    abbrev F : List Bool
    F = table n f

    abbrev G : List Bool
    G = table n g

    -- silent or f
    abbrev Pass : List Bool
    Pass = table n (λ s. non (open? p s) or at F s)

    -- silent or not g
    abbrev N : List Bool
    N = table n (λ s. non (open? p s and at G s))

    -- open, not f, not g
    abbrev B : List Bool
    B = table n (λ s. open? p s and (non (at F s) and non (at G s)))

    in_list : (x : ℕ → Bool) (L : List Bool) → table n x ≡ L → (s : ℕ) → s < n → x s ≡ at L s
    in_list = in_table n

    pass_list : (pass : ℕ → Bool) → Passes n pass → table n pass ≡ Pass
    pass_list pass e =
        table_same pass (λ s. non (open? p s) or at F s) n
        (λ s h. e s h ∙ ap (λ y. non (open? p s) or y) (in_list f F refl s h))

    n_list : (missed : ℕ → Bool) → Misses n missed → table n missed ≡ N
    n_list missed e =
        table_same missed (λ s. non (open? p s and at G s)) n
        (λ s h. e s h ∙ ap (λ y. non (open? p s and y)) (in_list g G refl s h))

    b_list : (bad : ℕ → Bool) → Breaks n bad → table n bad ≡ B
    b_list bad e =
        table_same bad (λ s. open? p s and (non (at F s) and non (at G s))) n
        (λ s h.
        e s h ∙ ap (λ y. open? p s and (non y and non (g s))) (in_list f F refl s h)
        ∙ ap (λ y. open? p s and (non (at F s) and non y)) (in_list g G refl s h))

    minus_list : (a x b : ℕ → Bool) (A X : List Bool) → table n a ≡ A → table n x ≡ X
        → Agree n b (λ s. a s and non (x s)) → table n b ≡ table n (λ s. at A s and non (at X s))
    minus_list a x b A X ea ex e =
        table_same b (λ s. at A s and non (at X s)) n
        (λ s h. e s h ∙ ap (λ y. y and non (x s)) (in_list a A ea s h) ∙ ap (λ y. at A s and non y)
        (in_list x X ex s h))

    -- what the tallies tell, over lists
    reach_at : (pass goals reached : ℕ → Bool) (P Q : List Bool) → table n pass ≡ P → table n goals ≡ Q
        → Reaches n pass goals reached → (s : ℕ) → s < n
        → reached s ≡ some? (get_or (tally p shortest P Q n) s none)
    reach_at pass goals reached P Q ep eq e s h =
        e s h ∙ told_reach S moves within pass goals 0 n s h reach_laws
        ∙ ap (λ (x : List Bool). some? (get_or (tally p shortest x (table n goals) n) s none)) ep
        ∙ ap (λ (x : List Bool). some? (get_or (tally p shortest P x n) s none)) eq

    short_at : (pass goals : ℕ → Bool) (P Q : List Bool) → table n pass ≡ P → table n goals ≡ Q
        → (c : ℕ) → c < most_sum → (s : ℕ) → s < n
        → short_to c (tallied shortest_algebra moves pass goals n s)
        ≡ most? c (get_or (tally p shortest P Q n) s none)
    short_at pass goals P Q ep eq c b s h =
        told_short S moves within pass goals c n s h (minutes_laws false) b
        ∙ ap (λ (x : List Bool). most? c (get_or (tally p shortest x (table n goals) n) s none)) ep
        ∙ ap (λ (x : List Bool). most? c (get_or (tally p shortest P x n) s none)) eq

    long_at : (pass goals long : ℕ → Bool) (P Q : List Bool) → table n pass ≡ P → table n goals ≡ Q
        → (c : ℕ) → c ≤ most_sum → Lasts n c pass goals long → (s : ℕ) → s < n
        → long s ≡ least? c (get_or (tally p longest P Q n) s none)
    long_at pass goals long P Q ep eq c b e s h =
        e s h ∙ told_long S moves within pass goals c n s h (minutes_laws true) b
        ∙ ap (λ (x : List Bool). least? c (get_or (tally p longest x (table n goals) n) s none)) ep
        ∙ ap (λ (x : List Bool). least? c (get_or (tally p longest P x n) s none)) eq

    some_most : SomeMost n
    some_most c b pass soon out e et eo =
        let ep = pass_list pass e in
        table_same out (λ s. open? p s and most? c (get_or (tally p shortest Pass G n) s none)) n
        (λ s h. eo s h ∙ ap (λ x. open? p s and x) (et s h ∙ short_at pass g Pass G ep refl c b s h))

    some_least : SomeLeast n
    some_least c b pass reached lead ever rest long out e er el ex em et eo =
        let ep = pass_list pass e in
        let Q = table n (λ s. at Pass s and some? (get_or (tally p shortest Pass G n) s none)) in
        let qe : table n lead ≡ Q =
        table_same lead (λ s. at Pass s and some? (get_or (tally p shortest Pass G n) s none)) n
        (λ s h.
        el s h ∙ ap (λ y. y and reached s) (in_list pass Pass ep s h)
        ∙ ap (λ y. at Pass s and y) (reach_at pass g reached Pass G ep refl er s h)) in
        let X = endless p any_move Q n in
        let xe : table n ever ≡ X = ex ∙ ap (λ (y : List Bool). endless p any_move y n) qe in
        let P2 = table n (λ s. at Pass s and non (at X s)) in
        let pe = minus_list pass ever rest Pass X ep xe em in
        table_same out (λ s. open? p s and (at X s or least? c (get_or (tally p longest P2 G n) s none))) n
        (λ s h.
        eo s h ∙ ap (λ y. open? p s and (y or long s)) (in_list ever X xe s h)
        ∙ ap (λ y. open? p s and (at X s or y)) (long_at rest g long P2 G pe refl c b et s h))

    each_most : EachMost n
    each_most c b missed bad fails ever rest all long out en eb er ex em ea et eo =
        let ne = n_list missed en in
        let be = b_list bad eb in
        let X = endless p any_move N n in
        let xe : table n ever ≡ X = ex ∙ ap (λ (y : List Bool). endless p any_move y n) ne in
        let M = table n (λ s. at N s and non (at X s)) in
        let me = minus_list missed ever rest N X ne xe em in
        let All = table n (λ (s : ℕ). true) in
        let ae : table n all ≡ All = table_same all (λ s. true) n ea in
        table_same out
        (λ s. open? p s and non (some? (get_or (tally p shortest N B n) s none) or (at X s or least? (suc c)
        (get_or (tally p longest M All n) s none)))) n
        (λ s h.
        eo s h ∙ ap (λ y. open? p s and non (y or (ever s or long s)))
        (reach_at missed bad fails N B ne be er s h)
        ∙ ap (λ y. open? p s and non (some? (get_or (tally p shortest N B n) s none) or (y or long s)))
        (in_list ever X xe s h)
        ∙ ap (λ y. open? p s and non (some? (get_or (tally p shortest N B n) s none) or (at X s or y)))
        (long_at rest all long M All me ae (suc c) b et s h))

    each_least : EachLeast n
    each_least c b missed bad fails ever doomed pass sources goals soon out en eb er ex ev e ei eg et eo =
        let ne = n_list missed en in
        let be = b_list bad eb in
        let ep = pass_list pass e in
        let X = endless p any_move N n in
        let xe : table n ever ≡ X = ex ∙ ap (λ (y : List Bool). endless p any_move y n) ne in
        let V = table n (λ s. some? (get_or (tally p shortest N B n) s none) or at X s) in
        let ve : table n doomed ≡ V =
        table_same doomed (λ s. some? (get_or (tally p shortest N B n) s none) or at X s) n
        (λ s h.
        ev s h ∙ ap (λ y. y or ever s) (reach_at missed bad fails N B ne be er s h)
        ∙ ap (λ y. some? (get_or (tally p shortest N B n) s none) or y) (in_list ever X xe s h)) in
        let H = table n (λ s. (open? p s and non (at F s)) or (at Pass s and into any_move p.moves V s)) in
        let he : table n goals ≡ H =
        table_same goals (λ s. (open? p s and non (at F s)) or (at Pass s and into any_move p.moves V s)) n
        (λ s h.
        eg s h ∙ ap (λ y. (open? p s and non y) or (pass s and sources s)) (in_list f F refl s h)
        ∙ ap (λ y. (open? p s and non (at F s)) or (y and sources s)) (in_list pass Pass ep s h)
        ∙ ap (λ y. (open? p s and non (at F s)) or (at Pass s and y))
        (ei s h ∙ ap (λ (y : List Bool). into any_move p.moves y s) ve)) in
        table_same out
        (λ s. open? p s and non (at V s or (leb 1 c and most? (c - 1) (get_or (tally p shortest Pass H n) s none))))
        n
        (λ s h.
        eo s h ∙ ap (λ y. open? p s and non (y or (leb 1 c and soon s))) (in_list doomed V ve s h)
        ∙ ap (λ y. open? p s and non (at V s or (leb 1 c and y)))
        (et s h ∙ short_at pass goals Pass H ep he (c - 1) b s h))

-- The same, of a program's own stages.
module _ (paths : Paths) (f g : StageSet) where
  abbrev shown_stages : List Stage
  shown_stages = map timed_stage paths.stages.now

  abbrev moves' : List Move
  moves' = paths.moves.now

  as_many : length shown_stages ≡ stage_count paths
  as_many = length-map paths.stages.now timed_stage

  inside : Within (length shown_stages) moves'
  inside = subst (λ n. Within n moves') (sym as_many) paths.within

  pub some_most_set : SomeMost shown_stages moves' (has f) (has g) (stage_count paths)
  some_most_set =
      subst (SomeMost shown_stages moves' (has f) (has g)) as_many
      (some_most shown_stages moves' (has f) (has g) inside)

  pub some_least_set : SomeLeast shown_stages moves' (has f) (has g) (stage_count paths)
  some_least_set =
      subst (SomeLeast shown_stages moves' (has f) (has g)) as_many
      (some_least shown_stages moves' (has f) (has g) inside)

  pub each_most_set : EachMost shown_stages moves' (has f) (has g) (stage_count paths)
  each_most_set =
      subst (EachMost shown_stages moves' (has f) (has g)) as_many
      (each_most shown_stages moves' (has f) (has g) inside)

  pub each_least_set : EachLeast shown_stages moves' (has f) (has g) (stage_count paths)
  each_least_set =
      subst (EachLeast shown_stages moves' (has f) (has g)) as_many
      (each_least shown_stages moves' (has f) (has g) inside)
