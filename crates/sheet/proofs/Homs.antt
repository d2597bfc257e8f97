-- What the tallies of the code tell is what the theory's tallies tell.
use Rattle.std.proofs.Common.{◌≡◌, ℕ, zero, suc, ◌<◌, ◌≤◌, min, Bool, true, false, cond, eqb, List, [], ◌∷◌, map}
use Rattle.std.proofs.Common.{Some, None, length, get_or, sym, refl, ap, ◌∙◌, ⊎_elim, arith}
use Rattle.std.proofs.lemmas.Bool.{cases_lt, le-leb, lt-leb}
use Rattle.program.specs.declared.Move.{Move}
use Rattle.program.specs.Graphs.{timed_move}
use Rattle.tally.specs.declared.Reach.{Reach}
use Rattle.tally.specs.declared.Minutes.{Minutes}
use Rattle.tally.specs.Algebras.{Algebra, Laws, most_sum, reach_algebra, shortest_algebra, longest_algebra}
use Rattle.tally.specs.Walks.{tallied}
use Rattle.tally.specs.Rounds.{Within, over, begins, rounds}
use Rattle.tally.proofs.Rounds.{within_tail, rounds_tally}
use Rattle.tctl.specs.Graph.{Graph, Stage, size}
use Rattle.tctl.specs.Checker as th
use Rattle.tctl.specs.Checker.{Entry, none, sum, shortest, longest, table, at, some?, most?, least?}
use Rattle.tctl.proofs.Basics.{table_at}
use Rattle.sheet.specs.Told.{reaches, short_to, long_from}

-- h carries the theory's tally k over to the tally K.
pub record Hom {A : Type 0} (k : th.Kind) (K : Algebra A) (h : Entry → A) : Type 0 where
  pub to_none : h none ≡ K.none
  pub to_start : h (sum 0) ≡ K.start
  pub to_choice : (u v : Entry) → h (th.choice k u v) ≡ K.choice (h u) (h v)
  pub to_before : (d : ℕ) (u : Entry) → h (th.after d u) ≡ K.before d (h u)

module _ {A : Type 0} (k : th.Kind) (K : Algebra A) (h : Entry → A) (hom : Hom k K h) (S : List Stage)
    (moves : List Move) (within : Within (length S) moves) (pass goals : ℕ → Bool) where
  -- the graph of the moves
  abbrev p : Graph
  p = record { stages = S; moves = map timed_move moves }

  over_hom : (was : List Entry) (f : ℕ → A) → ((t : ℕ) → t < size p → f t ≡ h (get_or was t none)) → (ms : List Move)
      → Within (size p) ms → (s : ℕ) → over K f ms s ≡ h (th.over k (map timed_move ms) was s)
  over_hom was f e [] w s = sym hom.to_none
  over_hom was f e (m ∷ ms) w s =
      let one : K.before m.minutes (f m.enters) ≡ h (th.after m.minutes (get_or was m.enters none)) =
      ap (K.before m.minutes) (e m.enters (w 0 (omega arith)).1)
      ∙ sym (hom.to_before m.minutes (get_or was m.enters none)) in
      go (eqb m.leaves s) one (over_hom was f e ms (within_tail K (size p) m ms w) s)
    where
      go : (b : Bool) → K.before m.minutes (f m.enters) ≡ h (th.after m.minutes (get_or was m.enters none))
          → over K f ms s ≡ h (th.over k (map timed_move ms) was s)
          → cond b (K.choice (K.before m.minutes (f m.enters)) (over K f ms s)) (over K f ms s)
          ≡ h (cond b (th.choice k (th.after m.minutes (get_or was m.enters none))
          (th.over k (map timed_move ms) was s)) (th.over k (map timed_move ms) was s))
      go true one ih =
          ap (λ x. K.choice x (over K f ms s)) one
          ∙ ap (K.choice (h (th.after m.minutes (get_or was m.enters none)))) ih
          ∙ sym (hom.to_choice (th.after m.minutes (get_or was m.enters none))
          (th.over k (map timed_move ms) was s))
      go false one ih = ih

  begins_hom : (s : ℕ) → s < size p → begins K goals s ≡ h (th.begin (table (size p) goals) s)
  begins_hom s l = go (goals s) ∙ ap (λ b. h (cond b (sum 0) none)) (sym (table_at goals false (size p) s l))
    where
      go : (b : Bool) → cond b K.start K.none ≡ h (cond b (sum 0) none)
      go true = sym hom.to_start
      go false = sym hom.to_none

  pub rounds_hom : (i s : ℕ) → s < size p → rounds K moves pass goals i s
      ≡ h (get_or (th.tally p k (table (size p) pass) (table (size p) goals) i) s none)
  rounds_hom zero s l = begins_hom s l ∙ ap h (sym (table_at (th.begin (table (size p) goals)) none (size p) s l))
  rounds_hom (suc i) s l =
      let was = th.tally p k (table (size p) pass) (table (size p) goals) i in
      let P = table (size p) pass in
      let G = table (size p) goals in
      let rest : cond (pass s) (over K (rounds K moves pass goals i) moves s) K.none
      ≡ h (cond (at P s) (th.over k p.moves was s) none) =
      go (pass s) _ (th.over k p.moves was s) (over_hom was (rounds K moves pass goals i)
      (rounds_hom i) moves within s)
      ∙ ap (λ b. h (cond b (th.over k p.moves was s) none)) (sym (table_at pass false (size p) s l)) in
      ap (λ x. K.choice x (cond (pass s) (over K (rounds K moves pass goals i) moves s)
      K.none)) (begins_hom s l)
      ∙ ap (K.choice (h (th.begin G s))) rest
      ∙ sym (hom.to_choice (th.begin G s) (cond (at P s) (th.over k p.moves was s) none))
      ∙ ap h (sym (table_at (λ x. th.choice k (th.begin G x) (cond (at P x) (th.over k p.moves was x) none)) none
      (size p) s l))
    where
      go : (b : Bool) (x : A) (y : Entry) → x ≡ h y → cond b x K.none ≡ h (cond b y none)
      go true x y e = e
      go false x y e = sym hom.to_none

-- The three tallies

abbrev to_reach : Entry → Reach
to_reach none = record { 0 = false }
to_reach (sum a) = record { 0 = true }

-- There is a walk of so many minutes.
abbrev lasting : {n : ℕ} → ℕ → Minutes n
lasting d = record { 0 = Some d }

abbrev to_short : Entry → Minutes 0
to_short none = record { 0 = None }
to_short (sum a) = lasting (min most_sum a)

abbrev to_long : Entry → Minutes 1
to_long none = record { 0 = None }
to_long (sum a) = lasting (min most_sum a)

reach_choice : (u v : Entry) → to_reach (th.choice shortest u v) ≡ reach_algebra.choice (to_reach u) (to_reach v)
reach_choice none v = refl
reach_choice (sum a) none = refl
reach_choice (sum a) (sum b) = refl

reach_before : (d : ℕ) (u : Entry) → to_reach (th.after d u) ≡ to_reach u
reach_before d none = refl
reach_before d (sum a) = refl

short_choice : (u v : Entry) → to_short (th.choice shortest u v) ≡ shortest_algebra.choice (to_short u) (to_short v)
short_choice none v = refl
short_choice (sum a) none = refl
short_choice (sum a) (sum b) = ap lasting (omega arith)

short_before : (d : ℕ) (u : Entry) → to_short (th.after d u) ≡ shortest_algebra.before d (to_short u)
short_before d none = refl
short_before d (sum a) = ap lasting (omega arith)

long_choice : (u v : Entry) → to_long (th.choice longest u v) ≡ longest_algebra.choice (to_long u) (to_long v)
long_choice none v = refl
long_choice (sum a) none = refl
long_choice (sum a) (sum b) = ap lasting (omega arith)

long_before : (d : ℕ) (u : Entry) → to_long (th.after d u) ≡ longest_algebra.before d (to_long u)
long_before d none = refl
long_before d (sum a) = ap lasting (omega arith)

reach_hom : Hom shortest reach_algebra to_reach
reach_hom = record { to_none = refl; to_start = refl; to_choice = reach_choice; to_before = reach_before }

short_hom : Hom shortest shortest_algebra to_short
short_hom = record { to_none = refl; to_start = refl; to_choice = short_choice; to_before = short_before }

long_hom : Hom longest longest_algebra to_long
long_hom = record { to_none = refl; to_start = refl; to_choice = long_choice; to_before = long_before }

reach_told : (c : ℕ) (e : Entry) → reaches c (to_reach e) ≡ some? e
reach_told c none = refl
reach_told c (sum a) = refl

short_told : (c : ℕ) → c < most_sum → (e : Entry) → short_to c (to_short e) ≡ most? c e
short_told c l none = refl
short_told c l (sum a) =
    ⊎_elim (λ m. lt-leb (min most_sum a) c (omega arith) ∙ sym (lt-leb a c m))
    (λ m. le-leb (min most_sum a) c (omega arith) ∙ sym (le-leb a c m))
    (cases_lt c a)

long_told : (c : ℕ) → c ≤ most_sum → (e : Entry) → long_from c (to_long e) ≡ least? c e
long_told c l none = refl
long_told c l (sum a) =
    ⊎_elim (λ m. lt-leb c (min most_sum a) (omega arith) ∙ sym (lt-leb c a m))
    (λ m. le-leb c (min most_sum a) (omega arith) ∙ sym (le-leb c a m))
    (cases_lt a c)

module _ (S : List Stage) (moves : List Move) (within : Within (length S) moves) (pass goals : ℕ → Bool) (c i s : ℕ)
    (l : s < length S) where
  abbrev q : Graph
  q = record { stages = S; moves = map timed_move moves }

  pub told_reach : Laws reach_algebra → reaches c (tallied reach_algebra moves pass goals i s)
      ≡ some? (get_or (th.tally q shortest (table (length S) pass) (table (length S) goals) i) s none)
  told_reach laws =
      ap (reaches c) (rounds_tally reach_algebra laws moves pass goals i s
      ∙ rounds_hom shortest reach_algebra to_reach reach_hom S moves within pass goals i s l)
      ∙ reach_told c (get_or (th.tally q shortest (table (length S) pass) (table (length S) goals) i) s none)

  pub told_short : Laws shortest_algebra → c < most_sum → short_to c (tallied shortest_algebra moves pass
      goals i s) ≡ most? c (get_or (th.tally q shortest (table (length S) pass) (table (length S) goals) i) s none)
  told_short laws b =
      ap (short_to c) (rounds_tally shortest_algebra laws moves pass goals i s
      ∙ rounds_hom shortest shortest_algebra to_short short_hom S moves within pass goals i s l)
      ∙ short_told c b (get_or (th.tally q shortest (table (length S) pass) (table (length S) goals) i) s none)

  pub told_long : Laws longest_algebra → c ≤ most_sum → long_from c (tallied longest_algebra moves pass
      goals i s) ≡ least? c (get_or (th.tally q longest (table (length S) pass) (table (length S) goals) i) s none)
  told_long laws b =
      ap (long_from c) (rounds_tally longest_algebra laws moves pass goals i s
      ∙ rounds_hom longest longest_algebra to_long long_hom S moves within pass goals i s l)
      ∙ long_told c b (get_or (th.tally q longest (table (length S) pass) (table (length S) goals) i) s none)
