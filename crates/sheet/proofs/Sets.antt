-- Sets as lists and as rows of words.
use Rattle.std.proofs.Common.{◌≡◌, ℕ, zero, suc, ◌+◌, ◌<◌, ◌≤◌, Bool, true, false, eqb, List, ◌∷◌, map, length}
use Rattle.std.proofs.Common.{get_or, sym, refl, ap, ◌∙◌, subst, ⊎_elim, arith}
use Rattle.std.proofs.lemmas.List.{get_or-map, length-map}
use Rattle.std.proofs.lemmas.Bool.{cases_eq, eq-eqb, ne_eqb}
use Rattle.tctl.specs.Graph.{Move, Graph}
use Rattle.program.specs.declared.Stage.{Stage}
use Rattle.program.specs.declared.Move as program
use Rattle.program.specs.Meaning.{no_move}
use Rattle.program.specs.Graphs.{timed_stage, timed_move, graph_of}
use Rattle.settle.specs.Rows.{row}
use Rattle.tally.specs.Walks.{among}
use Rattle.tally.specs.Rounds.{Within}
use Rattle.tctl.specs.Runs.{Sound}
use Rattle.tctl.specs.Checker.{table, tab_from, at, into, endless, ◌and◌, ◌or◌}
use Rattle.tctl.proofs.Basics.{table_at}
use Rattle.sheet.specs.declared.tables.Tables.{Tables}
use Rattle.sheet.specs.Rows.{shrunk}
use Rattle.sheet.specs.Tables.{AreSpent, SameSlices}

tab_same : {A : Type 0} (f h : ℕ → A) (n i : ℕ) → ((s : ℕ) → i ≤ s → s < i + n → f s ≡ h s) → tab_from f n i
    ≡ tab_from h n i
tab_same f h zero i e = refl
tab_same f h (suc n) i e =
    ap (λ x. x ∷ tab_from f n (suc i)) (e i (omega arith) (omega arith))
    ∙ ap (λ xs. h i ∷ xs) (tab_same f h n (suc i) (λ s l u. e s (omega arith) (omega arith)))

-- Tables are equal where their entries are.
pub table_same : {A : Type 0} (f h : ℕ → A) (n : ℕ) → ((s : ℕ) → s < n → f s ≡ h s) → table n f ≡ table n h
table_same f h n e = tab_same f h n 0 (λ s l u. e s (omega arith))

or_join : (a b c : Bool) → ((a or b) or c) ≡ (a or (b or c))
or_join true b c = refl
or_join false b c = refl

pub or_none : (a : Bool) → (a or false) ≡ a
or_none true = refl
or_none false = refl

-- One move of a loop that adds the stages with a move of the sort into a set.
pub into_add : (sort : Move → Bool) (S : List Bool) (m : Move) (ms : List Move) (s : ℕ) (x y : Bool)
    → y ≡ (x or (eqb m.leaves s and (sort m and at S m.enters)))
    → (y or into sort ms S s) ≡ (x or into sort (m ∷ ms) S s)
into_add sort S m ms s x y e =
    ap (λ b. b or into sort ms S s) e
    ∙ or_join x (eqb m.leaves s and (sort m and at S m.enters)) (into sort ms S s)

or_off : (t x z : Bool) → t ≡ false → (x or (t and z)) ≡ x
or_off t x z e = ap (λ v. x or (v and z)) e ∙ or_none x

-- The same, from what becomes of the stage that the move leaves, and of the others.
pub into_step : (sort : Move → Bool) (S : List Bool) (m : Move) (ms : List Move) (s : ℕ) (x y : Bool)
    → (m.leaves ≡ s → y ≡ (x or (sort m and at S m.enters))) → ((m.leaves ≡ s → ⊥) → y ≡ x)
    → (y or into sort ms S s) ≡ (x or into sort (m ∷ ms) S s)
into_step sort S m ms s x y here other =
    let enters = sort m and at S m.enters in
    into_add sort S m ms s x y
    (⊎_elim (λ e. here e ∙ ap (λ v. x or (v and enters)) (sym (eq-eqb m.leaves s e)))
    (λ ne. other ne ∙ sym (or_off (eqb m.leaves s) x enters (ne_eqb m.leaves s ne)))
    (cases_eq m.leaves s))

-- Once a round of removal changes nothing, no later one does.
pub endless_settled : (p : Graph) (sort : Move → Bool) (S : List Bool) (i : ℕ) → endless p sort S i
    ≡ endless p sort S (suc i)
    → (j : ℕ) → i ≤ j → endless p sort S i ≡ endless p sort S j
endless_settled p sort S i e zero l = let z : i ≡ 0 = omega arith in ap (endless p sort S) z
endless_settled p sort S i e (suc j) l =
    ⊎_elim (λ (z : i ≡ suc j). ap (endless p sort S) z)
    (λ d. e ∙ ap (shrunk p sort) (endless_settled p sort S i e j (omega arith)))
    (cases_eq i (suc j))

-- an entry of a row
pub row_at : (n : ℕ) (ws : List ℕ) (s : ℕ) → s < n → at (row n ws) s ≡ among ws s
row_at n ws s h = table_at (among ws) false n s h

-- A table of as many entries as there are stages is one of the graph.
pub table_stages : (f : ℕ → Bool) (stages : List Stage) → table (length stages) f
    ≡ table (length (map timed_stage stages)) f
table_stages f stages = ap (λ n. table n f) (sym (length-map stages timed_stage))

-- The table of what says a test's answer for each stage is the test's table of the graph.
pub same_stages : (stages : List Stage) (x f : ℕ → Bool)
    → ((s : ℕ) → s < length stages → x s ≡ f s)
    → table (length stages) x ≡ table (length (map timed_stage stages)) f
same_stages stages x f e = table_same x f (length stages) e ∙ table_stages f stages

-- tables that are used once more
pub spent_more : (n : ℕ) (was mid after : Tables) → AreSpent n was mid → AreSpent n mid after → AreSpent n was after
spent_more n was mid after one two =
    record {
      reached = record {
        cleared = two.reached.cleared;
        rest = λ i h. two.reached.rest i h ∙ one.reached.rest i h;
      };
      shortest = record {
        cleared = two.shortest.cleared;
        rest = λ i h. two.shortest.rest i h ∙ one.shortest.rest i h;
      };
      longest = record {
        cleared = two.longest.cleared;
        rest = λ i h. two.longest.rest i h ∙ one.longest.rest i h;
      };
    }

pub same_more : (was mid after : Tables) → SameSlices was mid → SameSlices mid after → SameSlices was after
same_more was mid after one two =
    record {
      reached = record {
        name = two.reached.name ∙ one.reached.name;
        len = two.reached.len ∙ one.reached.len;
      };
      shortest = record {
        name = two.shortest.name ∙ one.shortest.name;
        len = two.shortest.len ∙ one.shortest.len;
      };
      longest = record {
        name = two.longest.name ∙ one.longest.name;
        len = two.longest.len ∙ one.longest.len;
      };
    }

-- a move of the graph
pub timed_move_at : (moves : List program.Move) (k : ℕ) → k < length moves
    → get_or (map timed_move moves) k (timed_move no_move) ≡ timed_move (get_or moves k no_move)
timed_move_at moves k h = get_or-map timed_move moves k no_move (timed_move no_move) h

-- The moves of a sound graph join stages of the program.
pub sound_within : (stages : List Stage) (moves : List program.Move) → Sound (graph_of stages moves)
    → Within (length stages) moves
sound_within stages moves sound k h =
    let l : k < length (map timed_move moves) = subst (λ n. k < n) (sym (length-map moves timed_move)) h in
    let same = timed_move_at moves k h in
    let as_many = length-map stages timed_stage in (
      subst (λ n. (get_or moves k no_move).leaves < n) as_many
          (subst (λ (m : Move). m.leaves < length (map timed_stage stages)) same (sound.from k l)),
      subst (λ n. (get_or moves k no_move).enters < n) as_many
          (subst (λ (m : Move). m.enters < length (map timed_stage stages)) same (sound.to k l)),
    )
