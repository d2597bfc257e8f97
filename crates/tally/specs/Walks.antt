-- Walks to a goal, and what a tally says of all of them.
use Rattle.std.specs.Prelude.{◌≡◌, ℕ, zero, suc, ◌≤◌, Bool, cond, T, ◌⊎◌, ◌↔◌, List, [], ◌∷◌, ◌++◌, map, length, ◌==◌}
use Rattle.std.specs.Prelude.{nat_lt, slice_index}
use Rattle.program.specs.declared.Move.{Move}
use Rattle.tally.specs.Algebras.{Algebra}

-- A set is a row of words: a stage is in it where its word is not 0.
abbrev pub among : List ℕ → ℕ → Bool
among ws s = nat_lt 0 (slice_index ws s)

abbrev pub Has : {A : Type 0} → List A → A → Type 0
Has [] x = ⊥
Has (y ∷ ys) x = (y ≡ x) ⊎ Has ys x

-- The moves, made one after the other, lead from s to a goal, and each stage before the last is in the set to pass.
abbrev pub Leads : List Move → (pass goals : ℕ → Bool) → ℕ → List Move → Type 0
Leads moves pass goals s [] = T (goals s)
Leads moves pass goals s (m ∷ walk) =
    Has moves m × (m.leaves ≡ s) × T (pass s) × Leads moves pass goals m.enters walk

-- What a tally says of one walk.
abbrev pub said : {A : Type 0} → Algebra A → List Move → A
said K [] = K.start
said K (m ∷ walk) = K.before m.minutes (said K walk)

-- The choice over the walks of a list.
abbrev pub chosen : {A : Type 0} → Algebra A → List (List Move) → A
chosen K [] = K.none
chosen K (w ∷ ws) = K.choice (said K w) (chosen K ws)

-- The walks that begin with one of the moves that leave s, and go on by one of the walks from where it enters.
abbrev pub onward : (ℕ → List (List Move)) → List Move → ℕ → List (List Move)
onward further [] s = []
onward further (m ∷ ms) s =
    cond (m.leaves == s) (map (λ w. m ∷ w) (further m.enters) ++ onward further ms s) (onward further ms s)

-- All walks of at most k moves from s to a goal, whose stages before the last are in the set to pass.
abbrev pub walks : List Move → (pass goals : ℕ → Bool) → ℕ → ℕ → List (List Move)
walks moves pass goals zero s = cond (goals s) ([] ∷ []) []
walks moves pass goals (suc k) s =
    cond (goals s) ([] ∷ []) [] ++ cond (pass s) (onward (walks moves pass goals k) moves s) []

-- The choice over all those walks.
abbrev pub tallied : {A : Type 0} → Algebra A → List Move → (pass goals : ℕ → Bool) → ℕ → ℕ → A
tallied K moves pass goals k s = chosen K (walks moves pass goals k s)

-- The list of walks has each walk that leads to a goal in at most k moves, and no other.
abbrev pub AllWalks : Type 0
AllWalks =
    (moves : List Move) (pass goals : ℕ → Bool) (k s : ℕ) (w : List Move)
    → Has (walks moves pass goals k s) w ↔ (Leads moves pass goals s w × (length w ≤ k))
