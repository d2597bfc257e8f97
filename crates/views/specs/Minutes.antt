-- The minute program of a program: each move of two minutes and more is made by moves of one minute. What a view of
-- it promises.
use Rattle.std.specs.Prelude.{◌≡◌, ℕ, zero, suc, ◌+◌, ◌-◌, min, Bool, true, cond, ◌&&◌, List, [], ◌∷◌, ◌++◌, length}
use Rattle.std.specs.Prelude.{replicate, nat_le}
use Rattle.cutting.specs.Minute.{minute}
use Rattle.cutting.specs.Theorems.{Agree}
use Rattle.program.specs.declared.Kind.TheVariants.{Silent}
use Rattle.program.specs.declared.Stage.{Stage}
use Rattle.program.specs.declared.Move.{Move}
use Rattle.program.specs.Meaning.{Prog, empty, most_stages, most_moves}
use Rattle.program.specs.Edits.{leads}
use Rattle.program.specs.Graphs.{graph}

-- e + 1 moves of d minutes each from s to t, through e stages that are numbered from n on.
abbrev pub through : ℕ → ℕ → ℕ → ℕ → ℕ → List Move
through zero d s n t = leads s d t ∷ []
through (suc e) d s n t = leads s d n ∷ through e d n (suc n) t

-- What a move is made by that goes through e new stages, numbered from n on: moves of a minute. A move of no minutes
-- goes through none, and stays as it is.
abbrev pub made_by : ℕ → Move → ℕ → List Move
made_by e m n = through e (min m.minutes 1) m.leaves n m.enters

-- The stages that a move of d minutes goes through: d - 1, and none where d is 0.
abbrev pub inside : Move → ℕ
inside m = m.minutes - 1

abbrev pub moves_by_minute : List Move → ℕ → List Move
moves_by_minute [] n = []
moves_by_minute (m ∷ ms) n = made_by (inside m) m n ++ moves_by_minute ms (n + inside m)

abbrev pub new_stages : List Move → ℕ
new_stages [] = 0
new_stages (m ∷ ms) = inside m + new_stages ms

abbrev pub silent_stage : Stage
silent_stage = record { marks = 0; kind = Silent }

-- The old stages keep their numbers; new stages and moves stand in the order of the old moves.
abbrev pub minute_prog : Prog → Prog
minute_prog p =
    record {
      stages = p.stages ++ replicate (new_stages p.moves) silent_stage;
      moves = moves_by_minute p.moves (length p.stages);
    }

-- No list is longer than a readable program may have it.
abbrev pub within : Prog → Bool
within p = nat_le (length p.stages) most_stages && nat_le (length p.moves) most_moves

-- A program that is too large for a readable one has neither stages nor moves.
abbrev pub if_within : Prog → Prog
if_within p = cond (within p) p empty

abbrev pub minute_view : Prog → Prog
minute_view p = if_within (minute_prog p)

-- A view has the lists of the minute program, and unless that is too large, the same rules hold at the same stages as
-- in the program below, and both may be checked, or neither.
pub record ViewOf (below view : Prog) : Type 0 where
  pub lists : view ≡ minute_view below
  pub agrees : within (minute_prog below) ≡ true → Agree (graph below) (graph view)

-- The minute program on a program's lists is the minute program of its graph.
abbrev pub MinuteGraph : Type 0
MinuteGraph = (p : Prog) → graph (minute_prog p) ≡ minute (graph p)
