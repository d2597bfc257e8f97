-- The minute program of a graph: each move of two minutes and more is made by moves of one minute.
use Rattle.std.specs.Prelude.{ℕ, zero, suc, ◌+◌, ◌-◌, false, List, [], ◌∷◌, ◌++◌, replicate}
use Rattle.tctl.specs.Graph.{Graph, Stage, Move, size}

-- The move from s to t in d minutes.
abbrev pub leads : ℕ → ℕ → ℕ → Move
leads s d t = record { leaves = s; minutes = d; enters = t }

-- d + 1 moves of a minute from s to t, through d stages that are numbered from n on.
abbrev pub minutes_through : ℕ → ℕ → ℕ → ℕ → List Move
minutes_through zero s n t = leads s 1 t ∷ []
minutes_through (suc d) s n t = leads s 1 n ∷ minutes_through d n (suc n) t

-- What a move of d minutes from s to t is made by, where n is the number of the next new stage. A move of 0 or 1
-- minutes stays as it is.
abbrev pub by_minutes : ℕ → ℕ → ℕ → ℕ → List Move
by_minutes zero s n t = leads s 0 t ∷ []
by_minutes (suc d) s n t = minutes_through d s n t

abbrev pub minute_moves : List Move → ℕ → List Move
minute_moves [] n = []
minute_moves (m ∷ ms) n =
    by_minutes m.minutes m.leaves n m.enters ++ minute_moves ms (n + (m.minutes - 1))

-- How many new stages the moves want.
abbrev pub hidden : List Move → ℕ
hidden [] = 0
hidden (m ∷ ms) = (m.minutes - 1) + hidden ms

abbrev pub silent_one : Stage
silent_one = record { marks = 0; shown = false }

-- The old stages keep their numbers; new stages and moves stand in the order of the old moves.
abbrev pub minute : Graph → Graph
minute g =
    record {
      stages = g.stages ++ replicate (hidden g.moves) silent_one;
      moves = minute_moves g.moves (size g);
    }
