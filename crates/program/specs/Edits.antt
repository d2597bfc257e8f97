-- The edits of a store, each as a step on the two lists: its refusals in their order, its answer, and what it leaves.
use Rattle.std.specs.Prelude.{◌≡◌, ℕ, suc, ◌+◌, ◌-◌, Bool, true, false, cond, eqb, List, [], ◌∷◌, ◌++◌, length, take}
use Rattle.std.specs.Prelude.{set, Ok, Err, Result, nat_le, nat_lt, codes, decimal}
use Rattle.std.specs.List.{remove}
use Rattle.program.specs.declared.Kind.{Kind}
use Rattle.program.specs.declared.Kind.TheVariants.{Open, Silent}
use Rattle.program.specs.declared.Move.{Move}
use Rattle.program.specs.declared.EditFault.{EditFault}
use Rattle.program.specs.declared.EditFault.TheVariants.{NoStage, SilentStage, NoMove, TooLong, StagesFull}
use Rattle.program.specs.declared.EditFault.TheVariants.{MovesFull, NothingToJoin}
use Rattle.program.specs.Meaning.{Prog, stage_at, move_at, most_minutes}

-- How many stages and moves a store has room for.
pub record Caps : Type 0 where
  pub stages : ℕ
  pub moves : ℕ

-- The number of each refusal.
abbrev pub fault_number : EditFault → ℕ
fault_number NoStage = 1
fault_number SilentStage = 2
fault_number NoMove = 3
fault_number TooLong = 4
fault_number StagesFull = 5
fault_number MovesFull = 6
fault_number NothingToJoin = 7

-- What is printed of each refusal.
abbrev pub fault_text : EditFault → List ℕ
fault_text NoStage = codes "there is no such stage"
fault_text SilentStage = codes "the stage is silent"
fault_text NoMove = codes "there is no such move"
fault_text TooLong = codes "the move takes more than " ++ (decimal most_minutes ++ codes " minutes")
fault_text StagesFull = codes "there are too many stages"
fault_text MovesFull = codes "there are too many moves"
fault_text NothingToJoin = codes "the last stage is not a silent one"

-- An answer, and the program after it.
pub record Out : Type 0 where
  pub answer : Result ℕ EditFault
  pub after : Prog

abbrev pub accepted : ℕ → Prog → Out
accepted n p = record { answer = Ok n; after = p }

-- A refused edit changes nothing.
abbrev pub refused : EditFault → Prog → Out
refused e p = record { answer = Err e; after = p }

-- open: an open stage is appended
abbrev pub with_stage : Prog → ℕ → Prog
with_stage p m = record { stages = p.stages ++ (record { marks = m; kind = Open } ∷ []); moves = p.moves }

-- mark: the marks of a stage are replaced
abbrev pub with_marks : Prog → ℕ → ℕ → Prog
with_marks p s m =
    record { stages = set p.stages s (record { marks = m; kind = (stage_at p s).kind }); moves = p.moves }

-- The move from s to t in d minutes.
abbrev pub leads : ℕ → ℕ → ℕ → Move
leads s d t = record { leaves = s; minutes = d; enters = t }

-- lay: a move is appended
abbrev pub with_move : Prog → ℕ → ℕ → ℕ → Prog
with_move p s d t = record { stages = p.stages; moves = p.moves ++ (leads s d t ∷ []) }

-- cut: a silent stage is appended; move k now leads to it in a minutes, and an appended move on from it in the rest
abbrev pub with_cut : Prog → ℕ → ℕ → Prog
with_cut p k a =
    let m = move_at p k in
    let new = length p.stages in
    record {
      stages = p.stages ++ (record { marks = 0; kind = Silent } ∷ []);
      moves = set p.moves k (leads m.leaves a new) ++ (leads new (m.minutes - a) m.enters ∷ []);
    }

-- The place of the first that passes a test; the length where none does.
abbrev pub first {ℓ} : {A : Type ℓ} → (A → Bool) → List A → ℕ
first P [] = 0
first P (x ∷ xs) = cond (P x) 0 (suc (first P xs))

-- The number of the move that enters a stage, and of the one that leaves it.
abbrev pub move_into : Prog → ℕ → ℕ
move_into p s = first (λ (m : Move). eqb m.enters s) p.moves

abbrev pub move_out_of : Prog → ℕ → ℕ
move_out_of p s = first (λ (m : Move). eqb m.leaves s) p.moves

abbrev pub last_stage : Prog → ℕ
last_stage p = length p.stages - 1

-- join: the last stage is taken out; the move that entered it now enters what the stage's own move entered, in the
-- minutes of both, and the stage's own move is taken out
abbrev pub with_join : Prog → Prog
with_join p =
    let e = last_stage p in
    let i = move_into p e in
    let o = move_out_of p e in
    let whole = leads (move_at p i).leaves ((move_at p i).minutes + (move_at p o).minutes) (move_at p o).enters in
    record { stages = take e p.stages; moves = remove (set p.moves i whole) o }

abbrev pub is_open : Kind → Bool
is_open Open = true
is_open Silent = false

abbrev pub open_step : Caps → Prog → ℕ → Out
open_step caps p m =
    cond (nat_lt (length p.stages) caps.stages)
    (accepted (length p.stages) (with_stage p m))
    (refused StagesFull p)

abbrev pub mark_step : Prog → ℕ → ℕ → Out
mark_step p s m =
    cond (nat_lt s (length p.stages))
    (cond (is_open (stage_at p s).kind) (accepted s (with_marks p s m)) (refused SilentStage p))
    (refused NoStage p)

abbrev pub lay_step : Caps → Prog → ℕ → ℕ → ℕ → Out
lay_step caps p s d t =
    cond (nat_lt s (length p.stages))
    (cond (nat_lt t (length p.stages))
    (cond (is_open (stage_at p s).kind)
    (cond (is_open (stage_at p t).kind)
    (cond (nat_le d most_minutes)
    (cond (nat_lt (length p.moves) caps.moves)
    (accepted (length p.moves) (with_move p s d t))
    (refused MovesFull p))
    (refused TooLong p))
    (refused SilentStage p))
    (refused SilentStage p))
    (refused NoStage p))
    (refused NoStage p)

abbrev pub cut_step : Caps → Prog → ℕ → ℕ → Out
cut_step caps p k a =
    cond (nat_lt k (length p.moves))
    (cond (nat_le a (move_at p k).minutes)
    (cond (nat_lt (length p.stages) caps.stages)
    (cond (nat_lt (length p.moves) caps.moves)
    (accepted (length p.stages) (with_cut p k a))
    (refused MovesFull p))
    (refused StagesFull p))
    (refused TooLong p))
    (refused NoMove p)

abbrev pub join_step : Prog → Out
join_step p =
    cond (nat_lt 0 (length p.stages))
    (cond (is_open (stage_at p (last_stage p)).kind) (refused NothingToJoin p) (accepted (last_stage p) (with_join p)))
    (refused NothingToJoin p)

-- A step's answer was given, and the program is the one after it.
pub record Does (o : Out) (r : Result ℕ EditFault) (p : Prog) : Type 0 where
  pub answers : r ≡ o.answer
  pub leaves : p ≡ o.after
