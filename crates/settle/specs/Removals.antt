-- The removal of stages from a set: what each stage that is left watches, and which stages are gone.
use Rattle.std.specs.Prelude.{◌≡◌, ℕ, ◌+◌, ◌<◌, ◌≤◌, Bool, T, ◌⊎◌, List, length, Some, None, Option, ◌≢◌}
use Rattle.std.specs.Prelude.{slice_index, slice_index_or}
use Rattle.program.specs.declared.Move.{Move}
use Rattle.program.specs.Meaning.{no_move}
use Rattle.program.specs.Graphs.{timed_move}
use Rattle.tally.specs.Walks.{among}
use Rattle.tctl.proofs.Basics.{card}
use Rattle.program.specs.declared.End.TheVariants.{Leaves, Enters}
use Rattle.settle.specs.declared.endless.Sort.{Sort}
use Rattle.settle.specs.declared.links.Chained.{Chained}
use Rattle.settle.specs.declared.removal.Removal.{Removal}
use Rattle.settle.specs.Chains.{bound, end_at, link_at, Reaches}
use Rattle.settle.specs.Rows.{sort_of, RestKept}

-- How many stages a program has, and its moves.
abbrev pub stages_of : Chained → ℕ
stages_of p = p.stages

abbrev pub moves_of : Chained → List Move
moves_of p = p.moves.now

-- Whether the move with a number is of a sort.
abbrev pub sorted : Sort → List Move → ℕ → Bool
sorted sort moves k = sort_of sort (timed_move (slice_index_or moves k no_move))

-- The move with a number leads from a stage into a set, and is of a sort.
pub record Leads (sort : Sort) (moves : List Move) (set : ℕ → Bool) (stage k : ℕ) : Type 0 where
  pub real : k < length moves
  pub leaves : end_at Leaves moves k ≡ stage
  pub counts : T (sorted sort moves k)
  pub enters : T (set (end_at Enters moves k))

-- No move of the sort with this number or a higher one leads from a stage into a set.
abbrev pub NoneAtOrPast : Sort → List Move → (ℕ → Bool) → ℕ → ℕ → Type 0
NoneAtOrPast sort moves set stage from = (k : ℕ) → from ≤ k → Leads sort moves set stage k → ⊥

-- A link is in the chain of the moves that leave a stage, and no move before it leads into the set.
pub record From (sort : Sort) (moves : List Move) (set : ℕ → Bool) (stage : ℕ) (link : Option ℕ) : Type 0 where
  pub reaches : Reaches Leaves moves stage link
  pub none : NoneAtOrPast sort moves set stage (bound link)

-- A stage watches the move of a link: it is of the sort and leads into the set, unless it is due, and no higher one
-- does.
pub record Watched (sort : Sort) (moves : List Move) (set : ℕ → Bool) (due : ℕ → Type 0) (stage : ℕ) (link : Option ℕ)
    : Type 0 where
  pub by : ℕ
  pub is : link ≡ Some by
  pub real : by < length moves
  pub leaves : end_at Leaves moves by ≡ stage
  pub counts : T (sorted sort moves by)
  pub enters : T (set (end_at Enters moves by)) ⊎ due by
  pub no_higher : NoneAtOrPast sort moves set stage (by + 1)

-- Each of the first n stages that is in the set watches a move.
abbrev pub WatchingBelow : ℕ → Sort → List Move → (ℕ → Bool) → (due : ℕ → Type 0) → Removal → Type 0
WatchingBelow n sort moves set due r =
    (stage : ℕ) → stage < n → T (set stage) → Watched sort moves set due stage (link_at r.watched stage)

-- Each stage that is in the set watches a move.
abbrev pub Watching : Sort → Chained → (ℕ → Bool) → (due : ℕ → Type 0) → Removal → Type 0
Watching sort p = WatchingBelow (stages_of p) sort (moves_of p)

-- A stage is gone, and the moves that enter it are still to be looked at.
pub record Gone (r : Removal) (stage : ℕ) : Type 0 where
  pub place : ℕ
  pub not_yet : r.done ≤ place
  pub already : place < length r.gone.items
  pub is : slice_index r.gone.items place ≡ stage

-- A move is due if it enters a stage that is gone.
abbrev pub Due : Chained → Removal → ℕ → Type 0
Due p r k = Gone r (end_at Enters (moves_of p) k)

-- A stage that is not left of a set.
abbrev pub Outside : Chained → (ℕ → Bool) → ℕ → Type 0
Outside p set stage = (stage < stages_of p) × (T (set stage) → ⊥)

-- The set has a word for each stage. Those that are gone are stages and not left, and with those that are left they are
-- not more than all stages.
pub record Booked (p : Chained) (set : List ℕ) (r : Removal) : Type 0 where
  pub wide : stages_of p ≤ length set
  pub room : card (among set) (stages_of p) + length r.gone.items ≤ stages_of p
  pub outside : (i : ℕ) → i < length r.gone.items → Outside p (among set) (slice_index r.gone.items i)

-- Each stage of a part has a move of the sort into the part.
abbrev pub Lasting : Sort → List Move → (ℕ → Bool) → Type 0
Lasting sort moves part = (stage : ℕ) → T (part stage) → (k : ℕ) × Leads sort moves part stage k

abbrev pub Inside : (ℕ → Bool) → (ℕ → Bool) → Type 0
Inside part set = (stage : ℕ) → T (part stage) → T (set stage)

-- A set shrinks: each part of it that lasts is left.
pub record Shrinks (sort : Sort) (moves : List Move) (was after : ℕ → Bool) : Type 0 where
  pub inside : Inside after was
  pub lasts : (part : ℕ → Bool) → Lasting sort moves part → Inside part was → Inside part after

-- What becomes of the words of a set, and of the removal, with what is kept.
pub record Removes (sort : Sort) (p : Chained) (was after : List ℕ) (before now : Removal) : Type 0 where
  pub shrinks : Shrinks sort (moves_of p) (among was) (among after)
  pub rest : RestKept (stages_of p) was after
  pub booked : Booked p after now
  pub done : now.done ≡ before.done

-- A stage comes to watch another move, or is gone. The others watch what they did, and none is gone but for it.
pub record Rewatches (sort : Sort) (p : Chained) (stage : ℕ) (was after : List ℕ) (before now : Removal) : Type 0 where
  pub removes : Removes sort p was after before now
  pub others : (other : ℕ) → (other ≢ stage) → link_at now.watched other ≡ link_at before.watched other
  pub here : T (among after stage)
      → Watched sort (moves_of p) (among after) (λ k. ⊥) stage (link_at now.watched stage)
  pub gone : (other : ℕ) → Gone before other → Gone now other
  pub left : (other : ℕ) → T (among was other) → T (among after other) ⊎ Gone now other

-- The next stage that is gone is looked at.
pub record Looks (stage : ℕ) (before now : Removal) : Type 0 where
  pub outside : (p : Chained) (set : List ℕ) → Booked p set before → Outside p (among set) stage
  pub done : now.done ≡ before.done + 1
  pub gone : now.gone ≡ before.gone
  pub watched : now.watched ≡ before.watched
  pub others : (other : ℕ) → Gone before other → (other ≡ stage) ⊎ Gone now other

-- The next stage that is gone, or none if all were looked at.
abbrev pub LooksAt : Removal → Removal → Option ℕ → Type 0
LooksAt before now None = ((stage : ℕ) → Gone before stage → ⊥) × (now ≡ before)
LooksAt before now (Some stage) = Looks stage before now

-- What all removals come to: each stage that is left has a move into what is left.
pub record Removed (sort : Sort) (p : Chained) (was after : List ℕ) (r : Removal) : Type 0 where
  pub shrinks : Shrinks sort (moves_of p) (among was) (among after)
  pub rest : RestKept (stages_of p) was after
  pub booked : Booked p after r
  pub watching : Watching sort p (among after) (λ k. ⊥) r
