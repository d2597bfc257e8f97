-- Moves chained by one of their ends.
use Rattle.std.specs.Prelude.{◌≡◌, ℕ, ◌+◌, ◌<◌, ◌≤◌, List, length, ◌≢◌, slice_index_or, Option, Some, None}
use Rattle.program.specs.declared.Move.{Move}
use Rattle.program.specs.Meaning.{no_move, most_stages, most_moves}
use Rattle.tally.specs.Rounds.{Within}
use Rattle.program.specs.declared.End.{End}
use Rattle.program.specs.declared.End.TheVariants.{Leaves, Enters}
use Rattle.program.specs.Ends.{end_of}
use Rattle.settle.specs.declared.links.Links.{Links}
use Rattle.settle.specs.declared.links.Chains.{Chains}

-- The stage at the end of the move with a number.
abbrev pub end_at : End → List Move → ℕ → ℕ
end_at end moves k = end_of end (slice_index_or moves k no_move)

-- The link that a list has at a place.
abbrev pub link_at : List (Option ℕ) → ℕ → Option ℕ
link_at links i = slice_index_or links i None

-- What is to come of a chain from a link on are moves with numbers below this.
abbrev pub bound : Option ℕ → ℕ
bound None = 0
bound (Some k) = k + 1

-- A link is in the chain of a stage: its move has the stage at this end.
pub record Reaches (end : End) (moves : List Move) (stage : ℕ) (link : Option ℕ) : Type 0 where
  pub low : bound link ≤ length moves
  pub here : (k : ℕ) → link ≡ Some k → end_at end moves k ≡ stage

-- A link is the number of a move, or none. Below k it is right for a stage if it is that of the last move with this end
-- among those before k.
pub record Right (end : End) (moves : List Move) (stage k : ℕ) (link : Option ℕ) : Type 0 where
  pub low : bound link ≤ k
  pub here : (j : ℕ) → link ≡ Some j → end_at end moves j ≡ stage
  pub last : (j : ℕ) → bound link ≤ j → j < k → end_at end moves j ≢ stage

-- What is so of the chains once the moves before k are in them.
pub record Chaining (end : End) (moves : List Move) (k : ℕ) (first next : List (Option ℕ)) : Type 0 where
  pub firsts : (stage : ℕ) → stage < most_stages → Right end moves stage k (link_at first stage)
  pub nexts : (j : ℕ) → j < k → Right end moves (end_at end moves j) j (link_at next j)

-- All the moves of a program are in the chains, and the program is within the limits.
pub record Linked (end : End) (n : ℕ) (moves : List Move) (links : Links) : Type 0 where
  pub few_stages : n ≤ most_stages
  pub few_moves : length moves ≤ most_moves
  pub within : Within n moves
  pub chained : Chaining end moves (length moves) links.first links.next

pub record ChainsOf (n : ℕ) (moves : List Move) (chains : Chains) : Type 0 where
  pub leaves : Linked Leaves n moves chains.leaves
  pub enters : Linked Enters n moves chains.enters
