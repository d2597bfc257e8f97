-- Graphs that make each move of another by a chain of moves of their own.
use Rattle.std.specs.Prelude.{◌≡◌, ℕ, suc, ◌+◌, ◌<◌, ◌≤◌, List, [], ◌∷◌, ◌++◌, length, slice_index}
use Rattle.tctl.specs.Graph.{Graph, Stage, Open, size, count, move_at}
use Rattle.tctl.specs.Runs.{Run}

-- the minutes that the moves of a list take, which are given by their numbers
abbrev pub span : Graph → List ℕ → ℕ
span q [] = 0
span q (m ∷ ms) = (move_at q m).minutes + span q ms

-- q makes each move of p by a chain of moves of its own.
pub record Chains (p q : Graph) : Type 0 where
  -- the stages of p are the first ones of q, and the others are silent
  pub extra : List Stage
  pub stages : q.stages ≡ p.stages ++ extra
  pub silent : (s : ℕ) → size p ≤ s → Open q s → ⊥
  -- for each move of p, the moves of q that it is made by: one at least
  pub chain : ℕ → List ℕ
  pub some : (m : ℕ) → m < count p → 0 < length (chain m)
  pub real : (m k : ℕ) → m < count p → k < length (chain m) → slice_index (chain m) k < count q
  -- from where the move leaves to where it enters, in as many minutes
  pub first : (m : ℕ) → m < count p → (move_at q (slice_index (chain m) 0)).leaves ≡ (move_at p m).leaves
  pub last : (m k : ℕ) → m < count p → suc k ≡ length (chain m)
      → (move_at q (slice_index (chain m) k)).enters ≡ (move_at p m).enters
  pub minutes : (m : ℕ) → m < count p → span q (chain m) ≡ (move_at p m).minutes
  -- by extra stages, joined
  pub through : (m k : ℕ) → m < count p → suc k < length (chain m)
      → size p ≤ (move_at q (slice_index (chain m) k)).enters
  pub joined : (m k : ℕ) → m < count p → suc k < length (chain m)
      → (move_at q (slice_index (chain m) (suc k))).leaves ≡ (move_at q (slice_index (chain m) k)).enters

-- A run of q is made of chains: what the theorem on rules needs.
pub record Made (p q : Graph) : Type 0 where
  pub chains : Chains p q
  -- a run of q from a stage of p begins with a whole chain
  pub covers : (s : ℕ) → s < size p → (r : Run q s)
      → (m : ℕ) × (m < count p) × ((k : ℕ) → k < length (chains.chain m) → r.way k ≡ slice_index (chains.chain m) k)

-- q refines p.
pub record Refines (p q : Graph) : Type 0 where
  pub chains : Chains p q
  -- each move of q is in a chain
  pub all : (a : ℕ) → a < count q
      → (m : ℕ) × (k : ℕ) × (m < count p) × (k < length (chains.chain m)) × (slice_index (chains.chain m) k ≡ a)
  -- an extra stage has one move out
  pub one_out : (a b : ℕ) → a < count q → b < count q
      → size p ≤ (move_at q a).leaves → (move_at q a).leaves ≡ (move_at q b).leaves → a ≡ b
