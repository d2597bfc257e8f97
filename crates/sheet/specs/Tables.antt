-- The three tables before and after their use.
use Rattle.std.specs.Prelude.{◌≡◌, ℕ, ◌*◌, ◌≤◌, List, length}
use Rattle.std.specs.Borrow.{MutBor}
use Rattle.tally.specs.Algebras.{reach_algebra, shortest_algebra, longest_algebra}
use Rattle.sheet.specs.declared.tables.Tables.{Tables}
use Rattle.sheet.specs.Told.{Spent, Blank}

-- Each table has room for four entries a stage.
pub record HaveRoom (n : ℕ) (tables : Tables) : Type 0 where
  pub reached : 4 * n ≤ length tables.reached.now
  pub shortest : 4 * n ≤ length tables.shortest.now
  pub longest : 4 * n ≤ length tables.longest.now

-- The first four entries a stage are none.
pub record AreBlank (n : ℕ) (tables : Tables) : Type 0 where
  pub reached : Blank reach_algebra.none n tables.reached.now
  pub shortest : Blank shortest_algebra.none n tables.shortest.now
  pub longest : Blank longest_algebra.none n tables.longest.now

-- The tables may be used.
pub record AreReady (n : ℕ) (tables : Tables) : Type 0 where
  pub room : HaveRoom n tables
  pub blank : AreBlank n tables

-- The tables after their use: those entries are none, the rest is as found.
pub record AreSpent (n : ℕ) (was after : Tables) : Type 0 where
  pub reached : Spent reach_algebra.none n was.reached.now after.reached.now
  pub shortest : Spent shortest_algebra.none n was.shortest.now after.shortest.now
  pub longest : Spent longest_algebra.none n was.longest.now after.longest.now

-- A table stands in the same slice.
pub record SameSlice {A : Type 0} (was after : MutBor (List A)) : Type 0 where
  pub name : after.ghost_name ≡ was.ghost_name
  pub len : length after.now ≡ length was.now

pub record SameSlices (was after : Tables) : Type 0 where
  pub reached : SameSlice was.reached after.reached
  pub shortest : SameSlice was.shortest after.shortest
  pub longest : SameSlice was.longest after.longest
