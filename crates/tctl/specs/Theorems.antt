-- The theorems that the crate's functions state.
use Rattle.std.specs.Prelude.{◌≡◌, ℕ, ◌<◌, ◌≤◌, Bool, T, ◌↔◌, List, length, slice_index_or}
use Rattle.tctl.specs.Graph.{Graph, Move, size}
use Rattle.tctl.specs.Runs.{Ends, Sound}
use Rattle.tctl.specs.Rules.{Rule}
use Rattle.tctl.specs.Holds.{Holds}
use Rattle.tctl.specs.Checker.{where_holds, at, sound?, endless, Kind, none, tally, tally_cap, capped}
use Rattle.tctl.specs.Greatest.{Greatest}
use Rattle.tctl.specs.Refine.{Refines, Made}

-- The checker finds the stages at which the rule holds.
abbrev pub CheckerRight : Type 0
CheckerRight = (p : Graph) → Sound p → (f : Rule) (s : ℕ) → T (at (where_holds p f) s) ↔ Holds p f s

-- After as many turns as there are stages, what is left of a set is its greatest part that can be kept.
abbrev pub EndlessIsGreatest : Type 0
EndlessIsGreatest =
    (p : Graph) → Ends p → (sort : Move → Bool) (set : List Bool) → length set ≤ size p
    → Greatest p sort set (endless p sort set (size p))

-- A refinement keeps each rule at each old stage.
abbrev pub RefinementKeeps : Type 0
RefinementKeeps = (p q : Graph) → Ends p → Refines p q → (f : Rule) (s : ℕ) → s < size p → Holds p f s ↔ Holds q f s

-- The test of a graph is right.
abbrev pub TestRight : Type 0
TestRight = (p : Graph) → T (sound? p) ↔ Sound p

-- A tally with a cap has the same entries, cut at the cap.
abbrev pub CapCuts : Type 0
CapCuts =
    (top : ℕ) (p : Graph) (k : Kind) (pass goals : List Bool) (i s : ℕ)
    → slice_index_or (tally_cap top p k pass goals i) s none
    ≡ capped top (slice_index_or (tally p k pass goals i) s none)

-- The same, of the weaker relation.
abbrev pub MakingKeeps : Type 0
MakingKeeps = (p q : Graph) → Ends p → Made p q → (f : Rule) (s : ℕ) → s < size p → Holds p f s ↔ Holds q f s
