-- What a tally tells of a number of minutes, and a table before and after its use.
use Rattle.std.specs.Prelude.{◌≡◌, ℕ, ◌*◌, ◌<◌, ◌≤◌, Bool, true, false, List, Option, Some, None}
use Rattle.std.specs.Prelude.{nat_le, slice_index_or}
use Rattle.tally.specs.declared.Reach.{Reach}
use Rattle.tally.specs.declared.Minutes.{Minutes}

abbrev pub reaches : ℕ → Reach → Bool
reaches c a = a.0

-- Whether the longest walk has so many minutes or more, or the shortest so many or fewer.
abbrev pub option_tells : Bool → ℕ → Option ℕ → Bool
option_tells longest c None = false
option_tells true c (Some a) = nat_le c a
option_tells false c (Some a) = nat_le a c

abbrev pub minutes_tell : {n : ℕ} → Bool → ℕ → Minutes n → Bool
minutes_tell longest c a = option_tells longest c a.0

abbrev pub short_to : ℕ → Minutes 0 → Bool
short_to = minutes_tell false

abbrev pub long_from : ℕ → Minutes 1 → Bool
long_from = minutes_tell true

-- A table after its use: the first four entries a stage are none, the rest is as found.
pub record Spent {A : Type 0} (none : A) (n : ℕ) (was after : List A) : Type 0 where
  pub cleared : (i : ℕ) → i < 4 * n → slice_index_or after i none ≡ none
  pub rest : (i : ℕ) → 4 * n ≤ i → slice_index_or after i none ≡ slice_index_or was i none

-- The first four entries a stage are none.
abbrev pub Blank : {A : Type 0} → A → ℕ → List A → Type 0
Blank none n xs = (i : ℕ) → i < 4 * n → slice_index_or xs i none ≡ none
