-- The letters of a set of marks, in rising order.
use Rattle.std.specs.Prelude.{ℕ, zero, suc, ◌+◌, ◌/◌, ◌%◌, ◌^◌, ◌<◌, cond, List, [], ◌∷◌, ◌==◌}

-- The letters of k marks, of which the first has the letter b and is worth 1.
unfoldable pub letters_from : ℕ → ℕ → ℕ → List ℕ
letters_from zero b marks = []
letters_from (suc k) b marks =
    cond (marks % 2 == 1) (b ∷ letters_from k (b + 1) (marks / 2)) (letters_from k (b + 1) (marks / 2))

-- The sixteen marks are a (byte 97) to p.
abbrev pub letters : ℕ → List ℕ
letters marks = letters_from 16 97 marks

abbrev pub Sixteen : ℕ → Type 0
Sixteen marks = marks < 2 ^ 16
