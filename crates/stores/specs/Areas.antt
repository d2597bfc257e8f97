-- Byte areas as lists of numbers: what a write leaves, and how records of one width lie in an area.
use Rattle.std.specs.Prelude.{◌≡◌, ℕ, ◌+◌, ◌-◌, ◌*◌, ◌/◌, ◌%◌, List, [], ◌∷◌, ◌++◌, length, take, drop, replicate}
use Rattle.std.specs.Prelude.{slice_index, map}
use Rattle.std.specs.List.{between, flat_map}
use Rattle.std.specs.Simd.{first_chunks}

-- cs written over bs from a place on
abbrev pub put : List ℕ → ℕ → List ℕ → List ℕ
put bs at cs = take at bs ++ (cs ++ drop (at + length cs) bs)

-- record i of n taken out, where each is w bytes wide: those before it stay, later ones stand one place lower, zeros
-- take the last place, and what lies behind stays
abbrev pub taken_out : ℕ → ℕ → ℕ → List ℕ → List ℕ
taken_out w n i bs = take (w * i) bs ++ (between (w * (i + 1)) (w * n) bs ++ (replicate w 0 ++ drop (w * n) bs))

-- a number as two bytes, the lower first
abbrev pub low_high : ℕ → List ℕ
low_high n = n % 256 ∷ n / 256 ∷ []

-- the number in the two bytes from a place on
abbrev pub number_at : List ℕ → ℕ → ℕ
number_at bs i = slice_index bs i + 256 * slice_index bs (i + 1)

-- How records of one type lie in an area: the bytes that each takes, which bytes they are, and what bytes read as.
pub record Layout (X : Type 0) : Type 0 where
  pub width : ℕ
  pub write : X → List ℕ
  pub read : List ℕ → X

-- Every record takes the layout's width, and is read back whatever lies behind it.
pub record Lawful {X : Type 0} (l : Layout X) : Type 0 where
  pub wide : (x : X) → length (l.write x) ≡ l.width
  pub back : (x : X) (rest : List ℕ) → l.read (l.write x ++ rest) ≡ x

-- records one after another
abbrev pub bytes : {X : Type 0} → Layout X → List X → List ℕ
bytes l = flat_map l.write

-- what the first n records of an area read as
abbrev pub in_use : {X : Type 0} → Layout X → ℕ → List ℕ → List X
in_use l n bs = map l.read (first_chunks l.width n bs)

-- an area of n bytes that begins with cs and has zeros behind
abbrev pub filled : ℕ → List ℕ → List ℕ
filled n cs = cs ++ replicate (n - length cs) 0

-- An area holds n records and nothing else: the bytes of its first n records, and zeros behind.
abbrev pub Holds : {X : Type 0} → Layout X → ℕ → List ℕ → Type 0
Holds l n bs = bs ≡ filled (length bs) (bytes l (in_use l n bs))
