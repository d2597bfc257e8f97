-- The rules, as trees.
use Rattle.std.specs.Prelude.{ℕ}

-- A bound on the minutes: at most so many, or at least so many.
pub data Bound : Type 0 where
  most : ℕ → Bound
  least : ℕ → Bound

pub data Rule : Type 0 where
  -- 1
  one : Rule
  -- a letter, by its number: a is 0
  letter : ℕ → Rule
  -- !f, f & g, f | g
  not : Rule → Rule
  both : Rule → Rule → Rule
  either : Rule → Rule → Rule
  -- E[f U g] and A[f U g], with a bound
  some_run : Rule → Bound → Rule → Rule
  each_run : Rule → Bound → Rule → Rule
