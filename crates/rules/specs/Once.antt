-- That lines are well formed holds in one way at most.
use Rattle.std.specs.Prelude.{ℕ, List}
use Rattle.std.specs.Coded.{×_prop, Unit-prop, le_prop}
use std.HLevel.{Π_prop}
use Rattle.rules.specs.declared.line.Line.{Line}
use Rattle.rules.specs.declared.line.Line.TheVariants as line
use Rattle.rules.specs.Lines.{Formed, WellFormed}

formed_once : (k : ℕ) (l : Line) → IsProp (Formed k l)
formed_once k line.One = Unit-prop
formed_once k (line.Letter a) = le_prop
formed_once k (line.Not i) = le_prop
formed_once k (line.And i j) = ×_prop le_prop le_prop
formed_once k (line.Or i j) = ×_prop le_prop le_prop
formed_once k (line.Until q i b j) =
    λ x y t. (le_prop x.0 y.0 t, le_prop x.1 y.1 t, le_prop x.2 y.2 t)

pub well_formed_once : (ls : List Line) → IsProp (WellFormed ls)
well_formed_once ls = Π_prop (λ k. Π_prop (λ h. formed_once k _))
