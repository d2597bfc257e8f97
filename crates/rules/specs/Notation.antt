-- How lines are printed: a part by its number, a letter by itself, and else as the rule is written.
use Rattle.std.specs.Prelude.{ℕ, ◌+◌, ◌%◌, List, ◌++◌, codes, decimal, encode_utf8}
use Rattle.rules.specs.declared.line.Quantifier.{Quantifier}
use Rattle.rules.specs.declared.line.Quantifier.TheVariants as quantifier
use Rattle.rules.specs.declared.line.Bound.{Bound}
use Rattle.rules.specs.declared.line.Bound.TheVariants as bound
use Rattle.rules.specs.declared.line.Line.{Line}
use Rattle.rules.specs.declared.line.Line.TheVariants as line

abbrev pub quantifier_text : Quantifier → List ℕ
quantifier_text quantifier.Some = codes "E"
quantifier_text quantifier.All = codes "A"

abbrev pub bound_text : Bound → List ℕ
bound_text (bound.AtMost n) = codes "U<=" ++ decimal n
bound_text (bound.AtLeast n) = codes "U>=" ++ decimal n

-- What is printed of a line. In a rule a letter is one of sixteen; the number of any other wraps at a byte.
abbrev pub line_text : Line → List ℕ
line_text line.One = codes "1"
line_text (line.Letter k) = encode_utf8 ((97 + k) % 256)
line_text (line.Not i) = codes "!" ++ decimal i
line_text (line.And i j) = decimal i ++ (codes "&" ++ decimal j)
line_text (line.Or i j) = decimal i ++ (codes "|" ++ decimal j)
line_text (line.Until q i b j) =
    quantifier_text q
    ++ (codes "[" ++ (decimal i ++ (codes " " ++ (bound_text b ++ (codes " " ++ (decimal j ++ codes "]"))))))
