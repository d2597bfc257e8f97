-- What a draft stands for: lines without limit, of which it keeps the first 32.
use Rattle.std.specs.Prelude.{◌≡◌, ◌+◌, ◌<◌, ◌≤◌, min, true, cond, List, length, take, MatchBool, nat_lt}
use Rattle.std.specs.Prelude.{slice_set}
use Rattle.rules.specs.declared.line.Line.{Line}
use Rattle.rules.specs.Lines.{most_lines, largest_number}
use Rattle.rules.specs.Postorder.{line_number, Small, Large}
use Rattle.reader.specs.declared.draft.Draft.{Draft}

-- The draft stands for the lines ls, whose numbers may be of any size.
pub record Drawn (d : Draft) (ls : List Line) : Type 0 where
  pub counted : d.count ≡ min (length ls) 33
  pub noted : MatchBool d.large (Large ls) (Small ls)
  pub kept : Small ls → length ls ≤ 32 → take (length ls) d.lines ≡ ls

-- The line is noted after the others.
pub record Pushed (d : Draft) (l : Line) (e : Draft) : Type 0 where
  pub counted : e.count ≡ min (d.count + 1) 33
  pub noted : e.large ≡ cond (nat_lt largest_number (line_number l)) true d.large
  pub kept : d.count < most_lines → e.lines ≡ slice_set d.lines d.count l
