-- What a schedule is: the two lists that a list of segments gives. Assumes nothing but what a program is made of.
use Rattle.std.specs.Prelude.{ℕ, ◌+◌, min, List, [], ◌∷◌, take}
use Rattle.program.specs.declared.Kind.TheVariants.{Open}
use Rattle.program.specs.declared.Stage.{Stage}
use Rattle.program.specs.declared.Move.{Move}
use Rattle.program.specs.Meaning.{Prog, most_minutes}
use Rattle.program.specs.Edits.{leads}
use Rattle.views.specs.declared.schedule.Segment.{Segment}

abbrev pub most_segments : ℕ
most_segments = 16

-- minutes, cut down to a week
abbrev pub within_a_week : ℕ → ℕ
within_a_week d = min d most_minutes

-- Each segment has two open stages: it ramps in the first, without marks, and holds in the second, with its marks.
abbrev pub segment_stages : List Segment → List Stage
segment_stages [] = []
segment_stages (g ∷ gs) =
    record { marks = 0; kind = Open } ∷ record { marks = g.marks; kind = Open } ∷ segment_stages gs

-- Where a hold leads to: to the ramp of the next segment, at stage n, and after the last one back to stage 0.
abbrev pub goes_on_to : List Segment → ℕ → ℕ
goes_on_to [] n = 0
goes_on_to (g ∷ gs) n = n

-- The moves of segments of which the first begins at stage n.
abbrev pub segment_moves : List Segment → ℕ → List Move
segment_moves [] n = []
segment_moves (g ∷ gs) n =
    leads n (within_a_week g.ramp) (n + 1) ∷ leads (n + 1) (within_a_week g.hold) (goes_on_to gs (n + 2))
    ∷ segment_moves gs (n + 2)

abbrev pub segment_prog : List Segment → Prog
segment_prog gs = record { stages = segment_stages gs; moves = segment_moves gs 0 }

-- A schedule takes its first segments, and leaves the rest.
abbrev pub schedule : List Segment → Prog
schedule gs = segment_prog (take most_segments gs)
