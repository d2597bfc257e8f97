use Rattle.std.proofs.Common.{ℕ, suc, ◌+◌, ◌*◌, sym, ap, ◌∙◌, arith}
use Rattle.program.specs.Meaning.{no_move}
use Rattle.program.specs.Edits.{leads}
use Rattle.std.proofs.lemmas.List.{get_or_past}
use Rattle.views.specs.Schedules.{within_a_week, segment_moves}
use Rattle.views.specs.ScheduleLimits.{length_moves}
use Rattle.views.proofs.Segments.{at, ramp_move, hold_move, goes_on, goes_back}
use Rattle.views.proofs.schedule.ScheduleProgram.move_at.Goals as goal

pub returns-then-k-i : goal.returns-then-k-i
returns-then-k-i c =
    ap (λ (d : ℕ). leads (2 * c.loop-i.i) d (2 * c.loop-i.i + 1)) c.within_a_week.ensures
    ∙ ramp_move c.args.self.now.segments.now 0 c.loop-i.i (2 * c.loop-i.i) c.args.k (omega arith)
    (omega arith) (omega arith)

pub returns-then-goes_on : goal.returns-then-goes_on
returns-then-goes_on c =
    let gs = c.args.self.now.segments.now in
    let i = c.loop-i.i in
    ap (λ (d : ℕ). leads (2 * i + 1) d (2 * i + 2)) c.within_a_week-then-k-i-2.ensures
    ∙ ap (λ (t : ℕ). leads (2 * i + 1) (within_a_week (at gs i).hold) t)
    (sym (goes_on gs (suc i) (2 * i + 2) (omega arith)))
    ∙ hold_move gs 0 i (2 * i) c.args.k (omega arith) (omega arith) (omega arith)

pub returns-else-goes_on : goal.returns-else-goes_on
returns-else-goes_on c =
    let gs = c.args.self.now.segments.now in
    let i = c.loop-i.i in
    ap (λ (d : ℕ). leads (2 * i + 1) d 0) c.within_a_week-then-k-i-2.ensures
    ∙ ap (λ (t : ℕ). leads (2 * i + 1) (within_a_week (at gs i).hold) t)
    (sym (goes_back gs (suc i) (2 * i + 2) (omega arith)))
    ∙ hold_move gs 0 i (2 * i) c.args.k (omega arith) (omega arith) (omega arith)

pub returns : goal.returns
returns c =
    let gs = c.args.self.now.segments.now in
    let n = length_moves gs 0 in
    sym (get_or_past (segment_moves gs 0) c.args.k no_move (omega arith))
