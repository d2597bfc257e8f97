use Rattle.std.proofs.Common.{◌+◌, ◌*◌, length}
use Rattle.reader.proofs.Steps.{GrewItems, GrewTerms}
use Rattle.reader.proofs.parts.Reader.+grammar.Given as goal

abbrev pub decreases-read_item : goal.decreases-read_item
decreases-read_item l = 3 * length l.self.now.rest.now

abbrev pub decreases-read_until : goal.decreases-read_until
decreases-read_until l = 3 * length l.self.now.rest.now

abbrev pub decreases-read_term : goal.decreases-read_term
decreases-read_term l = 3 * length l.self.now.rest.now + 1

abbrev pub decreases-read_rule : goal.decreases-read_rule
decreases-read_rule l = 3 * length l.self.now.rest.now + 2

abbrev pub invariant-read_term-loop-rest : goal.invariant-read_term-loop-rest
invariant-read_term-loop-rest l =
    GrewItems l.initial.self.rest.now l.self.rest.now l.initial.self.draft l.self.draft l.left

abbrev pub decreases-read_term-loop-rest : goal.decreases-read_term-loop-rest
decreases-read_term-loop-rest l = length l.self.rest.now

abbrev pub invariant-read_rule-loop-rest : goal.invariant-read_rule-loop-rest
invariant-read_rule-loop-rest l =
    GrewTerms l.initial.self.rest.now l.self.rest.now l.initial.self.draft l.self.draft l.left

abbrev pub decreases-read_rule-loop-rest : goal.decreases-read_rule-loop-rest
decreases-read_rule-loop-rest l = length l.self.rest.now
