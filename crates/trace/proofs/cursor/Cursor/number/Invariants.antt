use Rattle.std.proofs.Common.{◌≡◌, length}
use Rattle.trace.specs.Fronts.{digits_front}
use Rattle.trace.proofs.cursor.Cursor.number.Given as goal

abbrev pub invariant-loop-d : goal.invariant-loop-d
invariant-loop-d l = digits_front l.value l.self.rest.now ≡ digits_front l.initial.value l.initial.self.rest.now

abbrev pub decreases-loop-d : goal.decreases-loop-d
decreases-loop-d l = length l.self.rest.now
