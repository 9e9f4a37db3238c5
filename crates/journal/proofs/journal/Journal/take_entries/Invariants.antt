use Rattle.std.proofs.Common.{length}
use Rattle.journal.proofs.Taking.{IsSofar}
use Rattle.journal.proofs.journal.Journal.take_entries.Given as goal

abbrev pub invariant-loop-rest : goal.invariant-loop-rest
invariant-loop-rest l = IsSofar l.initial.self l.d l.rest l.full l.self

abbrev pub decreases-loop-rest : goal.decreases-loop-rest
decreases-loop-rest l = length l.rest
