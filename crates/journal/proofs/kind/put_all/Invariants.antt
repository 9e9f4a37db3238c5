use Rattle.std.proofs.Common.{◌≡◌, ◌++◌, length, drop, take}
use Rattle.journal.specs.Entries.{entries_bytes}
use Rattle.journal.proofs.kind.put_all.Given as goal

abbrev pub invariant-loop-entry : goal.invariant-loop-entry
invariant-loop-entry l =
    let written = entries_bytes (take l.entry-index l.entries) in
    record {
      place : l.at ≡ length written;
      buffer : l.out ≡ written ++ drop l.at l.initial.out;
    }
