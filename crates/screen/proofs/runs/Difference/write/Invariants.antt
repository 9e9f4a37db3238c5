use Rattle.std.proofs.Common.{◌≡◌, ◌+◌, length}
use Rattle.std.specs.List.{concat}
use Rattle.screen.specs.Runs.{put, runs_from}
use Rattle.screen.specs.Steps.{runs_left}
use Rattle.screen.proofs.runs.Difference.write.Given as goal

abbrev pub invariant-loop-run : goal.invariant-loop-run
invariant-loop-run l =
    let left = concat (runs_left l.run-iterator) in
    record {
      place : l.at + length left ≡ length (runs_from l.self.old.now l.self.new.now 0 320);
      buffer : put l.out l.at left ≡ put l.initial.out 0 (runs_from l.self.old.now l.self.new.now 0 320);
    }
