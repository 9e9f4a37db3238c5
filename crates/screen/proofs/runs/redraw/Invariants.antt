use Rattle.std.proofs.Common.{◌≡◌, ◌-◌, ◌≤◌, length, drop}
use Rattle.state.specs.Parts.{parts}
use Rattle.screen.specs.Runs.{run_read}
use Rattle.screen.proofs.runs.redraw.Given as goal

abbrev pub invariant-loop-rest : goal.invariant-loop-rest
invariant-loop-rest l =
    (length l.cells ≡ 320)
    × (length l.rest ≤ length l.d)
    × (parts run_read (record { cells = l.cells; free = l.free }) (length l.d - length l.rest) 0 l.rest ≡ parts run_read (record { cells = l.initial.cells; free = 0 }) 2 0 (drop 2 l.d))

abbrev pub decreases-loop-rest : goal.decreases-loop-rest
decreases-loop-rest l = length l.rest
