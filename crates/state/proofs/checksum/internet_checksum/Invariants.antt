use Rattle.std.proofs.Common.{◌≡◌, ◌<◌, drop}
use Rattle.state.proofs.Sums.{bytesum}
use Rattle.state.proofs.checksum.internet_checksum.Given as goal

abbrev pub invariant-loop-i : goal.invariant-loop-i
invariant-loop-i l = (l.sum < 65536) × (bytesum l.sum l.i (drop l.i l.bytes) ≡ bytesum 0 0 l.bytes)
