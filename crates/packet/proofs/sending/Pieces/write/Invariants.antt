use Rattle.std.proofs.Common.{◌≡◌, ◌+◌, ◌*◌, ◌<◌, ◌≤◌, length, drop}
use Rattle.packet.specs.Writes.{Adds}
use Rattle.packet.proofs.Sendings.{so_far}
use Rattle.packet.proofs.sending.Pieces.write.Given as goal

abbrev pub invariant-loop-k : goal.invariant-loop-k
invariant-loop-k l =
    let s = l.self in
    let k = l.k-iterator.count in
    let part = so_far s.direction s.first_datagram s.sending s.bytes.now k in
    (goal.iterator-loop-k).can_next l.k-iterator × (goal.iterator-loop-k).is_finite l.k-iterator
    × Adds l.initial.writer part l.writer × (length part ≤ 278 * k)
    × (l.k-iterator.iter.size ≡ 256) × (l.k-iterator.iter.rest.now ≡ drop (256 * k) s.bytes.now) × (256 * k < length s.bytes.now + 256)
