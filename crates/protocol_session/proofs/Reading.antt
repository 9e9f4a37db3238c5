-- A datagram that one end wrote, as either end reads it.
use Rattle.std.proofs.Common.{◌≡◌, ℕ, ◌+◌, ◌<◌, ◌≤◌, List, length, Ok, ap, ◌∙◌, arith}
use Rattle.state.specs.Kind.{Kind}
use Rattle.packet.specs.declared.datagram.Direction.{Direction}
use Rattle.packet.specs.Pieces.{piece, piece_count}
use Rattle.packet.specs.Instructions.{Update}
use Rattle.packet.specs.Datagrams.{same_direction, read_datagram}
use Rattle.packet.specs.Sendings.{parcel, datagrams_of}
use Rattle.packet.proofs.Layouts.{instruction_length}
use Rattle.packet.proofs.Sendings.{datagram_read}
use Rattle.protocol.specs.declared.fault.TakeFault.{TakeFault}
use Rattle.protocol.specs.End.{Holding}
use Rattle.protocol.specs.Taking as take
use Rattle.protocol.specs.Taking.{taken}
use Rattle.protocol.proofs.Halves.{own_refused}
use Rattle.protocol.proofs.Written.{datagram_at, contents_join, datagrams_first}
use Rattle.protocol_session.specs.History.{Past, opposite, fragment_read, fragment_in, sending_in, instruction_in}
use Rattle.protocol_session.specs.Runs.{Lent, lent_to, takes}
use Rattle.protocol_session.proofs.Shared.{same_itself, opposite_apart, opposite_other}
use Rattle.protocol_session.proofs.Invariant.{Instructs, Carries, Joined}

module _ (d : Direction) (first s : ℕ) (bs : List ℕ) (short : length bs ≤ 2048) where
  -- each datagram of a sending is read at the other side as its piece
  piece_back : (k : ℕ) → k < piece_count bs → fragment_in (opposite d) (datagram_at d first s bs k) ≡ piece s bs k
  piece_back k lt = ap fragment_read (datagram_read d first s bs (opposite d) k (opposite_apart d) short lt)

  -- so they tell their instruction, and the number of their sending
  pub instruction_in_lem : instruction_in (opposite d) (datagrams_of d first s bs) ≡ bs
  instruction_in_lem = contents_join d first s bs (λ z. (fragment_in (opposite d) z).contents) (λ k lt. ap (λ z. z.contents) (piece_back k lt))

  pub sending_in_lem : 1 ≤ piece_count bs → sending_in (opposite d) (datagrams_of d first s bs) ≡ s
  sending_in_lem some = let f = datagrams_first d first s bs some in ap (sending_in (opposite d)) f.1 ∙ ap (λ z. z.sending) (piece_back 0 some)

-- a datagram that x wrote
module _ {K L : Kind} {x : Holding K L} {p : Past K} {y : Holding L K} {q : Past L} (j : Joined K L x p y q) {bytes : List ℕ} (c : Carries p bytes) where
  -- its sending's instruction
  pub told : (u : Update) × Instructs x.end.outgoing p c.sending u
  told = j.sendings c.sending c.some c.past

  -- which has at least one byte, and at most 2048
  pub told_length : (1 ≤ length (p.instruction c.sending)) × (length (p.instruction c.sending) ≤ 2048)
  told_length =
      let long : length (p.instruction c.sending) ≡ 17 + length told.0.diff = ap length told.1.bytes ∙ instruction_length told.0 in
      (omega arith, omega (arith, told.1.short))

  -- y reads it as the piece that it is
  pub carried_read : read_datagram y.end.direction bytes ≡ Ok (parcel p.direction c.from c.sending (p.instruction c.sending) c.piece)
  carried_read = ap (read_datagram y.end.direction) c.is ∙ datagram_read p.direction c.from c.sending (p.instruction c.sending) y.end.direction c.piece (opposite_other p.direction y.end.direction j.directions) told_length.1 c.one_of

  -- and x itself refuses it
  pub carried_refused : (l : Lent) (time : ℕ) → (f : TakeFault) × (takes K L x l time bytes ≡ take.refuses K L x.end (lent_to K L x l).received_store f)
  carried_refused l time =
      let r = own_refused K L (lent_to K L x l) time c.from c.sending (p.instruction c.sending) c.piece p.direction (ap (same_direction p.direction) j.direction ∙ same_itself p.direction) told_length.1 c.one_of in
      (r.0, ap (taken K L (lent_to K L x l) time) c.is ∙ r.1)
