-- The edges and an exchange, by computation.
use Rattle.std.proofs.Common.{refl}
use Rattle.state.specs.Checksum.{checksum}
use Rattle.screen.specs.Runs.{runs_from}
use Rattle.packet.specs.Datagrams.{datagram_around}
use Rattle.packet.specs.Fragments.{fragment_bytes, piece_in}
use Rattle.packet.specs.Instructions.{instruction_bytes, fields_of}
use Rattle.packet.specs.Sendings.{datagrams_of}
use Rattle.assembler.specs.Contents.{joined}
use Rattle.assembler.specs.Offers.{contradicts}
use Rattle.protocol.specs.Due.{due}
use Rattle.protocol.specs.Edges.{Edges}
use Rattle.protocol.specs.Exchange.{Exchanged}

pub edges : Edges
unfolding checksum runs_from instruction_bytes fields_of datagram_around fragment_bytes datagrams_of due
edges = record {
  key = refl;
  tap_sum = refl;
  no_sum = refl;
  unchanged = refl;
  letters = refl;
  reach = refl;
  beyond = refl;
  beyond_number = refl;
  full_due = refl;
  full_sent = refl;
  full_instruction = refl;
  full_top = refl;
  full_always = λ now. refl;
  lately = refl;
  too_late = refl;
}

pub exchanged : Exchanged
unfolding checksum runs_from instruction_bytes fields_of datagram_around fragment_bytes piece_in datagrams_of joined contradicts due
exchanged = record {
  noted = refl;
  early = refl;
  sent = refl;
  shown = refl;
  looks = refl;
  answered = refl;
}
