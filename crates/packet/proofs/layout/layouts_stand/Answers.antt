use Rattle.packet.proofs.Layouts.{instruction_stands, fragment_stands, datagram_stands}
use Rattle.packet.proofs.Sendings.{sending_stands}
use Rattle.packet.proofs.layout.layouts_stand.Goals as goal

pub returns : goal.returns
returns c = record { instruction = instruction_stands; fragment = fragment_stands; datagram = datagram_stands; sending = sending_stands }
