-- The number of each refusal to send an instruction or to take what was sent.
use Rattle.std.specs.Prelude.{ℕ}
use Rattle.packet.specs.declared.refusal.SendRefusal.{SendRefusal}
use Rattle.packet.specs.declared.refusal.SendRefusal.TheVariants.{ShortBuffer, LongDiff}
use Rattle.packet.specs.declared.refusal.DatagramFault.{DatagramFault}
use Rattle.packet.specs.declared.refusal.DatagramFault.TheVariants.{WrongLength, OwnDirection}
use Rattle.packet.specs.declared.refusal.FragmentFault.{FragmentFault}
use Rattle.packet.specs.declared.refusal.FragmentFault.TheVariants.{Malformed, Contradiction}
use Rattle.packet.specs.declared.refusal.ReadFault.{ReadFault}
use Rattle.packet.specs.declared.refusal.ReadFault.TheVariants.{Datagram, Fragment}
use Rattle.packet.specs.declared.refusal.InstructionFault.{InstructionFault}
use Rattle.packet.specs.declared.refusal.InstructionFault.TheVariants.{NotAnInstruction, NumbersApart, AckAhead}

-- the number of a refusal to send: the buffer is under 2,224 bytes; the diff is over 2,031
abbrev pub send_refusal_of : SendRefusal → ℕ
send_refusal_of ShortBuffer = 5
send_refusal_of LongDiff = 9

-- the number of a datagram's fault: its length; the direction in which this end sends itself
abbrev pub datagram_fault_of : DatagramFault → ℕ
datagram_fault_of WrongLength = 10
datagram_fault_of OwnDirection = 11

-- the number of a fragment's fault: it keeps not to the layout; it contradicts a held one of its sending
abbrev pub fragment_fault_of : FragmentFault → ℕ
fragment_fault_of Malformed = 12
fragment_fault_of Contradiction = 13

-- the number of a fault in reading a datagram with the fragment in it
abbrev pub read_fault_of : ReadFault → ℕ
read_fault_of (Datagram f) = datagram_fault_of f
read_fault_of (Fragment f) = fragment_fault_of f

-- the number of an instruction's fault: it is too short or of another version; its numbers lie apart; its ack is above the last number sent
abbrev pub instruction_fault_of : InstructionFault → ℕ
instruction_fault_of NotAnInstruction = 14
instruction_fault_of NumbersApart = 15
instruction_fault_of AckAhead = 16
