-- The stage at which reading a datagram fails.
use Rattle.packet.specs.declared.refusal.ReadFault.{ReadFault}
use Rattle.packet.specs.declared.refusal.ReadFault.TheVariants as reading
use Rattle.protocol.specs.declared.fault.TakeFault.{TakeFault}
use Rattle.protocol.specs.declared.fault.TakeFault.TheVariants as fault

-- the stage of a fault in reading a datagram
abbrev pub read_stage : ReadFault → TakeFault
read_stage (reading.Datagram f) = fault.Datagram f
read_stage (reading.Fragment f) = fault.Fragment f
