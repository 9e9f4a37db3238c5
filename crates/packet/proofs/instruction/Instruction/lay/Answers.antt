use Rattle.std.proofs.Common.{◌∙◌, arith}
use Rattle.packet.specs.Instructions.{instruction_bytes}
use Rattle.packet.proofs.Numbers.{four_is}
use Rattle.packet.proofs.Writes.{adds_more, adds_same}
use Rattle.packet.proofs.instruction.Instruction.lay.Goals as goal

pub returns : goal.returns
unfolding instruction_bytes
returns c =
    let s = c.args.self.now in
    let old = c.to_be_bytes.ensures ∙ four_is s.old (omega arith) in
    let new = c.to_be_bytes-2.ensures ∙ four_is s.new (omega arith) in
    let ack = c.to_be_bytes-3.ensures ∙ four_is s.ack (omega arith) in
    let throwaway = c.to_be_bytes-4.ensures ∙ four_is s.throwaway (omega arith) in
    adds_more c.put.ensures
    (adds_more (adds_same old c.put-2.ensures)
    (adds_more (adds_same new c.put-3.ensures)
    (adds_more (adds_same ack c.put-4.ensures)
    (adds_more (adds_same throwaway c.put-5.ensures) c.put-6.ensures))))
