use Rattle.std.proofs.Common.{◌+◌, ◌≤◌, ◌∙◌, ap, arith}
use Rattle.packet.specs.declared.datagram.Direction.{Direction}
use Rattle.packet.specs.declared.datagram.Direction.TheVariants.{TowardDepot, TowardReader}
use Rattle.packet.specs.Eight.{eight}
use Rattle.packet.specs.Datagrams.{top_bit, top_of, datagram_around}
use Rattle.packet.proofs.Numbers.{eight_is}
use Rattle.packet.proofs.Writes.{adds_more, adds_same}
use Rattle.packet.proofs.datagram.Datagram.write.Goals as goal

top_most : (d : Direction) → top_of d ≤ top_bit
top_most TowardDepot = omega arith
top_most TowardReader = omega arith

pub returns : goal.returns
unfolding datagram_around
returns c =
    let s = c.args.self.now in
    let word = c.to_be_bytes.ensures ∙ eight_is (c.top.result + s.number) (omega (arith, top_most s.direction, c.top.ensures)) ∙ ap (λ top. eight (top + s.number)) c.top.ensures in
    adds_more (adds_same word c.put.ensures) (adds_more c.put-2.ensures c.write.ensures)
