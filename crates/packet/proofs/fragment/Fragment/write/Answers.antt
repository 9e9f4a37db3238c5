use Rattle.std.proofs.Common.{◌∙◌, ap, arith}
use Rattle.state.specs.BigEndian.{two}
use Rattle.packet.specs.Fragments.{fragment_bytes}
use Rattle.packet.proofs.Numbers.{two_is, eight_is}
use Rattle.packet.proofs.Writes.{adds_more, adds_same}
use Rattle.packet.proofs.fragment.Fragment.write.Goals as goal

pub returns : goal.returns
unfolding fragment_bytes
returns c =
    let sending = c.to_be_bytes.ensures ∙ eight_is c.args.self.now.sending (omega arith) in
    let field = c.to_be_bytes-2.ensures ∙ two_is c.field.result (omega arith) ∙ ap two c.field.ensures in
    adds_more (adds_same sending c.put.ensures) (adds_more (adds_same field c.put-2.ensures) c.put-3.ensures)
