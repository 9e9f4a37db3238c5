use Rattle.std.proofs.Common.{◌≡◌, ◌*◌, ◌%◌, ◌^◌, ap, ◌∙◌, arith}
use Rattle.packet.specs.Pieces.{piece_of}
use Rattle.std.proofs.lemmas.Nat.{pow_below}
use Rattle.assembler.proofs.Offering.{sound_with}
use Rattle.assembler.proofs.marks.Marks.with.Goals as goal

pub invariant_of-result : goal.invariant_of-result
invariant_of-result c =
    let m = c.args.self in
    let p = piece_of c.args.piece.fragment in
    let mark : 1 * 2 ^ c.number.result % 256 ≡ 2 ^ p.number = omega (arith, pow_below c.number.result 8 c.number.ensures.bound) ∙ ap (λ n. 2 ^ n) c.number.ensures.value in
    record { in_order = rw (mark, c.last_with.ensures) (sound_with m.held m.last c.args.buf.now p m.in_order c.args.piece.kept c.told-buf c.requires) }
