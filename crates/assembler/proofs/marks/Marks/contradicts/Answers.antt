use Rattle.std.proofs.Common.{sym, ◌∙◌, ⊎_elim}
use Rattle.std.proofs.lemmas.Bool.{both_ways, cases_Bool}
use Rattle.packet.specs.Pieces.{piece_of}
use Rattle.assembler.proofs.Agreeing.{clash_held, clash_past, clash_above, clash_none}
use Rattle.assembler.proofs.Tests.{formed}
use Rattle.assembler.proofs.marks.Marks.contradicts.Goals as goal

pub returns-then-has : goal.returns-then-has
returns-then-has c =
    let m = c.args.self in
    let p = piece_of c.args.piece.fragment in
    clash_held m.held m.last c.args.buf.now p m.in_order (formed p c.args.piece.kept).number c.repeats.result (sym c.if-has.ensures) c.repeats.ensures

pub returns-then-past_last : goal.returns-then-past_last
returns-then-past_last c =
    let m = c.args.self in
    let p = piece_of c.args.piece.fragment in
    c.if-past_last.true ∙ sym (clash_past m.held m.last c.args.buf.now p m.in_order (formed p c.args.piece.kept).number (sym c.if-has.ensures) (sym c.if-past_last.ensures))

pub returns-then-fragment : goal.returns-then-fragment
returns-then-fragment c =
    let m = c.args.self in
    let p = piece_of c.args.piece.fragment in
    let number = (formed p c.args.piece.kept).number in
    ⊎_elim
    (λ r. r ∙ sym (clash_above m.held m.last c.args.buf.now p m.in_order number c.if-fragment.true (sym c.has_above.ensures ∙ r)))
    (λ r. r ∙ sym (clash_none m.held m.last c.args.buf.now p m.in_order number (sym c.if-has.ensures) (sym c.if-past_last.ensures) (λ _. sym c.has_above.ensures ∙ r)))
    (cases_Bool c.has_above.result)

pub returns-else-fragment : goal.returns-else-fragment
returns-else-fragment c =
    let m = c.args.self in
    let p = piece_of c.args.piece.fragment in
    c.if-fragment.false
    ∙ sym (clash_none m.held m.last c.args.buf.now p m.in_order (formed p c.args.piece.kept).number (sym c.if-has.ensures) (sym c.if-past_last.ensures) (λ l. absurd (both_ways c.args.piece.fragment.last c.if-fragment.false l)))
