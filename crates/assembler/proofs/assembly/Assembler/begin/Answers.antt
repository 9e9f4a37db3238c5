use Rattle.std.proofs.Common.{◌≡◌, true, length, refl, ap, ◌∙◌, rules}
use Rattle.std.proofs.lemmas.Bool.{both_ways}
use Rattle.packet.specs.Pieces.{piece_of}
use Rattle.assembler.specs.Marks.{with_mark, last_with}
use Rattle.assembler.specs.Holding.{holding}
use Rattle.assembler.proofs.Offering.{begin_alone, begin_free, begin_part}
use Rattle.assembler.proofs.assembly.Assembler.begin.Goals as goal
use Rattle.assembler.proofs.assembly.Assembler.begin.Goals.{else-fragment-eq0-via-then-fragment-eq0+else-fragment, else-fragment-eq0-via-else-fragment-eq0}

pub returns-then-fragment : goal.returns-then-fragment
returns-then-fragment c =
    let self = c.args.self.now in
    (begin_alone (holding self.state self.buf) (piece_of c.args.piece.fragment) c.requires c.args.piece.kept c.if-fragment-eq0.true c.if-fragment.true, c.requires, refl, refl)

pub with-requires : goal.with-requires
with-requires c =
    let self = c.args.self.now in
    let long : length self.buf ≡ 2048 = search rules in
    begin_free (holding self.state self.buf) (piece_of c.args.piece.fragment) c.requires c.args.piece.kept self.buf long _ _ c.none.ensures.0 c.none.ensures.1

pub returns : goal.returns
returns c =
    let self = c.args.self.now in
    let p = piece_of c.args.piece.fragment in
    let long : length self.buf ≡ 2048 = search rules in
    let more : (p.number ≡ 0) × (p.last ≡ true) → ⊥ =
    λ h. elim c.else-fragment-eq0.branch [
      | else-fragment-eq0-via-then-fragment-eq0+else-fragment w ↦ both_ways p.last w.if-fragment.false h.1
      | else-fragment-eq0-via-else-fragment-eq0 w ↦ w.if-fragment-eq0.false h.0
    ] in
    let e = c.with.ensures in
    begin_part (holding self.state self.buf) p c.requires c.args.piece.kept self.buf long _ _ _ (e.held ∙ ap (λ h. with_mark h p.number) c.none.ensures.0) (e.last ∙ ap (λ l. last_with l p) c.none.ensures.1) e.bytes more
