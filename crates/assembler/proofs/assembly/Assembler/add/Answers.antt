use Rattle.std.proofs.Common.{◌≡◌, length, sym, refl, ◌∙◌, rules}
use Rattle.packet.specs.Pieces.{piece_of}
use Rattle.assembler.proofs.Offering.{add_part, add_whole, add_kept, full_most, collects_own}
use Rattle.assembler.proofs.assembly.Assembler.add.Goals as goal

pub returns-in-Some : goal.returns-in-Some
returns-in-Some c =
    let self = c.args.self.now in
    let p = piece_of c.args.piece.fragment in
    let long : length self.buf ≡ 2048 = search rules in
    let r = c.requires in
    let m = c.with-marks.result in
    let e = c.with-marks.ensures in
    let full = sym c.full_length.ensures ∙ c.in-Some.is in (
      add_whole self.state c.args.c self.buf p r.state r.own c.args.piece.kept long r.agrees m.held m.last c.with-marks.new.buf c.in-Some.length e.held e.last e.bytes full,
      full_most m.held m.last c.in-Some.length m.in_order full,
      collects_own self.state c.args.c self.buf p r.state r.own c.args.piece.kept long r.agrees,
      refl,
      add_kept self.state c.args.c self.buf p r.state r.own c.args.piece.kept long r.agrees c.with-marks.new.buf e.bytes,
    )

pub returns-in-None : goal.returns-in-None
returns-in-None c =
    let self = c.args.self.now in
    let long : length self.buf ≡ 2048 = search rules in
    let r = c.requires in
    let m = c.with-marks.result in
    let e = c.with-marks.ensures in
    add_part self.state c.args.c self.buf (piece_of c.args.piece.fragment) r.state r.own c.args.piece.kept long r.agrees m.held m.last c.with-marks.new.buf e.held e.last e.bytes (sym c.full_length.ensures ∙ c.in-None.is)
