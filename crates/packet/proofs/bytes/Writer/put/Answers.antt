use Rattle.std.proofs.Common.{◌≡◌, ◌+◌, ◌-◌, ◌++◌, length, take, drop, sym, refl, ap, ◌∙◌, arith}
use Rattle.std.proofs.lemmas.List.{drop-drop, length-drop}
use borrow.Rule.Slice.PartMut.{put_mid}
use Rattle.std.proofs.lemmas.Slice.{take-put_mid, drop-put_mid}
use Rattle.packet.proofs.bytes.Writer.put.Goals as goal

pub returns : goal.returns
returns c =
    let w = c.args.self.now in
    let part = c.args.part.now in
    let ys = c.copy_from_slice.new.self in
    let same : ys ≡ part = c.copy_from_slice.ensures.after in
    let long : length ys ≡ length part = ap length same in
    let k = w.at + length part in
    let left : drop k (put_mid w.at (k - w.at) w.out.now ys) ≡ drop k w.out.now = drop-put_mid w.at _ w.out.now ys k (omega arith) w.inside (omega arith) in
    record {
      buffer = refl;
      behind = take-put_mid w.at _ w.out.now ys k (omega arith) w.inside ∙ ap (λ z. take w.at w.out.now ++ z) same;
      left = left ∙ sym (drop-drop (length part) w.at w.out.now);
      room = rw left (simp length-drop (omega arith));
    }
