use Rattle.std.proofs.Common.{◌+◌, ◌++◌, ◌-◌, length, drop, take, slice_index_or, ap, ◌∙◌, sym, arith}
use Rattle.std.proofs.lemmas.List.{length-append, length-drop, length-take}
use Rattle.std.proofs.lemmas.List.Folds.{length-flat_map-take}
use borrow.Rule.Slice.PartMut.{put_mid}
use Rattle.journal.specs.declared.entry.Entry.TheVariants.{Key}
use Rattle.journal.specs.Entries.{entries_bytes, entry_bytes}
use Rattle.journal.specs.Bytes.{bytes_more}
use Rattle.journal.proofs.Writing.{behind}
use Rattle.journal.proofs.kind.put_all.Goals as goal

pub put-requires : goal.put-requires
put-requires c =
    let at = c.loop-entry.at in
    let out = c.loop-entry.out in
    omega (arith, c.requires, c.loop-entry.invariant.place, c.loop-entry.auto.out, length-take (length out - at) (drop at out), length-drop at out, length-flat_map-take entry_bytes c.args.entries.now c.loop-entry.entry-index (Key 0) c.loop-entry-test.true)

pub loop-entry-preserved : goal.loop-entry-preserved
loop-entry-preserved c =
    let es = c.args.entries.now in
    let i = c.loop-entry.entry-index in
    let at = c.loop-entry.at in
    let out = c.loop-entry.out in
    let e = slice_index_or es i (Key 0) in
    let more = bytes_more es i (Key 0) c.loop-entry-test.true in
    let front = entries_bytes (take i es) in
    let room = length-flat_map-take entry_bytes es i (Key 0) c.loop-entry-test.true in
    record {
      place = omega (arith, c.loop-entry.invariant.place, c.width-at.ensures, ap length more, length-append front (entry_bytes e));
      buffer =
          ap (put_mid at (length out - at) out) c.put.ensures
          ∙ behind c.args.out.now out front (entry_bytes e) at _ c.loop-entry.invariant.buffer c.loop-entry.invariant.place (omega arith) (omega (arith, c.requires, c.loop-entry.invariant.place, room))
          ∙ ap (λ x. (front ++ entry_bytes e) ++ drop (at + x) c.args.out.now) (sym c.width-at.ensures)
          ∙ ap (λ x. x ++ drop (at + c.width-at.result) c.args.out.now) (sym more);
    }
