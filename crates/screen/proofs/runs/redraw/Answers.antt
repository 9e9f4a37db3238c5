use Rattle.std.proofs.Common.{◌+◌, ◌-◌, length, sym, ap, ◌∙◌, arith}
use Rattle.state.specs.Parts.{parts}
use borrow.Rule.Slice.PartMut.{put_mid}
use Rattle.screen.specs.Runs.{put, run_read}
use Rattle.screen.specs.Placed.{put_part, length_put}
use Rattle.screen.proofs.Readers.{read_good}
use Rattle.screen.proofs.runs.redraw.Goals as goal

pub loop-rest-smaller : goal.loop-rest-smaller
loop-rest-smaller c =
    let l = c.loop-rest in
    let f = read_good l.cells l.rest.now l.free (length c.args.d.now - length l.rest.now) c.in_ok-run.run' c.in_ok-run.behind (rw c.in_ok-run.ensures.ok_part at c.read.ensures) in
    omega (arith, f.shorter)

pub loop-rest-preserved : goal.loop-rest-preserved
loop-rest-preserved c =
    let l = c.loop-rest in
    let d = c.args.d.now in
    let at = length d - length l.rest.now in
    let r = c.in_ok-run.run' in
    let text = r.characters.now in
    let rest = c.in_ok-run.behind.now in
    let i = l.invariant in
    let f = read_good l.cells l.rest.now l.free at r c.in_ok-run.behind (rw c.in_ok-run.ensures.ok_part at c.read.ensures) in
    let placed = ap (put_mid r.position (c.end-free.result - r.position) l.cells) c.copy_from_slice.ensures.after ∙ put_part l.cells text r.position (c.end-free.result - r.position) (omega (arith, c.end-free.ensures)) in (
      ap length placed ∙ length_put l.cells r.position text (omega (arith, f.inside, i.0)) ∙ i.0,
      omega (arith, f.shorter, i.1),
      ap (λ xs. parts run_read (record { cells = xs; free = c.end-free.result }) (length d - length rest) 0 rest) placed
          ∙ ap (λ n. parts run_read (record { cells = put l.cells r.position text; free = n }) (length d - length rest) 0 rest) c.end-free.ensures
          ∙ ap (λ n. parts run_read (record { cells = put l.cells r.position text; free = r.position + length text }) n 0 rest) {x = length d - length rest} {y = at + (3 + length text)} (omega (arith, f.shorter, i.1))
          ∙ sym f.step ∙ i.2,
    )
