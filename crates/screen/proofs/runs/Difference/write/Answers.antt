use Rattle.std.proofs.Common.{◌≡◌, ◌+◌, ◌-◌, length, sym, ap, ◌∙◌, arith}
use borrow.Rule.Slice.PartMut.{put_mid}
use Rattle.std.specs.List.{concat}
use Rattle.std.proofs.lemmas.List.{length-append}
use Rattle.screen.specs.declared.runs.Runs.{Runs}
use Rattle.screen.specs.Runs.{put}
use Rattle.screen.specs.Placed.{put_part, put_put}
use Rattle.screen.specs.Steps.{bytes_of, runs_left}
use Rattle.screen.specs.Stretches.{listed_joined}
use Rattle.screen.proofs.runs.Difference.write.Goals as goal

pub loop-run-init : goal.loop-run-init
loop-run-init c =
    let b = c.args.self.old.now in
    let t = c.args.self.new.now in
    let left = λ (s : Runs). concat (runs_left s) in
    let all = ap left c.into_iter-run-iterator.ensures.into_iter_gives ∙ ap concat c.runs-run-items.ensures ∙ listed_joined b t 0 320 in
    record { place = omega (arith, ap length all); buffer = ap (put c.args.out.now 0) all }

pub loop-run-preserved : goal.loop-run-preserved
loop-run-preserved c =
    let at = c.loop-run.at in
    let out = c.loop-run.out in
    let n = c.size.result in
    let bytes = bytes_of c.in-Some.run' in
    let s = c.next.new.self in
    let rest = concat (runs_left s) in
    let steps = c.in-Some.ensures.steps in
    let long = ap (λ xs. length (concat xs)) steps in
    let room = length-append bytes rest in
    let count : at + n - at ≡ length bytes = omega (arith, c.size.ensures) in
    record {
      place = omega (arith, c.loop-run.invariant.place, c.size.ensures, long, room);
      buffer =
          ap (λ xs. put xs (at + n) rest) (ap (put_mid at (at + n - at) out) c.write.ensures ∙ put_part out bytes at (at + n - at) count)
          ∙ put_put out at bytes rest (at + n) (omega (arith, c.size.ensures)) (omega (arith, c.loop-run.invariant.place, c.size.ensures, long, room, c.requires))
          ∙ ap (λ xs. put out at (concat xs)) (sym steps)
          ∙ c.loop-run.invariant.buffer;
    }
