use Rattle.std.proofs.Common.{◌-◌, ◌/◌, ◌%◌, length, set, ap, ◌∙◌, arith}
use borrow.Rule.Slice.PartMut.{put_mid}
use Rattle.std.proofs.lemmas.List.{length-set}
use Rattle.screen.specs.Placed.{put_part, put_three, put_whole}
use Rattle.screen.specs.Runs.{run_bytes}
use Rattle.screen.proofs.runs.Run.write.Goals as goal

pub returns : goal.returns
returns c =
    let xs = c.args.out.now in
    let i = c.args.self.position in
    let ys = c.args.self.characters.now in
    let zs = set (set (set xs 0 (i / 40)) 1 (i % 40)) 2 (length ys) in
    ap (put_mid 3 (length zs - 3) zs) c.copy_from_slice.ensures.after
    ∙ put_part zs ys 3 (length zs - 3) (omega (arith, c.requires, length-set (set (set xs 0 (i / 40)) 1 (i % 40)) 2 (length ys), length-set (set xs 0 (i / 40)) 1 (i % 40), length-set xs 0 (i / 40)))
    ∙ put_three xs 0 (i / 40) (i % 40) (length ys) ys (omega (arith, c.requires))
    ∙ put_whole xs (run_bytes i ys) (omega (arith, c.requires))
