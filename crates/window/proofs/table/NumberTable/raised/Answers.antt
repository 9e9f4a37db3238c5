use Rattle.std.proofs.Common.{refl, ap, ◌∙◌}
use Rattle.window.specs.Numbers.{recorded, starting_at}
use Rattle.window.proofs.Marks.{holding, held_raised, same_numbers}
use Rattle.window.proofs.table.NumberTable.raised.Goals as goal

pub returns : goal.returns
returns c =
    let t = c.args.self in
    let to = c.args.to in
    same_numbers _ (starting_at (recorded t) to) refl refl (λ n. ap (λ m. holding to m n) c.shifted.ensures ∙ held_raised t.anchor t.marks to n c.requires)
