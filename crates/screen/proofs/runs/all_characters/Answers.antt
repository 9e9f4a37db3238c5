use Rattle.std.proofs.Common.{◌≡◌, ◌∙◌, ◌&&◌, Bool, true, ℕ, List, [], ◌∷◌, sym, rules, tests}
use Rattle.std.specs.List.{fold}
use Rattle.std.proofs.Math.Bool.{and_assoc, and-true}
use Rattle.std.proofs.lemmas.Iterator.{YieldsList-from_slice}
use Rattle.std.proofs.lemmas.Iterator.Consumers.{fold_from_yields_List}
use Rattle.screen.specs.Runs.{is_character, all_characters}
use Rattle.screen.proofs.runs.all_characters.Goals as goal

-- the characters so far and the rest
kept : (b : Bool) (xs : List ℕ) → fold (λ all x. all && is_character x) b xs ≡ (b && all_characters xs)
kept b [] = sym (and-true b)
kept b (x ∷ xs) = kept (b && is_character x) xs ∙ and_assoc b (is_character x) (all_characters xs)

pub returns : goal.returns
returns c =
    fold_from_yields_List _ (λ all x. all && is_character x) true _ c.fold.ensures.ran (YieldsList-from_slice c.args.cells.now cc) (λ a x b q k. search (rules, tests))
    ∙ kept true c.args.cells.now
