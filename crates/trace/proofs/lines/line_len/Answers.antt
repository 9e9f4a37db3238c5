use Rattle.std.proofs.Common.{eqb, length, unwrap_or, ap, ◌∙◌, rules}
use Rattle.std.proofs.lemmas.Iterator.{YieldsList-from_slice}
use Rattle.std.proofs.lemmas.Iterator.Search.{position_from_yields_List}
use Rattle.trace.proofs.Cuts.{first_or_all}
use Rattle.trace.proofs.lines.line_len.Goals as goal

pub returns-clause-value : goal.returns-clause-value
returns-clause-value c =
    let xs = c.args.text.now in
    c.unwrap_or.ensures
    ∙ ap (λ o. unwrap_or o (length xs)) (position_from_yields_List (λ b. eqb b 10) _ _ _ c.position.ensures.ran (YieldsList-from_slice xs c.iter.ensures.rest) (λ x b q k. search rules))
    ∙ first_or_all xs
