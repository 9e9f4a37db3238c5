use Rattle.std.proofs.Common.{ℕ, List, length, ◌∙◌, arith, rules, tests}
use Rattle.std.proofs.lemmas.Iterator.{YieldsList-from_map}
use Rattle.std.proofs.lemmas.Iterator.Consumers.{YieldsList-at, YieldsList-from_first, sum_by_from_yields_List, fits_by_from_yields_list}
use Rattle.screen.specs.Runs.{runs_listed}
use Rattle.screen.specs.Steps.{bytes_of, runs_left}
use Rattle.screen.specs.Stretches.{runs_bytes, listed_length}
use Rattle.screen.proofs.runs.Difference.size.Goals as goal

pub sum-requires-clause-fits : goal.sum-requires-clause-fits
sum-requires-clause-fits c =
    let b = c.args.self.old.now in
    let t = c.args.self.new.now in
    let ys = runs_listed b t 0 320 in
    fits_by_from_yields_list (λ (xs : List ℕ). length xs) ys c.map.result _
    (YieldsList-from_map _ (λ (xs : List ℕ). length xs) (YieldsList-at c.map.ensures.source (YieldsList-from_first bytes_of runs_left ys c.runs.ensures)) c.map.ensures.closure (λ x r q k. search (rules, tests)))
    (omega (arith, listed_length b t 0 320, runs_bytes b t 0 320))

pub returns-clause-value : goal.returns-clause-value
returns-clause-value c =
    let b = c.args.self.old.now in
    let t = c.args.self.new.now in
    let ys = runs_listed b t 0 320 in
    sum_by_from_yields_List (λ (xs : List ℕ). length xs) ys c.map.result _ c.sum.ensures.ran
    (YieldsList-from_map _ (λ (xs : List ℕ). length xs) (YieldsList-at c.map.ensures.source (YieldsList-from_first bytes_of runs_left ys c.runs.ensures)) c.map.ensures.closure (λ x r q k. search (rules, tests)))
    ∙ listed_length b t 0 320

pub returns-clause-bound : goal.returns-clause-bound
returns-clause-bound c = omega (arith, returns-clause-value c, runs_bytes c.args.self.old.now c.args.self.new.now 0 320)
