use Rattle.std.proofs.Common.{ℕ, ◌-◌, ◌%◌, ◌+◌, Bool, not, ◌==◌, take, drop, ap, ◌∙◌, arith, rules, tests}
use Rattle.std.specs.List.{zip}
use Rattle.std.proofs.lemmas.Iterator.{YieldsList-from_slice, YieldsList-from_zip}
use Rattle.std.proofs.lemmas.Iterator.Consumers.{YieldsList-at, count_from_yields_List}
use Rattle.std.proofs.lemmas.Iterator.Search.{YieldsList-from_take_while}
use Rattle.std.proofs.lemmas.List.Folds.{length-prefix_len}
use Rattle.screen.specs.Runs.{differing}
use Rattle.screen.proofs.FirstRun.{pairs_differing}
use Rattle.screen.proofs.runs.Difference.run_length.Goals as goal

pub returns : goal.returns
returns c =
    let b = c.args.self.old.now in
    let t = c.args.self.new.now in
    let i = c.args.position in
    let n = i - i % 40 + 40 - i in
    let P : ℕ × ℕ → Bool = λ p. not (p.0 == p.1) in
    let xs = take n (drop i b) in
    let ys = take n (drop i t) in
    count_from_yields_List c.take_while.result c.count.result c.count.ensures.ran
    (YieldsList-from_take_while _ P
    (YieldsList-at c.take_while.ensures.source (YieldsList-from_zip (YieldsList-at c.zip.ensures.first (YieldsList-from_slice xs cc)) (YieldsList-from_slice ys cc)))
    c.take_while.ensures.closure c.take_while.ensures.done (λ x b q k. search (rules, tests)))
    ∙ length-prefix_len P (zip xs ys)
    ∙ pairs_differing b t i n (omega arith) (omega arith)
    ∙ ap (differing b t i) {x = n} {y = 40 - i % 40} (omega arith)
