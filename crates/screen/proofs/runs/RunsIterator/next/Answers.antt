use Rattle.std.proofs.Common.{◌+◌, ◌-◌, ◌≤◌, length, take, drop, ap, arith}
use Rattle.std.proofs.lemmas.List.{length-take}
use Rattle.screen.proofs.FirstRun.{none_found, found}
use Rattle.screen.proofs.runs.RunsIterator.next.Goals as goal

pub returns-in_err-position-clause-steps : goal.returns-in_err-position-clause-steps
returns-in_err-position-clause-steps c =
    let none = none_found c.args.self.now c.in_err-position.ensures in
    rw c.from_residual.ensures (none, none)

pub overflow_add-end : goal.overflow_add-end
overflow_add-end c =
    let f = found c.args.self.now c.in_ok-position.position c.run_length.result c.in_ok-position.ensures c.run_length.ensures in
    omega (arith, f.low, f.inside)

pub invariant_of-self : goal.invariant_of-self
invariant_of-self c =
    let f = found c.args.self.now c.in_ok-position.position c.run_length.result c.in_ok-position.ensures c.run_length.ensures in
    record { on_screen = omega (arith, f.low, f.inside); between_runs = f.fresh }

pub invariant_of-result : goal.invariant_of-result
invariant_of-result c =
    let f = found c.args.self.now c.in_ok-position.position c.run_length.result c.in_ok-position.ensures c.run_length.ensures in
    let p = c.in_ok-position.position in
    let n : length (take (p + c.run_length.result - p) (drop p c.args.self.now.difference.new.now)) ≤ c.run_length.result = omega (arith, length-take (p + c.run_length.result - p) (drop p c.args.self.now.difference.new.now)) in
    record { on_screen = f.low; in_row = omega (arith, f.inside, n) }

pub returns-clause-steps : goal.returns-clause-steps
returns-clause-steps c =
    let f = found c.args.self.now c.in_ok-position.position c.run_length.result c.in_ok-position.ensures c.run_length.ensures in
    f.runs

pub returns-clause-goes : goal.returns-clause-goes
returns-clause-goes c =
    let f = found c.args.self.now c.in_ok-position.position c.run_length.result c.in_ok-position.ensures c.run_length.ensures in
    record { on = λ _. (tt, tt, omega (arith, ap length f.runs)); keeps = tt; rests = λ _. tt }
