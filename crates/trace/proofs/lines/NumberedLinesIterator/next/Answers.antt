use Rattle.std.proofs.Common.{length, ap, arith}
use Rattle.trace.proofs.Cuts.{next_left}
use Rattle.trace.proofs.lines.NumberedLinesIterator.next.Goals as goal

pub returns-clause-steps : goal.returns-clause-steps
returns-clause-steps c = next_left c.args.self.now.text.now c.in_ok-line.line.now c.args.self.now.place.at c.next_line.new.place.at c.args.self.now.count.lines c.next_line.new.count.lines (search arith) c.args.self.now.counted c.in_ok-line.ensures.line c.in_ok-line.ensures.count

pub returns-clause-goes : goal.returns-clause-goes
returns-clause-goes c = record { on = λ _. (tt, tt, omega (arith, ap length (returns-clause-steps c))); keeps = tt; rests = λ _. tt }
