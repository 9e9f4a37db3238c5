use Rattle.std.proofs.Common.{rules}
use Rattle.journal.proofs.Pushes.{push_ok}
use Rattle.journal.proofs.journal.Journal.push.Goals as goal

pub returns : goal.returns
returns c = push_ok c.args.self.now c.args.entry _ (search rules) (search rules) c.if-at-ge-CAPACITY.false
