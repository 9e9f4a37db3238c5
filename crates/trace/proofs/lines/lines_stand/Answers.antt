use Rattle.trace.proofs.Cuts.{rejoins}
use Rattle.trace.proofs.lines.lines_stand.Goals as goal

pub returns : goal.returns
returns c = rejoins
