use Rattle.trace.proofs.Reading.{short}
use Rattle.trace.proofs.reader.limit_stands.Goals as goal

pub returns : goal.returns
returns c = short
