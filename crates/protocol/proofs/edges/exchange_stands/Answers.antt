use Rattle.protocol.proofs.Computed.{exchanged}
use Rattle.protocol.proofs.edges.exchange_stands.Goals as goal

pub returns : goal.returns
returns c = exchanged
