use Rattle.endpoint.proofs.Computed.{exchanged}
use Rattle.endpoint.proofs.edges.exchange_stands.Goals as goal

pub returns : goal.returns
returns c = exchanged
