use Rattle.protocol.proofs.Computed.{edges}
use Rattle.protocol.proofs.edges.edges_stand.Goals as goal

pub returns : goal.returns
returns c = edges
