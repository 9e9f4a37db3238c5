use Rattle.endpoint.proofs.Computed.{edges}
use Rattle.endpoint.proofs.edges.edges_stand.Goals as goal

pub returns : goal.returns
returns c = edges
