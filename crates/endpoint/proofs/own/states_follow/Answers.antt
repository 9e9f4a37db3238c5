use Rattle.endpoint.proofs.Chains.{all_follow}
use Rattle.endpoint.proofs.own.states_follow.Goals as goal

pub returns : goal.returns
returns g c = let m = g.met.K.State in all_follow g.K.State.kind g.L.State.kind m.itself m.onward
