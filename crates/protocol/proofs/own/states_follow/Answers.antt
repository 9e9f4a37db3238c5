use Rattle.protocol.proofs.Chains.{all_follow}
use Rattle.protocol.proofs.own.states_follow.Goals as goal

pub returns : goal.returns
returns g c = let m = g.met.K.State in all_follow g.K.State.kind g.L.State.kind m.itself m.onward
