use Rattle.protocol.proofs.Keeping.{all_stay}
use Rattle.protocol.proofs.own.numbers_stay.Goals as goal

pub returns : goal.returns
returns g c = all_stay g.K.State.kind g.L.State.kind
