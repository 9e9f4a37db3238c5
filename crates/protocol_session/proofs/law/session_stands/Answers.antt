use Rattle.protocol_session.proofs.Standing.{session_law}
use Rattle.protocol_session.proofs.law.session_stands.Goals as goal

pub returns : goal.returns
returns g c =
    let k = g.met.K.State in
    let l = g.met.L.State in
    session_law g.K.State.kind g.L.State.kind k.exact k.itself k.onward k.reaches l.exact l.itself l.onward l.reaches
