-- The session law stands for any two kinds that keep their laws.
use Rattle.state.specs.Kind.{Kind, Exact, Itself, Onward, Reaches}
use Rattle.protocol_session.specs.Law.{SessionLaw}
use Rattle.protocol_session.proofs.Calls.{calls_keep}
use Rattle.protocol_session.proofs.Changes.{opened_inv}
use Rattle.protocol_session.proofs.Halving.{halved}
use Rattle.protocol_session.proofs.Kept.{inv_step}
use Rattle.protocol_session.proofs.Whole.{law}

pub session_law : (K L : Kind) → Exact K → Itself K → Onward K → Reaches K → Exact L → Itself L → Onward L → Reaches L → SessionLaw K L
session_law K L exact itself onward reaches exact' itself' onward' reaches' =
    let k = calls_keep K L itself onward reaches' in
    let k' = calls_keep L K itself' onward' reaches in
    law K L k k'
    (halved K L exact itself onward reaches (λ w c s i. inv_step K L k k' w c i s))
    (halved L K exact' itself' onward' reaches' (λ w c s i. inv_step L K k' k w c i s))
    (opened_inv K L itself itself')
