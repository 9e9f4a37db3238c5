-- Every call keeps what holds between two ends, for kinds that keep their laws.
use Rattle.state.specs.Kind.{Kind, Itself, Onward, Reaches}
use Rattle.protocol_session.proofs.Changes.{change_forth, change_back}
use Rattle.protocol_session.proofs.Kept.{Keeps}
use Rattle.protocol_session.proofs.Receives.{take_received}
use Rattle.protocol_session.proofs.Writes.{tick_forth, tick_back}

pub calls_keep : (K L : Kind) → Itself K → Onward K → Reaches L → Keeps K L
calls_keep K L itself onward reaches = record {
  change_sent = λ x p y q forth back t. change_forth K L x p y q t onward forth;
  change_received = λ x p y q forth back t. change_back K L x p y q t back;
  tick_sent = λ x p y q forth back l time out. tick_forth K L x p y q time out forth itself l;
  tick_received = λ x p y q forth back l time out. tick_back K L x p y q time out forth back l;
  take_received = λ x p y q forth back l time bytes supposed. take_received L K reaches y q x p back forth l time bytes supposed;
}
