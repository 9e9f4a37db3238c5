-- The states that an end has sent follow each other, and the current one follows them, so that no tick is refused for that.
use Rattle.std.specs.Prelude.{◌≡◌, ℕ, ◌≤◌, true, List, length, Ok, Err, ◌≢◌}
use Rattle.state.specs.Kind.{Kind}
use Rattle.packet.specs.declared.datagram.Direction.{Direction}
use Rattle.protocol.specs.declared.fault.TickRefusal.TheVariants.{NotFollowing}
use Rattle.endpoint.specs.End.{End, Holding, state_at, opened, changed}
use Rattle.endpoint.specs.Ticking.{AfterTick, ticked}
use Rattle.endpoint.specs.Taking.{AfterTake, taken}
use Rattle.endpoint.specs.Own.{Own}

module _ (K L : Kind) (h : Holding K L) where
  -- the end and its stores after a change, a tick and a take
  abbrev pub after_change : End K L → Holding K L
  after_change e = record { end = e; sent_store = h.sent_store; received_store = h.received_store }

  abbrev pub after_tick : AfterTick K L → Holding K L
  after_tick r = record { end = r.end; sent_store = r.sent_store; received_store = h.received_store }

  abbrev pub after_take : AfterTake K L → Holding K L
  after_take r = record { end = r.end; sent_store = h.sent_store; received_store = r.received_store }

  -- the state sent under a number
  abbrev pub sent_state : ℕ → K.Contents
  sent_state n = state_at K h.end.sent h.sent_store n

pub record Chained (K L : Kind) (h : Holding K L) : Type 0 where
  -- both stores are 16 states long
  pub sent_store : length h.sent_store ≡ 16
  pub received_store : length h.received_store ≡ 16
  -- each state from the acknowledged to the last follows itself and those before
  pub between : (m n : ℕ) → h.end.sent.anchor ≤ m → m ≤ n → n ≤ h.end.top → K.follows (sent_state K L h m) (sent_state K L h n) ≡ true
  -- the current state follows the last
  pub onward : K.follows (sent_state K L h h.end.top) h.end.current ≡ true

-- opening makes an end with its stores so; change, tick and take keep it, whether they are refused or not; and no tick is refused because its target doesn't follow
pub record Follows (K L : Kind) : Type 0 where
  pub opening : (d : Direction) (time : ℕ) (ks : List K.Contents) (ls : List L.Contents) (h : Holding K L) → opened K L d time ks ls ≡ Ok h → Chained K L h
  pub changing : (h : Holding K L) (target : K.Contents) (e : End K L) → changed K L h.end target ≡ Ok e → Chained K L h → Chained K L (after_change K L h e)
  pub ticking : (h : Holding K L) (time : ℕ) (out : List ℕ) → Own K L h.end → Chained K L h → Chained K L (after_tick K L h (ticked K L h time out))
  pub taking : (h : Holding K L) (time : ℕ) (bytes : List ℕ) → Own K L h.end → Chained K L h → Chained K L (after_take K L h (taken K L h time bytes))
  pub never_apart : (h : Holding K L) (time : ℕ) (out : List ℕ) → Own K L h.end → Chained K L h → (ticked K L h time out).answer ≢ Err NotFollowing
