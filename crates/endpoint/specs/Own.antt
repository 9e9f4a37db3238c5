-- What an end keeps of itself, whatever bytes, times, stores and targets its calls are given.
use Rattle.std.specs.Prelude.{◌≡◌, ℕ, ◌+◌, ◌*◌, ◌%◌, ◌<◌, ◌≤◌, true, ◌&&◌, List, length, Some, None, Ok, Option, nat_le, slice_index}
use Rattle.state.specs.Kind.{Kind}
use Rattle.window.specs.Numbers.{Within}
use Rattle.packet.specs.declared.datagram.Direction.{Direction}
use Rattle.endpoint.specs.End.{End, Holding, latest, opened, changed}
use Rattle.endpoint.specs.Ticking.{ticked}
use Rattle.endpoint.specs.Taking.{taken}

-- an acknowledgement, if one is pending, is so from no later than that time
abbrev pub PendingBy : Option ℕ → ℕ → Type 0
PendingBy None clock = Unit {0}
PendingBy (Some start) clock = start ≤ clock

pub record Own (K L : Kind) (e : End K L) : Type 0 where
  -- the sent window has 16 places, and exactly the numbers from the acknowledged to the last
  pub sent_width : e.sent.width ≡ 16
  pub sent_held : (n : ℕ) → e.sent.held n ≡ (nat_le e.sent.anchor n && nat_le n e.top)
  -- the last is at or above the acknowledged, by at most 15
  pub acknowledged : e.sent.anchor ≤ e.top
  pub unacknowledged : e.top ≤ e.sent.anchor + 15
  -- the received window has 16 places, and its numbers within them
  pub received_width : e.received.width ≡ 16
  pub received_within : Within e.received
  -- the newest is held, and none that is held is above it
  pub newest_held : e.received.held e.newest ≡ true
  pub newest_largest : (n : ℕ) → e.received.held n ≡ true → n ≤ e.newest
  -- each of 16 places has a time, and no number above the acknowledged one was sent after the clock's time
  pub times_length : length e.times ≡ 16
  pub times_past : (n : ℕ) → e.sent.anchor < n → n ≤ e.top → slice_index e.times (n % 16) ≤ e.clock
  -- nor was the last sending, and the clock is at no time that a call may not give
  pub last_past : e.last ≤ e.clock
  pub clock_latest : e.clock ≤ latest
  -- an acknowledgement isn't pending from after the clock's time
  pub pending_past : PendingBy e.pending e.clock
  -- there were at most 1,000,000 sendings, a new number in each at most and at most 8 datagrams
  pub sendings_most : e.sendings ≤ 1000000
  pub numbers_most : e.top ≤ e.sendings
  pub datagrams_most : e.datagrams ≤ 8 * e.sendings

-- every call leaves an end so: opening makes it, and change, tick and take keep it, whether they are refused or not
pub record Stays (K L : Kind) : Type 0 where
  pub opening : (d : Direction) (time : ℕ) (ks : List K.Contents) (ls : List L.Contents) (h : Holding K L) → opened K L d time ks ls ≡ Ok h → Own K L h.end
  pub changing : (e e' : End K L) (target : K.Contents) → changed K L e target ≡ Ok e' → Own K L e → Own K L e'
  pub ticking : (h : Holding K L) (time : ℕ) (out : List ℕ) → Own K L h.end → Own K L (ticked K L h time out).end
  pub taking : (h : Holding K L) (time : ℕ) (bytes : List ℕ) → Own K L h.end → Own K L (taken K L h time bytes).end
