-- What an end keeps of itself, whatever bytes, times, stores and targets its calls are given. It speaks of numbers, times and counts, and of no kind of state.
use Rattle.std.specs.Prelude.{◌≡◌, ℕ, ◌+◌, ◌*◌, ◌%◌, ◌<◌, ◌≤◌, true, ◌&&◌, List, length, Some, None, Ok, Option, nat_le, slice_index}
use Rattle.state.specs.Kind.{Kind}
use Rattle.window.specs.Numbers.{Within}
use Rattle.packet.specs.declared.datagram.Direction.{Direction}
use Rattle.protocol.specs.End.{Outgoing, Incoming, Tally, End, Holding, latest, opened, changed}
use Rattle.protocol.specs.Ticking.{ticked}
use Rattle.protocol.specs.Taking.{taken}

-- an acknowledgement, if one is pending, is so from no later than that time
abbrev pub PendingBy : Option ℕ → ℕ → Type 0
PendingBy None clock = Unit {0}
PendingBy (Some start) clock = start ≤ clock

-- what holds of the three parts of an end
pub record Sound (o : Outgoing) (i : Incoming) (t : Tally) : Type 0 where
  -- the sent window has 16 places, and exactly the numbers from the acknowledged to the last
  pub sent_width : o.numbers.width ≡ 16
  pub sent_held : (n : ℕ) → o.numbers.held n ≡ (nat_le o.numbers.anchor n && nat_le n o.top)
  -- the last is at or above the acknowledged, by at most 15
  pub acknowledged : o.numbers.anchor ≤ o.top
  pub unacknowledged : o.top ≤ o.numbers.anchor + 15
  -- the received window has 16 places, and its numbers within them
  pub received_width : i.numbers.width ≡ 16
  pub received_within : Within i.numbers
  -- the newest is held, and none that is held is above it
  pub newest_held : i.numbers.held i.newest ≡ true
  pub newest_largest : (n : ℕ) → i.numbers.held n ≡ true → n ≤ i.newest
  -- each of 16 places has a time, and no number above the acknowledged one was sent after the clock's time
  pub times_length : length o.times ≡ 16
  pub times_past : (n : ℕ) → o.numbers.anchor < n → n ≤ o.top → slice_index o.times (n % 16) ≤ t.clock
  -- nor was the last sending, and the clock is at no time that a call may not give
  pub last_past : t.last ≤ t.clock
  pub clock_latest : t.clock ≤ latest
  -- an acknowledgement isn't pending from after the clock's time
  pub pending_past : PendingBy i.pending t.clock
  -- there were at most 1,000,000 sendings, a new number in each at most and at most 8 datagrams
  pub sendings_most : t.sendings ≤ 1000000
  pub numbers_most : o.top ≤ t.sendings
  pub datagrams_most : t.datagrams ≤ 8 * t.sendings

-- the same of an end
abbrev pub Own : {K : Kind} → End K → Type 0
Own e = Sound e.outgoing e.incoming e.tally

-- every call leaves an end so: opening makes it, and change, tick and take keep it, whether they are refused or not
pub record Stays (K L : Kind) : Type 0 where
  pub opening : (d : Direction) (time : ℕ) (ks : List K.Contents) (ls : List L.Contents) (h : Holding K L) → opened K L d time ks ls ≡ Ok h → Own h.end
  pub changing : (e e' : End K) (target : K.Contents) → changed K e target ≡ Ok e' → Own e → Own e'
  pub ticking : (h : Holding K L) (time : ℕ) (out : List ℕ) → Own h.end → Own (ticked K L h time out).end
  pub taking : (h : Holding K L) (time : ℕ) (bytes : List ℕ) → Own h.end → Own (taken K L h time bytes).end
