-- A tick: whether it is due, which instruction goes out, and what it leaves.
use Rattle.std.specs.Prelude.{ℕ, zero, suc, ◌+◌, ◌-◌, ◌%◌, max, Bool, cond, not, ◌&&◌, List, length, None, Ok, Err, Result, ◌==◌, nat_le, nat_lt, slice_index, slice_set}
use Rattle.state.specs.Kind.{Kind}
use Rattle.window.specs.Numbers.{put, stored}
use Rattle.packet.specs.declared.sending.Sent.{Sent as Count}
use Rattle.packet.specs.Pieces.{piece_count}
use Rattle.packet.specs.Instructions.{Update, instruction_bytes}
use Rattle.packet.specs.Sendings.{sent_into, sending_bytes}
use Rattle.protocol.specs.declared.answer.Ticked.{Ticked}
use Rattle.protocol.specs.declared.answer.Ticked.TheVariants.{Idle, Sent}
use Rattle.protocol.specs.declared.fault.TickRefusal.{TickRefusal}
use Rattle.protocol.specs.declared.fault.CallRefusal.TheVariants.{LateTime, WrongStore}
use Rattle.protocol.specs.declared.fault.TickRefusal.TheVariants.{Call, ShortBuffer, NotFollowing, NoSendingsLeft, LongDiff}
use Rattle.protocol.specs.Due.{Facts, due, patience, since}
use Rattle.protocol.specs.End.{Outgoing, Incoming, Tally, End, Holding, latest, both_fit, state_at}

-- the largest number reached from n upward, in at most that many steps, while the next number is such
abbrev pub reached : ℕ → (ℕ → Bool) → ℕ → ℕ
reached zero such n = n
reached (suc steps) such n = cond (such (n + 1)) (reached steps such (n + 1)) n

module _ (o : Outgoing) where
  -- when a number was last sent
  abbrev pub sent_at : ℕ → ℕ
  sent_at n = slice_index o.times (n % 16)

  -- whether 15 numbers are unacknowledged
  abbrev pub full : Bool
  full = nat_le 15 (o.top - o.numbers.anchor)

  -- the assumed number: the largest up to the last that is reached from the acknowledged one while each next was sent lately
  abbrev pub assumed : ℕ → ℕ
  assumed now = reached (o.top - o.numbers.anchor) (λ n. not (since (sent_at n) patience now)) o.numbers.anchor

  -- the number that a sending leads to, by whether it fixes one more
  abbrev pub leads_to : Bool → ℕ
  leads_to fix = cond fix (o.top + 1) o.top

  -- what goes out after a sending, by whether it fixes one more: that is held and the last then, and its time is renewed unless the instruction leads nowhere
  abbrev pub sent_out : Bool → ℕ → Outgoing
  sent_out fix now = record {
    numbers = cond fix (put o.numbers (leads_to fix)) o.numbers;
    top = leads_to fix;
    times = cond (assumed now == leads_to fix) o.times (slice_set o.times (leads_to fix % 16) now);
  }

-- what a tick is judged from, by whether the current state differs from the last number's
abbrev pub facts_of : Outgoing → Incoming → Tally → Bool → ℕ → Facts
facts_of o i t differs now = record {
  time = now;
  last = t.last;
  sent_at = sent_at o o.top;
  pending = i.pending;
  differs = differs;
  full = full o;
  unacknowledged = nat_lt o.numbers.anchor o.top;
}

-- what comes in after a sending: no acknowledgement is pending
abbrev pub answered : Incoming → Incoming
answered i = record { numbers = i.numbers; newest = i.newest; pending = None; half = i.half }

module _ (t : Tally) where
  -- time has passed
  abbrev pub timed : ℕ → Tally
  timed now = record { last = t.last; clock = now; sendings = t.sendings; datagrams = t.datagrams }

  -- an instruction was sent in that many datagrams
  abbrev pub counted : ℕ → ℕ → Tally
  counted now count = record { last = now; clock = now; sendings = t.sendings + 1; datagrams = t.datagrams + count }

module _ (K : Kind) where
  -- the state under the last number
  abbrev pub top_state : Outgoing → List K.Contents → K.Contents
  top_state o ks = state_at K o.numbers ks o.top

  -- an end after a tick that sends nothing
  abbrev pub idled : End K → ℕ → End K
  idled e now = record { direction = e.direction; current = e.current; outgoing = e.outgoing; incoming = e.incoming; tally = timed e.tally now }

module _ (K : Kind) (e : End K) (ks : List K.Contents) where
  -- whether the current state differs from that under the last number
  abbrev pub differs : Bool
  differs = not (K.same e.current (top_state K e.outgoing ks))

  -- what the tick is judged from
  abbrev pub facts : ℕ → Facts
  facts now = facts_of e.outgoing e.incoming e.tally differs now

  -- whether a sending fixes the current state under the next number
  abbrev pub fixes : Bool
  fixes = differs && not (full e.outgoing)

  -- the number that a sending leads to, and its state
  abbrev pub new_number : ℕ
  new_number = leads_to e.outgoing fixes

  abbrev pub new_state : K.Contents
  new_state = cond fixes e.current (top_state K e.outgoing ks)

  -- the store after a sending
  abbrev pub sent_states : List K.Contents
  sent_states = cond fixes (stored e.outgoing.numbers ks new_number e.current) ks

  -- the assumed number's state
  abbrev pub assumed_state : ℕ → K.Contents
  assumed_state now = state_at K e.outgoing.numbers ks (assumed e.outgoing now)

  -- the instruction that goes out
  abbrev pub update : ℕ → Update
  update now = record { old = assumed e.outgoing now; new = new_number; ack = e.incoming.newest; throwaway = e.outgoing.numbers.anchor; diff = K.diff (assumed_state now) new_state }

  -- an end after a sending
  abbrev pub sent_end : ℕ → End K
  sent_end now = record {
    direction = e.direction;
    current = e.current;
    outgoing = sent_out e.outgoing fixes now;
    incoming = answered e.incoming;
    tally = counted e.tally now (piece_count (instruction_bytes (update now)));
  }

  -- how many datagrams a sending writes, and their length
  abbrev pub sent_count : ℕ → Count
  sent_count now = record { count = piece_count (instruction_bytes (update now)); length = length (sending_bytes e.direction e.tally.datagrams (e.tally.sendings + 1) (instruction_bytes (update now))) }

-- what a tick answers, and the end, the store of sent states and the buffer that it leaves
pub record AfterTick (K : Kind) : Type 0 where
  pub answer : Result Ticked TickRefusal
  pub end : End K
  pub sent_store : List K.Contents
  pub buffer : List ℕ

module _ (K : Kind) (e : End K) (ks : List K.Contents) (out : List ℕ) where
  -- a tick that is refused leaves all as it was
  abbrev pub refuses : TickRefusal → AfterTick K
  refuses f = record { answer = Err f; end = e; sent_store = ks; buffer = out }

  -- a tick that isn't due
  abbrev pub idles : ℕ → AfterTick K
  idles now = record { answer = Ok Idle; end = idled K e now; sent_store = ks; buffer = out }

  -- a tick that sends
  abbrev pub sends : ℕ → AfterTick K
  sends now = record {
    answer = Ok (Sent (sent_count K e ks now));
    end = sent_end K e ks now;
    sent_store = sent_states K e ks;
    buffer = sent_into e.direction e.tally.datagrams (e.tally.sendings + 1) (update K e ks now) out;
  }

  -- a tick at the time `now` that is lent what it needs
  abbrev pub judged : ℕ → AfterTick K
  judged now =
      let d : Bool = due (facts K e ks now) in
      cond (d && not (K.follows (assumed_state K e ks now) (new_state K e ks))) (refuses NotFollowing)
      (cond (nat_le 1000000 e.tally.sendings) (refuses NoSendingsLeft)
      (cond (not d) (idles now)
      (cond (nat_le (length (update K e ks now).diff) 2031) (sends now) (refuses LongDiff))))

-- a tick with the time `time` and the buffer `out`
abbrev pub ticked : (K L : Kind) → Holding K L → ℕ → List ℕ → AfterTick K
ticked K L h time out =
    let refused : TickRefusal → AfterTick K = refuses K h.end h.sent_store out in
    cond (nat_le time latest)
    (cond (both_fit h.sent_store h.received_store)
    (cond (nat_le 2224 (length out)) (judged K h.end h.sent_store out (max h.end.tally.clock time)) (refused ShortBuffer))
    (refused (Call WrongStore)))
    (refused (Call LateTime))
