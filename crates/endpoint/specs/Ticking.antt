-- A tick: whether it is due, which instruction goes out, and what it leaves.
use Rattle.std.specs.Prelude.{ℕ, zero, suc, ◌+◌, ◌-◌, ◌%◌, max, Bool, cond, not, ◌&&◌, List, length, None, Ok, Err, Result, ◌==◌, nat_le, nat_lt, slice_index, slice_set}
use Rattle.state.specs.Kind.{Kind}
use Rattle.window.specs.Numbers.{put, stored}
use Rattle.packet.specs.declared.sending.Sent.{Sent as Count}
use Rattle.packet.specs.Pieces.{piece_count}
use Rattle.packet.specs.Instructions.{Update, instruction_bytes}
use Rattle.packet.specs.Sendings.{sent_into, sending_bytes}
use Rattle.protocol.specs.declared.answer.Ticked.{Ticked}
use Rattle.protocol.specs.declared.answer.Ticked.TheVariants.{Idle, Sent}
use Rattle.protocol.specs.declared.fault.TickRefusal.{TickRefusal}
use Rattle.protocol.specs.declared.fault.CallRefusal.TheVariants.{LateTime, WrongStore}
use Rattle.protocol.specs.declared.fault.TickRefusal.TheVariants.{Call, ShortBuffer, NotFollowing, NoSendingsLeft, LongDiff}
use Rattle.endpoint.specs.Due.{Facts, due, patience, since}
use Rattle.endpoint.specs.End.{End, Holding, latest, both_fit, state_at}

-- the largest number reached from n upward, in at most that many steps, while the next number is such
abbrev pub reached : ℕ → (ℕ → Bool) → ℕ → ℕ
reached zero such n = n
reached (suc steps) such n = cond (such (n + 1)) (reached steps such (n + 1)) n

module _ (K L : Kind) (e : End K L) (ks : List K.Contents) (now : ℕ) where
  -- the state under the last number
  abbrev pub top_state : K.Contents
  top_state = state_at K e.sent ks e.top

  -- whether the current state differs from it
  abbrev pub differs : Bool
  differs = not (K.same e.current top_state)

  -- whether 15 numbers are unacknowledged
  abbrev pub full : Bool
  full = nat_le 15 (e.top - e.sent.anchor)

  -- when a number was last sent
  abbrev pub sent_at : ℕ → ℕ
  sent_at n = slice_index e.times (n % 16)

  -- what the tick is judged from
  abbrev pub facts : Facts
  facts = record {
    time = now;
    last = e.last;
    sent_at = sent_at e.top;
    pending = e.pending;
    differs = differs;
    full = full;
    unacknowledged = nat_lt e.sent.anchor e.top;
  }

  -- whether a sending fixes the current state under the next number
  abbrev pub fixes : Bool
  fixes = differs && not full

  -- the number that a sending leads to, and its state
  abbrev pub new_number : ℕ
  new_number = cond fixes (e.top + 1) e.top

  abbrev pub new_state : K.Contents
  new_state = cond fixes e.current top_state

  -- the assumed state: the largest number up to the last that is reached from the acknowledged one while each next was sent lately
  abbrev pub assumed : ℕ
  assumed = reached (e.top - e.sent.anchor) (λ n. not (since (sent_at n) patience now)) e.sent.anchor

  abbrev pub assumed_state : K.Contents
  assumed_state = state_at K e.sent ks assumed

  -- the instruction that goes out
  abbrev pub update : Update
  update = record { old = assumed; new = new_number; ack = e.newest; throwaway = e.sent.anchor; diff = K.diff assumed_state new_state }

  -- an end after a tick that sends nothing
  abbrev pub idled : End K L
  idled = record {
    direction = e.direction;
    current = e.current;
    sent = e.sent;
    top = e.top;
    times = e.times;
    received = e.received;
    newest = e.newest;
    pending = e.pending;
    half = e.half;
    last = e.last;
    clock = now;
    sendings = e.sendings;
    datagrams = e.datagrams;
  }

  -- an end after a sending: the new number is fixed if it is one more, and its time is renewed unless the instruction leads nowhere
  abbrev pub sent_end : End K L
  sent_end = record {
    direction = e.direction;
    current = e.current;
    sent = cond fixes (put e.sent new_number) e.sent;
    top = new_number;
    times = cond (assumed == new_number) e.times (slice_set e.times (new_number % 16) now);
    received = e.received;
    newest = e.newest;
    pending = None;
    half = e.half;
    last = now;
    clock = now;
    sendings = e.sendings + 1;
    datagrams = e.datagrams + piece_count (instruction_bytes update);
  }

  -- the store after a sending
  abbrev pub sent_states : List K.Contents
  sent_states = cond fixes (stored e.sent ks new_number e.current) ks

  -- how many datagrams a sending writes, and their length
  abbrev pub sent_count : Count
  sent_count = record { count = piece_count (instruction_bytes update); length = length (sending_bytes e.direction e.datagrams (e.sendings + 1) (instruction_bytes update)) }

-- what a tick answers, and the end, the store of sent states and the buffer that it leaves
pub record AfterTick (K L : Kind) : Type 0 where
  pub answer : Result Ticked TickRefusal
  pub end : End K L
  pub sent_store : List K.Contents
  pub buffer : List ℕ

module _ (K L : Kind) where
  -- a tick that is refused leaves all as it was
  abbrev pub refuses : Holding K L → List ℕ → TickRefusal → AfterTick K L
  refuses h out f = record { answer = Err f; end = h.end; sent_store = h.sent_store; buffer = out }

  -- a tick at the time `now` that is lent what it needs
  abbrev pub judged : Holding K L → ℕ → List ℕ → AfterTick K L
  judged h now out =
      let e : End K L = h.end in
      let ks : List K.Contents = h.sent_store in
      let d : Bool = due (facts K L e ks now) in
      cond (d && not (K.follows (assumed_state K L e ks now) (new_state K L e ks now))) (refuses h out NotFollowing)
      (cond (nat_le 1000000 e.sendings) (refuses h out NoSendingsLeft)
      (cond (not d) (record { answer = Ok Idle; end = idled K L e ks now; sent_store = ks; buffer = out })
      (cond (nat_le (length (update K L e ks now).diff) 2031)
      (record {
        answer = Ok (Sent (sent_count K L e ks now));
        end = sent_end K L e ks now;
        sent_store = sent_states K L e ks now;
        buffer = sent_into e.direction e.datagrams (e.sendings + 1) (update K L e ks now) out;
      })
      (refuses h out LongDiff))))

  -- a tick with the time `time` and the buffer `out`
  abbrev pub ticked : Holding K L → ℕ → List ℕ → AfterTick K L
  ticked h time out =
      cond (nat_le time latest)
      (cond (both_fit h.sent_store h.received_store)
      (cond (nat_le 2224 (length out)) (judged h (max h.end.clock time) out) (refuses h out ShortBuffer))
      (refuses h out (Call WrongStore)))
      (refuses h out (Call LateTime))
