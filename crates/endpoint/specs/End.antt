-- An end of the protocol by its contents: what it keeps between calls, and how it is opened, changed and looked at.
use Rattle.std.specs.Prelude.{ℕ, Bool, cond, ◌&&◌, List, length, replicate, None, Ok, Err, Option, Result, ◌==◌, nat_le, slice_set, Some}
use Rattle.state.specs.Kind.{Kind}
use Rattle.window.specs.Numbers.{Numbers, empty, adding, lookup}
use Rattle.packet.specs.declared.datagram.Direction.{Direction}
use Rattle.assembler.specs.Contents.{Contents, nothing}
use Rattle.protocol.specs.declared.fault.CallRefusal.{CallRefusal}
use Rattle.protocol.specs.declared.fault.CallRefusal.TheVariants.{LateTime, WrongStore}
use Rattle.protocol.specs.declared.fault.ChangeRefusal.{ChangeRefusal}
use Rattle.protocol.specs.declared.fault.ChangeRefusal.TheVariants.{NotFollowing}

-- what an end keeps that sends states of the kind K and receives states of the kind L
pub record End (K L : Kind) : Type 0 where
  -- the direction in which it sends
  pub direction : Direction
  -- the current local state
  pub current : K.Contents
  -- the numbers of its sent states: from the acknowledged, the anchor, to the last
  pub sent : Numbers
  pub top : ℕ
  -- when each of these was last sent, by its place
  pub times : List ℕ
  -- the numbers of the received states that it holds, and the newest
  pub received : Numbers
  pub newest : ℕ
  -- since when an acknowledgement is pending
  pub pending : Option ℕ
  -- the half-made instruction
  pub half : Contents
  -- the time of the last sending, or of the opening before any; the largest time so far
  pub last : ℕ
  pub clock : ℕ
  -- how many instructions and datagrams it has sent
  pub sendings : ℕ
  pub datagrams : ℕ

-- an end with the two stores that it is lent: of sent states and of received ones
pub record Holding (K L : Kind) : Type 0 where
  pub end : End K L
  pub sent_store : List K.Contents
  pub received_store : List L.Contents

-- the latest time that a call may give
abbrev pub latest : ℕ
latest = 4000000000

-- both stores are 16 states long
abbrev pub both_fit : {X Y : Type 0} → List X → List Y → Bool
both_fit xs ys = length xs == 16 && length ys == 16

-- the state under a number, and the start where there is none
abbrev pub state_at : (K : Kind) → Numbers → List K.Contents → ℕ → K.Contents
state_at K w xs n = elim (lookup w xs n) [ Some x ↦ x | None ↦ K.start ]

module _ (K L : Kind) where
  -- an end that has just been opened: every number is 0, with the start states
  abbrev pub fresh : Direction → ℕ → End K L
  fresh d time = record {
    direction = d;
    current = K.start;
    sent = adding (empty 16) 0;
    top = 0;
    times = replicate 16 0;
    received = adding (empty 16) 0;
    newest = 0;
    pending = None;
    half = nothing;
    last = time;
    clock = time;
    sendings = 0;
    datagrams = 0;
  }

  -- opening: the start state goes to place 0 of each store
  abbrev pub opened : Direction → ℕ → List K.Contents → List L.Contents → Result (Holding K L) CallRefusal
  opened d time ks ls =
      cond (nat_le time latest)
      (cond (both_fit ks ls) (Ok (record { end = fresh d time; sent_store = slice_set ks 0 K.start; received_store = slice_set ls 0 L.start })) (Err WrongStore))
      (Err LateTime)

  -- an end with another current state
  abbrev pub with_current : End K L → K.Contents → End K L
  with_current e t = record {
    direction = e.direction;
    current = t;
    sent = e.sent;
    top = e.top;
    times = e.times;
    received = e.received;
    newest = e.newest;
    pending = e.pending;
    half = e.half;
    last = e.last;
    clock = e.clock;
    sendings = e.sendings;
    datagrams = e.datagrams;
  }

  -- change: a state that follows the current one takes its place
  abbrev pub changed : End K L → K.Contents → Result (End K L) ChangeRefusal
  changed e t = cond (K.follows e.current t) (Ok (with_current e t)) (Err NotFollowing)

  -- look: the newest number and its state
  abbrev pub looked : End K L → List L.Contents → Result (ℕ × L.Contents) CallRefusal
  looked e ls = cond (length ls == 16) (Ok (e.newest, state_at L e.received ls e.newest)) (Err WrongStore)
