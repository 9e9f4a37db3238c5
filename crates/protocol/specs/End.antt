-- An end of the protocol by its contents: what it keeps between calls, and how it is opened, changed and looked at.
use Rattle.std.specs.Prelude.{ℕ, Bool, cond, ◌&&◌, List, length, replicate, None, Ok, Err, Option, Result, ◌==◌, nat_le, slice_set, Some}
use Rattle.state.specs.Kind.{Kind}
use Rattle.window.specs.Numbers.{Numbers, empty, adding, lookup}
use Rattle.packet.specs.declared.datagram.Direction.{Direction}
use Rattle.assembler.specs.Contents.{Contents, nothing}
use Rattle.protocol.specs.declared.fault.CallRefusal.{CallRefusal}
use Rattle.protocol.specs.declared.fault.CallRefusal.TheVariants.{LateTime, WrongStore}
use Rattle.protocol.specs.declared.fault.ChangeRefusal.{ChangeRefusal}
use Rattle.protocol.specs.declared.fault.ChangeRefusal.TheVariants.{NotFollowing}

-- what goes out: the numbers of the sent states, from the acknowledged, the anchor, to the last; and when each was last sent, by its place
pub record Outgoing : Type 0 where
  pub numbers : Numbers
  pub top : ℕ
  pub times : List ℕ

-- what comes in: the numbers of the received states that are held, and the newest; since when an acknowledgement is pending; the half-made instruction
pub record Incoming : Type 0 where
  pub numbers : Numbers
  pub newest : ℕ
  pub pending : Option ℕ
  pub half : Contents

-- times and counts: of the last sending, or of the opening before any; the largest time so far; how many instructions and datagrams were sent
pub record Tally : Type 0 where
  pub last : ℕ
  pub clock : ℕ
  pub sendings : ℕ
  pub datagrams : ℕ

-- an end that sends states of the kind K: the direction in which it sends, its current local state, and these three
pub record End (K : Kind) : Type 0 where
  pub direction : Direction
  pub current : K.Contents
  pub outgoing : Outgoing
  pub incoming : Incoming
  pub tally : Tally

-- an end with the two stores that it is lent: of sent states, and of received ones of the kind L
pub record Holding (K L : Kind) : Type 0 where
  pub end : End K
  pub sent_store : List K.Contents
  pub received_store : List L.Contents

-- the latest time that a call may give
abbrev pub latest : ℕ
latest = 4000000000

-- both stores are 16 states long
abbrev pub both_fit : {X Y : Type 0} → List X → List Y → Bool
both_fit xs ys = length xs == 16 && length ys == 16

-- the state under a number, and the start where there is none
abbrev pub state_at : (K : Kind) → Numbers → List K.Contents → ℕ → K.Contents
state_at K w xs n = elim (lookup w xs n) [ Some x ↦ x | None ↦ K.start ]

-- at first every number is 0, nothing was sent, nothing is pending or half made
abbrev pub nothing_out : Outgoing
nothing_out = record { numbers = adding (empty 16) 0; top = 0; times = replicate 16 0 }

abbrev pub nothing_in : Incoming
nothing_in = record { numbers = adding (empty 16) 0; newest = 0; pending = None; half = nothing }

abbrev pub starting_at : ℕ → Tally
starting_at time = record { last = time; clock = time; sendings = 0; datagrams = 0 }

-- an end that has just been opened
abbrev pub fresh : (K : Kind) → Direction → ℕ → End K
fresh K d time = record { direction = d; current = K.start; outgoing = nothing_out; incoming = nothing_in; tally = starting_at time }

-- opening: the start state goes to place 0 of each store
abbrev pub opened : (K L : Kind) → Direction → ℕ → List K.Contents → List L.Contents → Result (Holding K L) CallRefusal
opened K L d time ks ls =
    cond (nat_le time latest)
    (cond (both_fit ks ls) (Ok (record { end = fresh K d time; sent_store = slice_set ks 0 K.start; received_store = slice_set ls 0 L.start })) (Err WrongStore))
    (Err LateTime)

module _ (K : Kind) where
  -- an end with another current state
  abbrev pub with_current : End K → K.Contents → End K
  with_current e t = record { direction = e.direction; current = t; outgoing = e.outgoing; incoming = e.incoming; tally = e.tally }

  -- change: a state that follows the current one takes its place
  abbrev pub changed : End K → K.Contents → Result (End K) ChangeRefusal
  changed e t = cond (K.follows e.current t) (Ok (with_current e t)) (Err NotFollowing)

  -- look at what came in: the newest number and its state
  abbrev pub looked : Incoming → List K.Contents → Result (ℕ × K.Contents) CallRefusal
  looked i ks = cond (length ks == 16) (Ok (i.newest, state_at K i.numbers ks i.newest)) (Err WrongStore)
