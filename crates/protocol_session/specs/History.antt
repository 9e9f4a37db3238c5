-- What is known of an end from its calls alone: what it was changed to, what it wrote, what was acknowledged.
use Rattle.std.specs.Prelude.{ℕ, ◌+◌, ◌*◌, max, false, cond, List, [], ◌∷◌, ◌++◌, map, take, drop, Some, None, Ok, Err, Option, Result, ◌==◌}
use Rattle.std.specs.List.{range_with_len, flat_map}
use Rattle.state.specs.Kind.{Kind}
use Rattle.packet.specs.declared.datagram.Direction.{Direction}
use Rattle.packet.specs.declared.datagram.Direction.TheVariants.{TowardDepot, TowardReader}
use Rattle.packet.specs.declared.refusal.ReadFault.{ReadFault}
use Rattle.packet.specs.declared.sending.Sent.{Sent as Count}
use Rattle.packet.specs.Pieces.{Piece}
use Rattle.packet.specs.Instructions.{read_instruction}
use Rattle.packet.specs.Datagrams.{Parcel, read_datagram}
use Rattle.protocol.specs.declared.answer.Ticked.{Ticked}
use Rattle.protocol.specs.declared.answer.Ticked.TheVariants.{Idle, Sent}
use Rattle.protocol.specs.declared.answer.Taken.{Taken}
use Rattle.protocol.specs.declared.answer.Taken.TheVariants.{Part, Shown, Filled, Again, Baseless}
use Rattle.protocol.specs.declared.fault.TickRefusal.{TickRefusal}
use Rattle.protocol.specs.declared.fault.TakeFault.{TakeFault}
use Rattle.protocol.specs.declared.fault.ChangeRefusal.{ChangeRefusal}

-- the history of an end that sends states of the kind K
pub record Past (K : Kind) : Type 0 where
  -- the direction in which it was opened to send
  pub direction : Direction
  -- its current state: the target of its last change that wasn't refused, or the start
  pub current : K.Contents
  -- the state that it fixed under each number, for good
  pub fixed : ℕ → Option K.Contents
  -- how many of its ticks sent
  pub sendings : ℕ
  -- the datagrams that its ticks wrote
  pub written : List (List ℕ)
  -- the instruction of each of its sendings, by the sending's number
  pub instruction : ℕ → List ℕ
  -- what it has as acknowledged: the highest ack that completed instructions brought it, 0 before any
  pub acked : ℕ
  -- the largest time that it used
  pub used : ℕ

-- the history of an end opened in that direction at that time: number 0 is fixed as the start
abbrev pub begun : (K : Kind) → Direction → ℕ → Past K
begun K d time = record {
  direction = d;
  current = K.start;
  fixed = λ n. cond (n == 0) (Some K.start) None;
  sendings = 0;
  written = [];
  instruction = λ s. [];
  acked = 0;
  used = time;
}

-- the other direction
abbrev pub opposite : Direction → Direction
opposite TowardDepot = TowardReader
opposite TowardReader = TowardDepot

-- the datagrams that a buffer begins with: each but the last has 278 bytes
abbrev pub datagrams_in : Count → List ℕ → List (List ℕ)
datagrams_in n out = map (λ k. take 278 (drop (278 * k) (take n.length out))) (range_with_len 0 n.count)

-- the fragment of a datagram, as an end reads it that sends in the direction `sends`; no fragment if it is none
abbrev pub fragment_read : Result Parcel ReadFault → Piece
fragment_read (Ok g) = g.piece
fragment_read (Err f) = record { sending = 0; number = 0; last = false; contents = [] }

abbrev pub fragment_in : Direction → List ℕ → Piece
fragment_in sends bytes = fragment_read (read_datagram sends bytes)

-- the sending number of datagrams of one sending, and its instruction
abbrev pub sending_in : Direction → List (List ℕ) → ℕ
sending_in sends [] = 0
sending_in sends (d ∷ ds) = (fragment_in sends d).sending

abbrev pub instruction_in : Direction → List (List ℕ) → List ℕ
instruction_in sends ds = flat_map (λ d. (fragment_in sends d).contents) ds

-- the new number and the ack that an instruction's bytes tell
abbrev pub new_in : List ℕ → ℕ
new_in bs = elim (read_instruction bs) [ Ok u ↦ u.new | Err f ↦ 0 ]

abbrev pub ack_in : List ℕ → ℕ
ack_in bs = elim (read_instruction bs) [ Ok u ↦ u.ack | Err f ↦ 0 ]

-- what is fixed, and else this state
abbrev pub or_else : {X : Type 0} → Option X → X → Option X
or_else None x = Some x
or_else (Some y) x = Some y

module _ {K : Kind} (p : Past K) where
  -- with another current state
  abbrev pub moved_on : K.Contents → Past K
  moved_on target = record { direction = p.direction; current = target; fixed = p.fixed; sendings = p.sendings; written = p.written; instruction = p.instruction; acked = p.acked; used = p.used }

  -- with another number as acknowledged and another time used
  abbrev pub informed_at : ℕ → ℕ → Past K
  informed_at acked used = record { direction = p.direction; current = p.current; fixed = p.fixed; sendings = p.sendings; written = p.written; instruction = p.instruction; acked = acked; used = used }

  -- a time more
  abbrev pub at : ℕ → Past K
  at time = informed_at p.acked (max p.used time)

  -- datagrams written at that time, read by an end at the other side: their instruction's new number is fixed as the current state, unless it is fixed already
  abbrev pub wrote : List (List ℕ) → ℕ → Past K
  wrote ds time = record {
    direction = p.direction;
    current = p.current;
    fixed = λ n. cond (n == new_in (instruction_in (opposite p.direction) ds)) (or_else (p.fixed n) p.current) (p.fixed n);
    sendings = p.sendings + 1;
    written = ds ++ p.written;
    instruction = λ s. cond (s == sending_in (opposite p.direction) ds) (instruction_in (opposite p.direction) ds) (p.instruction s);
    acked = p.acked;
    used = max p.used time;
  }

  -- an instruction completed at that time
  abbrev pub completed : List ℕ → ℕ → Past K
  completed bs time = informed_at (max p.acked (ack_in bs)) (max p.used time)

  -- after a change
  abbrev pub noted_change : {E : Type 0} → K.Contents → Result E ChangeRefusal → Past K
  noted_change target (Ok e) = moved_on target
  noted_change target (Err f) = p

  -- after a tick, with what it answered and left in its buffer
  abbrev pub noted_tick : ℕ → Result Ticked TickRefusal → List ℕ → Past K
  noted_tick time (Ok Idle) out = at time
  noted_tick time (Ok (Sent n)) out = wrote (datagrams_in n out) time
  noted_tick time (Err f) out = p

  -- after a take, with what it answered; `bs` is the instruction of the sending that the taken datagram names, as the other end wrote it. In a run as supposed that is what the take completed and read, and so the ack noted is the one that it read: every fragment ever accepted was written by the other end, and an assembler joins none but those of the sending that the datagram names
  abbrev pub noted_take : ℕ → List ℕ → Result Taken TakeFault → Past K
  noted_take time bs (Ok (Part k)) = at time
  noted_take time bs (Ok (Shown n)) = completed bs time
  noted_take time bs (Ok (Filled n)) = completed bs time
  noted_take time bs (Ok (Again n)) = completed bs time
  noted_take time bs (Ok (Baseless n)) = completed bs time
  noted_take time bs (Err f) = p
