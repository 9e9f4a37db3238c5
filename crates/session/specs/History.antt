-- What is known of an end from its calls alone: what it was changed to, what it wrote, what was acknowledged.
use Rattle.std.specs.Prelude.{ℕ, ◌*◌, max, false, cond, List, [], ◌∷◌, ◌++◌, map, take, drop, Some, None, Ok, Err, Option, Result, ◌==◌}
use Rattle.std.specs.List.{range_with_len, flat_map}
use Rattle.state.specs.Kind.{Kind}
use Rattle.packet.specs.declared.datagram.Direction.{Direction}
use Rattle.packet.specs.declared.datagram.Direction.TheVariants.{TowardDepot, TowardReader}
use Rattle.packet.specs.declared.sending.Sent.{Sent as Count}
use Rattle.packet.specs.Pieces.{Piece}
use Rattle.packet.specs.Instructions.{read_instruction}
use Rattle.packet.specs.Datagrams.{Parcel, read_datagram}
use Rattle.protocol.specs.declared.answer.Ticked.{Ticked}
use Rattle.protocol.specs.declared.answer.Ticked.TheVariants.{Idle, Sent}
use Rattle.protocol.specs.declared.answer.Taken.{Taken}
use Rattle.protocol.specs.declared.answer.Taken.TheVariants.{Part, Shown, Filled, Again, Baseless}
use Rattle.protocol.specs.declared.fault.TickRefusal.{TickRefusal}
use Rattle.protocol.specs.declared.fault.TakeFault.{TakeFault}
use Rattle.protocol.specs.declared.fault.ChangeRefusal.{ChangeRefusal}

-- the history of an end that sends states of the kind K
pub record Past (K : Kind) : Type 0 where
  -- its current state: the target of its last change that wasn't refused, or the start
  pub current : K.Contents
  -- the state that it fixed under each number, for good
  pub fixed : ℕ → Option K.Contents
  -- the datagrams that its ticks wrote
  pub written : List (List ℕ)
  -- the instruction of each of its sendings, by the sending's number
  pub instruction : ℕ → List ℕ
  -- what it has as acknowledged: the highest ack that completed instructions brought it, 0 before any
  pub acked : ℕ
  -- the largest time that it used
  pub used : ℕ

-- the history of an end opened at that time: number 0 is fixed as the start
abbrev pub begun : (K : Kind) → ℕ → Past K
begun K time = record {
  current = K.start;
  fixed = λ n. cond (n == 0) (Some K.start) None;
  written = [];
  instruction = λ s. [];
  acked = 0;
  used = time;
}

-- the other direction
abbrev pub opposite : Direction → Direction
opposite TowardDepot = TowardReader
opposite TowardReader = TowardDepot

-- the datagrams that a buffer begins with: each but the last has 278 bytes
abbrev pub datagrams_in : Count → List ℕ → List (List ℕ)
datagrams_in n out = map (λ k. take 278 (drop (278 * k) (take n.length out))) (range_with_len 0 n.count)

-- the fragment of a datagram, as an end reads it that sends in the direction `sends`; no fragment if it is none
abbrev pub piece_read : Result Parcel (Rattle.packet.specs.declared.refusal.ReadFault.ReadFault) → Piece
piece_read (Ok g) = g.piece
piece_read (Err f) = record { sending = 0; number = 0; last = false; contents = [] }

abbrev pub piece_in : Direction → List ℕ → Piece
piece_in sends bytes = piece_read (read_datagram sends bytes)

-- the sending number of datagrams of one sending, and its instruction
abbrev pub sending_in : Direction → List (List ℕ) → ℕ
sending_in sends [] = 0
sending_in sends (d ∷ ds) = (piece_in sends d).sending

abbrev pub instruction_in : Direction → List (List ℕ) → List ℕ
instruction_in sends ds = flat_map (λ d. (piece_in sends d).contents) ds

-- the new number and the ack that an instruction's bytes tell
abbrev pub new_in : List ℕ → ℕ
new_in bs = elim (read_instruction bs) [ Ok u ↦ u.new | Err f ↦ 0 ]

abbrev pub ack_in : List ℕ → ℕ
ack_in bs = elim (read_instruction bs) [ Ok u ↦ u.ack | Err f ↦ 0 ]

-- what is fixed, and else this state
abbrev pub or_else : {X : Type 0} → Option X → X → Option X
or_else None x = Some x
or_else (Some y) x = Some y

module _ {K : Kind} (p : Past K) where
  -- a time more
  abbrev pub at : ℕ → Past K
  at time = record { current = p.current; fixed = p.fixed; written = p.written; instruction = p.instruction; acked = p.acked; used = max p.used time }

  -- datagrams written at that time: their instruction's new number is fixed as the current state, unless it is fixed already
  abbrev pub wrote : Direction → List (List ℕ) → ℕ → Past K
  wrote sends ds time = record {
    current = p.current;
    fixed = λ n. cond (n == new_in (instruction_in sends ds)) (or_else (p.fixed n) p.current) (p.fixed n);
    written = ds ++ p.written;
    instruction = λ s. cond (s == sending_in sends ds) (instruction_in sends ds) (p.instruction s);
    acked = p.acked;
    used = max p.used time;
  }

  -- an instruction completed at that time
  abbrev pub completed : List ℕ → ℕ → Past K
  completed bs time = record { current = p.current; fixed = p.fixed; written = p.written; instruction = p.instruction; acked = max p.acked (ack_in bs); used = max p.used time }

  -- after a change
  abbrev pub after_change : {E : Type 0} → K.Contents → Result E ChangeRefusal → Past K
  after_change target (Ok e) = record { current = target; fixed = p.fixed; written = p.written; instruction = p.instruction; acked = p.acked; used = p.used }
  after_change target (Err f) = p

  -- after a tick of an end whose datagrams are read by one that sends in the direction `sends`, with what it answered and left in its buffer
  abbrev pub after_tick : Direction → ℕ → Result Ticked TickRefusal → List ℕ → Past K
  after_tick sends time (Ok Idle) out = at time
  after_tick sends time (Ok (Sent n)) out = wrote sends (datagrams_in n out) time
  after_tick sends time (Err f) out = p

  -- after a take of a datagram of the sending whose instruction is `bs`, with what it answered
  abbrev pub after_take : ℕ → List ℕ → Result Taken TakeFault → Past K
  after_take time bs (Ok (Part k)) = at time
  after_take time bs (Ok (Shown n)) = completed bs time
  after_take time bs (Ok (Filled n)) = completed bs time
  after_take time bs (Ok (Again n)) = completed bs time
  after_take time bs (Ok (Baseless n)) = completed bs time
  after_take time bs (Err f) = p
