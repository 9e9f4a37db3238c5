-- A take: what becomes of bytes that came over the radio.
use Rattle.std.specs.Prelude.{ℕ, max, cond, List, Some, None, Ok, Err, Option, Result, nat_le, nat_lt}
use Rattle.state.specs.declared.fault.StateFault.{StateFault}
use Rattle.state.specs.Kind.{Kind}
use Rattle.window.specs.Numbers.{Numbers, put, raise, stored, lookup}
use Rattle.packet.specs.declared.refusal.InstructionFault.{InstructionFault}
use Rattle.packet.specs.declared.refusal.InstructionFault.TheVariants.{AckAhead}
use Rattle.packet.specs.declared.refusal.ReadFault.{ReadFault}
use Rattle.packet.specs.declared.refusal.ReadFault.TheVariants as reading
use Rattle.packet.specs.Pieces.{Piece}
use Rattle.packet.specs.Instructions.{Update, read_instruction}
use Rattle.packet.specs.Datagrams.{Parcel, read_datagram}
use Rattle.assembler.specs.Contents.{Contents, nothing}
use Rattle.assembler.specs.Offers.{Outcome, refused, partly, wholly, offered}
use Rattle.protocol.specs.declared.answer.Taken.{Taken}
use Rattle.protocol.specs.declared.answer.Taken.TheVariants.{Part, Shown, Filled, Again, Baseless}
use Rattle.protocol.specs.declared.fault.CallRefusal.TheVariants.{LateTime, WrongStore}
use Rattle.protocol.specs.declared.fault.TakeFault.{TakeFault}
use Rattle.protocol.specs.declared.fault.TakeFault.TheVariants as fault
use Rattle.endpoint.specs.End.{End, Holding, latest, both_fit}

-- what a take answers, and the end and the store of received states that it leaves
pub record AfterTake (K L : Kind) : Type 0 where
  pub answer : Result Taken TakeFault
  pub end : End K L
  pub received_store : List L.Contents

-- the stage of a fault in reading a datagram
abbrev pub read_stage : ReadFault → TakeFault
read_stage (reading.Datagram f) = fault.Datagram f
read_stage (reading.Fragment f) = fault.Fragment f

-- an acknowledgement is pending from now, unless one was already
abbrev pub pending_from : Option ℕ → ℕ → Option ℕ
pending_from None now = Some now
pending_from (Some start) now = Some start

module _ (K L : Kind) (h : Holding K L) (now : ℕ) where
  -- a take that is refused leaves all as it was
  abbrev pub refuses : TakeFault → AfterTake K L
  refuses f = record { answer = Err f; end = h.end; received_store = h.received_store }

  -- an end with a fragment more
  abbrev pub collected : Contents → End K L
  collected half = record {
    direction = h.end.direction;
    current = h.end.current;
    sent = h.end.sent;
    top = h.end.top;
    times = h.end.times;
    received = h.end.received;
    newest = h.end.newest;
    pending = h.end.pending;
    half = half;
    last = h.end.last;
    clock = now;
    sendings = h.end.sendings;
    datagrams = h.end.datagrams;
  }

  -- an end that has read an instruction whole: a higher ack is acknowledged, the half-made instruction is emptied; and the received states are as given
  abbrev pub settled : ℕ → Numbers → ℕ → Option ℕ → End K L
  settled ack received newest pending = record {
    direction = h.end.direction;
    current = h.end.current;
    sent = raise h.end.sent (max h.end.sent.anchor ack);
    top = h.end.top;
    times = h.end.times;
    received = received;
    newest = newest;
    pending = pending;
    half = nothing;
    last = h.end.last;
    clock = now;
    sendings = h.end.sendings;
    datagrams = h.end.datagrams;
  }

  -- an instruction that alters no received state
  abbrev pub passed : Update → Taken → AfterTake K L
  passed u t = record {
    answer = Ok t;
    end = settled u.ack h.end.received h.end.newest h.end.pending;
    received_store = h.received_store;
  }

  -- the numbers once those below throwaway are dropped
  abbrev pub kept : Update → Numbers
  kept u = raise h.end.received (max h.end.received.anchor u.throwaway)

  -- a state that is held as new: shown if it is above the newest, else filled in
  abbrev pub landed : Update → L.Contents → AfterTake K L
  landed u c = record {
    answer = Ok (cond (nat_lt h.end.newest u.new) (Shown u.new) (Filled u.new));
    end = settled u.ack (put (kept u) u.new) (max h.end.newest u.new) (pending_from h.end.pending now);
    received_store = stored (kept u) h.received_store u.new c;
  }

  -- the diff applied to the state old, or the state's fault
  abbrev pub applied : Update → Result L.Contents StateFault → AfterTake K L
  applied u (Ok c) = landed u c
  applied u (Err f) = refuses (fault.State f)

  -- an instruction whose new number isn't held: its base is held, or it is baseless
  abbrev pub based : Update → Option L.Contents → AfterTake K L
  based u None = passed u (Baseless u.new)
  based u (Some base) = applied u (L.apply base u.diff)

  -- an instruction whose ack is one of the numbers sent
  abbrev pub followed : Update → AfterTake K L
  followed u =
      cond (h.end.received.held u.new) (passed u (Again u.new))
      (based u (lookup h.end.received h.received_store u.old))

  -- an instruction read, or its fault
  abbrev pub instructed : Result Update InstructionFault → AfterTake K L
  instructed (Ok u) = cond (nat_le u.ack h.end.top) (followed u) (refuses (fault.Instruction AckAhead))
  instructed (Err f) = refuses (fault.Instruction f)

  -- a fragment offered to the half-made instruction
  abbrev pub assembled : Piece → Outcome → AfterTake K L
  assembled p (refused f) = refuses (fault.Fragment f)
  assembled p (partly half) = record { answer = Ok (Part p.number); end = collected half; received_store = h.received_store }
  assembled p (wholly bs) = instructed (read_instruction bs)

  -- a datagram read, or its fault
  abbrev pub received : Result Parcel ReadFault → AfterTake K L
  received (Ok g) = assembled g.piece (offered h.end.half g.piece)
  received (Err f) = refuses (read_stage f)

module _ (K L : Kind) where
  -- a take of the bytes `bytes` at the time `time`
  abbrev pub taken : Holding K L → ℕ → List ℕ → AfterTake K L
  taken h time bytes =
      cond (nat_le time latest)
      (cond (both_fit h.sent_store h.received_store)
      (received K L h (max h.end.clock time) (read_datagram h.end.direction bytes))
      (refuses K L h 0 (fault.Call WrongStore)))
      (refuses K L h 0 (fault.Call LateTime))
