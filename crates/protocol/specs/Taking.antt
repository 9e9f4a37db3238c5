-- A take: what becomes of bytes that came over the radio.
use Rattle.std.specs.Prelude.{ℕ, max, cond, List, Some, None, Ok, Err, Option, Result, nat_le, nat_lt}
use Rattle.state.specs.declared.fault.StateFault.{StateFault}
use Rattle.state.specs.Kind.{Kind}
use Rattle.window.specs.Numbers.{Numbers, put, raise, stored, lookup}
use Rattle.packet.specs.declared.refusal.InstructionFault.{InstructionFault}
use Rattle.packet.specs.declared.refusal.InstructionFault.TheVariants.{AckAhead}
use Rattle.packet.specs.declared.refusal.ReadFault.{ReadFault}
use Rattle.packet.specs.Pieces.{Piece}
use Rattle.packet.specs.Instructions.{Update, read_instruction}
use Rattle.packet.specs.Datagrams.{Parcel, read_datagram}
use Rattle.assembler.specs.Contents.{Contents, nothing}
use Rattle.assembler.specs.Offers.{Outcome, refused, partly, wholly, offered}
use Rattle.protocol.specs.declared.answer.Taken.{Taken}
use Rattle.protocol.specs.declared.answer.Taken.TheVariants.{Part, Shown, Filled, Again, Baseless}
use Rattle.protocol.specs.declared.fault.CallRefusal.TheVariants.{LateTime, WrongStore}
use Rattle.protocol.specs.declared.fault.TakeFault.{TakeFault}
use Rattle.protocol.specs.declared.fault.TakeFault.TheVariants as fault
use Rattle.protocol.specs.End.{Outgoing, Incoming, End, Holding, latest, both_fit}
use Rattle.protocol.specs.Stages.{read_stage}
use Rattle.protocol.specs.Ticking.{timed}

-- what goes out once an ack is read: a higher one is acknowledged
abbrev pub acknowledging : Outgoing → ℕ → Outgoing
acknowledging o ack = record { numbers = raise o.numbers (max o.numbers.anchor ack); top = o.top; times = o.times }

-- an acknowledgement is pending from now, unless one was already
abbrev pub pending_from : Option ℕ → ℕ → Option ℕ
pending_from None now = Some now
pending_from (Some start) now = Some start

module _ (i : Incoming) where
  -- with these pieces of an instruction half made
  abbrev pub with_half : Contents → Incoming
  with_half half = record { numbers = i.numbers; newest = i.newest; pending = i.pending; half = half }

  -- the numbers once those below throwaway are dropped
  abbrev pub kept : ℕ → Numbers
  kept throwaway = raise i.numbers (max i.numbers.anchor throwaway)

  -- once a state is held as new: the newest is the larger, an acknowledgement is pending, and nothing is half made
  abbrev pub holding_new : ℕ → ℕ → ℕ → Incoming
  holding_new throwaway new now = record {
    numbers = put (kept throwaway) new;
    newest = max i.newest new;
    pending = pending_from i.pending now;
    half = nothing;
  }

-- an instruction that was read, whose ack is one of the numbers sent up to `top`; or its fault
abbrev pub heard : ℕ → Result Update InstructionFault → Result Update InstructionFault
heard top (Ok u) = cond (nat_le u.ack top) (Ok u) (Err AckAhead)
heard top (Err f) = Err f

-- what an instruction finds among the received states: its new number is held already; its old one isn't held; the diff leads from that to a state; or it can't be applied there
pub data Found (C : Type 0) : Type 0 where
  again : Found C
  baseless : Found C
  leads : C → Found C
  fails : StateFault → Found C

module _ (L : Kind) (w : Numbers) (ls : List L.Contents) (u : Update) where
  abbrev pub applied : Result L.Contents StateFault → Found L.Contents
  applied (Ok c) = leads c
  applied (Err f) = fails f

  abbrev pub based : Option L.Contents → Found L.Contents
  based None = baseless
  based (Some base) = applied (L.apply base u.diff)

  abbrev pub finds : Found L.Contents
  finds = cond (w.held u.new) again (based (lookup w ls u.old))

-- what a take answers, and the end and the store of received states that it leaves
pub record AfterTake (K L : Kind) : Type 0 where
  pub answer : Result Taken TakeFault
  pub end : End K
  pub received_store : List L.Contents

module _ (K L : Kind) (e : End K) (ls : List L.Contents) where
  -- a take that is refused leaves all as it was
  abbrev pub refuses : TakeFault → AfterTake K L
  refuses f = record { answer = Err f; end = e; received_store = ls }

  module _ (now : ℕ) where
    -- an end with a fragment more
    abbrev pub collected : Contents → End K
    collected half = record { direction = e.direction; current = e.current; outgoing = e.outgoing; incoming = with_half e.incoming half; tally = timed e.tally now }

    -- an end that has read an instruction whole: its ack is taken, and what came in is as given
    abbrev pub informed : ℕ → Incoming → End K
    informed ack i = record { direction = e.direction; current = e.current; outgoing = acknowledging e.outgoing ack; incoming = i; tally = timed e.tally now }

    -- an instruction that alters no received state
    abbrev pub passed : Update → Taken → AfterTake K L
    passed u t = record { answer = Ok t; end = informed u.ack (with_half e.incoming nothing); received_store = ls }

    -- a state that is held as new: shown if it is above the newest, else filled in
    abbrev pub landed : Update → L.Contents → AfterTake K L
    landed u c = record {
      answer = Ok (cond (nat_lt e.incoming.newest u.new) (Shown u.new) (Filled u.new));
      end = informed u.ack (holding_new e.incoming u.throwaway u.new now);
      received_store = stored (kept e.incoming u.throwaway) ls u.new c;
    }

    -- an instruction by what it finds
    abbrev pub followed : Update → Found L.Contents → AfterTake K L
    followed u again = passed u (Again u.new)
    followed u baseless = passed u (Baseless u.new)
    followed u (leads c) = landed u c
    followed u (fails f) = refuses (fault.State f)

    -- an instruction, or its fault
    abbrev pub instructed : Result Update InstructionFault → AfterTake K L
    instructed (Ok u) = followed u (finds L e.incoming.numbers ls u)
    instructed (Err f) = refuses (fault.Instruction f)

    -- a fragment offered to the half-made instruction
    abbrev pub assembled : Piece → Outcome → AfterTake K L
    assembled p (refused f) = refuses (fault.Fragment f)
    assembled p (partly half) = record { answer = Ok (Part p.number); end = collected half; received_store = ls }
    assembled p (wholly bs) = instructed (heard e.outgoing.top (read_instruction bs))

    -- a datagram read, or its fault
    abbrev pub unpacked : Result Parcel ReadFault → AfterTake K L
    unpacked (Ok g) = assembled g.piece (offered e.incoming.half g.piece)
    unpacked (Err f) = refuses (read_stage f)

-- a take of the bytes `bytes` at the time `time`
abbrev pub taken : (K L : Kind) → Holding K L → ℕ → List ℕ → AfterTake K L
taken K L h time bytes =
    let refused : TakeFault → AfterTake K L = refuses K L h.end h.received_store in
    cond (nat_le time latest)
    (cond (both_fit h.sent_store h.received_store)
    (unpacked K L h.end h.received_store (max h.end.tally.clock time) (read_datagram h.end.direction bytes))
    (refused (fault.Call WrongStore)))
    (refused (fault.Call LateTime))
