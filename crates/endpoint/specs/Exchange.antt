-- A tap on its way from the reader to the depot, computed from the definitions.
use Rattle.std.specs.Prelude.{◌≡◌, ℕ, List, [], ◌∷◌, take, replicate, Ok, refl}
use Rattle.state.specs.Check.{check_kind}
use Rattle.state.specs.Kind.{Kind}
use Rattle.journal.specs.declared.entry.Entry.TheVariants.{Tap}
use Rattle.journal.specs.Journals.{journal_kind}
use Rattle.screen.specs.Screen.{screen_kind}
use Rattle.packet.specs.declared.datagram.Direction.TheVariants.{TowardDepot, TowardReader}
use Rattle.protocol.specs.declared.answer.Ticked.TheVariants.{Idle, Sent}
use Rattle.protocol.specs.declared.answer.Taken.TheVariants.{Shown}
use Rattle.endpoint.specs.End.{Holding, fresh, with_current, changed, looked}
use Rattle.endpoint.specs.Ticking.{AfterTick, ticked}
use Rattle.endpoint.specs.Taking.{AfterTake, taken}

-- the kinds that the reader and the depot send
abbrev pub readers : Kind
readers = check_kind journal_kind

abbrev pub depots : Kind
depots = check_kind screen_kind

-- a journal of one tap: card 7, fare 250, balance 1,000
abbrev pub one_tap : readers.Contents
one_tap = (Tap 7 250 1000 ∷ [], refl)

-- stores of sixteen start states
abbrev pub sixteen : (K : Kind) → List K.Contents
sixteen K = replicate 16 K.start

-- a buffer of zeros, as long as a tick wants
abbrev pub buffer : List ℕ
buffer = replicate 2224 0

-- both ends opened at 0, and the tap noted at the reader
abbrev pub reader : Holding readers depots
reader = record { end = with_current readers depots (fresh readers depots TowardDepot 0) one_tap; sent_store = sixteen readers; received_store = sixteen depots }

abbrev pub depot : Holding depots readers
depot = record { end = fresh depots readers TowardReader 0; sent_store = sixteen depots; received_store = sixteen readers }

-- the reader's tick at 300, the depot's take at 340 of the 50 bytes written, and its tick at 440
abbrev pub reader_ticks : AfterTick readers depots
reader_ticks = ticked readers depots reader 300 buffer

abbrev pub depot_takes : AfterTake depots readers
depot_takes = taken depots readers depot 340 (take 50 reader_ticks.buffer)

abbrev pub depot_ticks : AfterTick depots readers
depot_ticks = ticked depots readers (record { end = depot_takes.end; sent_store = depot.sent_store; received_store = depot_takes.received_store }) 440 buffer

pub record Exchanged : Type 0 where
  -- the tap is taken for a change
  pub noted : changed readers depots (fresh readers depots TowardDepot 0) one_tap ≡ Ok reader.end
  -- a tick before 250 sends nothing, one at 300 a datagram of 50 bytes
  pub early : (ticked readers depots reader 249 buffer).answer ≡ Ok Idle
  pub sent : reader_ticks.answer ≡ Ok (Sent (record { count = 1; length = 50 }))
  -- the depot shows state 1, which is the journal with the tap
  pub shown : depot_takes.answer ≡ Ok (Shown 1)
  pub looks : looked depots readers depot_takes.end depot_takes.received_store ≡ Ok (1, one_tap)
  -- its tick a hundred later answers with a datagram of its own
  pub answered : depot_ticks.answer ≡ Ok (Sent (record { count = 1; length = 43 }))
