-- Edges of the rules, computed from the definitions.
use Rattle.std.specs.Prelude.{◌≡◌, ℕ, true, ◌&&◌, List, [], ◌∷◌, take, drop, replicate, Ok, Err, nat_le, slice_set, refl}
use Rattle.state.specs.Check.{sum_bytes}
use Rattle.journal.specs.declared.entry.Entry.TheVariants.{Key}
use Rattle.journal.specs.Journals.{journal_kind}
use Rattle.screen.specs.Screen.{screen_kind, blank, drawn_at, settled}
use Rattle.packet.specs.declared.datagram.Direction.TheVariants.{TowardDepot}
use Rattle.packet.specs.declared.refusal.InstructionFault.TheVariants.{NumbersApart}
use Rattle.packet.specs.Instructions.{Update, instruction_bytes, read_instruction}
use Rattle.packet.specs.Refusals.{instruction_fault_of}
use Rattle.protocol.specs.declared.answer.Ticked.TheVariants.{Sent}
use Rattle.protocol.specs.Due.{due}
use Rattle.protocol.specs.End.{Outgoing, Holding, nothing_in}
use Rattle.protocol.specs.Ticking.{AfterTick, assumed, facts, update, ticked}

-- a journal of one key, code 13; the start screen with A at position 0 and B, where the cursor then is, at position 2
abbrev pub one_key : journal_kind.Contents
one_key = (Key 13 ∷ [], refl)

abbrev pub two_letters : screen_kind.Contents
two_letters = settled (drawn_at (drawn_at blank 0 65) 2 66)

-- an instruction without a diff
abbrev pub bare : ℕ → ℕ → ℕ → Update
bare throwaway old new = record { old = old; new = new; ack = 0; throwaway = throwaway; diff = [] }

-- what goes out where exactly the numbers from a to b are held, sent at these times
abbrev pub sent_from : ℕ → ℕ → List ℕ → Outgoing
sent_from a b times = record { numbers = record { anchor = a; width = 16; held = λ n. nat_le a n && nat_le n b }; top = b; times = times }

-- an end toward the depot that has sent the numbers 4 to 19, each as the empty journal and long ago, and whose journal now has a key; 19 instructions have gone out
abbrev pub full_end : Holding journal_kind journal_kind
full_end = record {
  end = record {
    direction = TowardDepot;
    current = one_key;
    outgoing = sent_from 4 19 (replicate 16 0);
    incoming = nothing_in;
    tally = record { last = 0; clock = 0; sendings = 19; datagrams = 19 };
  };
  sent_store = replicate 16 journal_kind.start;
  received_store = replicate 16 journal_kind.start;
}

-- its tick after a silence
abbrev pub full_tick : AfterTick journal_kind
full_tick = ticked journal_kind journal_kind full_end 3000 (replicate 2224 0)

-- with 2 acknowledged, and 3 and 4 sent at 1,000 and 1,300
abbrev pub two_sent : Outgoing
two_sent = sent_from 2 4 (slice_set (slice_set (replicate 16 0) 3 1000) 4 1300)

pub record Edges : Type 0 where
  -- the diff from the empty journal to key 13
  pub key : journal_kind.diff journal_kind.start one_key ≡ 1 ∷ 13 ∷ []
  -- the checksum of a tap of card 7, fare 250 and balance 1,000, and of no bytes
  pub tap_sum : sum_bytes (2 ∷ 0 ∷ 0 ∷ 0 ∷ 7 ∷ 0 ∷ 250 ∷ 3 ∷ 232 ∷ []) ≡ 20 ∷ 251 ∷ []
  pub no_sum : sum_bytes [] ≡ 255 ∷ 255 ∷ []
  -- an unchanged start screen, and one with two letters
  pub unchanged : screen_kind.diff screen_kind.start screen_kind.start ≡ 0 ∷ 0 ∷ []
  pub letters : screen_kind.diff screen_kind.start two_letters ≡ 0 ∷ 2 ∷ 0 ∷ 0 ∷ 1 ∷ 65 ∷ 0 ∷ 2 ∷ 1 ∷ 66 ∷ []
  -- throwaway 5, old 5 and new 20 pass, and new 21 is refused by 15
  pub reach : read_instruction (instruction_bytes (bare 5 5 20)) ≡ Ok (bare 5 5 20)
  pub beyond : read_instruction (instruction_bytes (bare 5 5 21)) ≡ Err NumbersApart
  pub beyond_number : instruction_fault_of NumbersApart ≡ 15
  -- with 4 acknowledged and 19 the last, a changed state waits: a due tick sends one datagram of 39 bytes, whose instruction leads to 19 once more, and 19 stays the last; and so at any time
  pub full_due : due (facts journal_kind full_end.end full_end.sent_store 3000) ≡ true
  pub full_sent : full_tick.answer ≡ Ok (Sent (record { count = 1; length = 39 }))
  pub full_instruction : read_instruction (drop 22 (take 39 full_tick.buffer)) ≡ Ok (bare 4 4 19)
  pub full_top : full_tick.end.outgoing.top ≡ 19
  pub full_always : (now : ℕ) → (update journal_kind full_end.end full_end.sent_store now).new ≡ 19
  -- with 2 acknowledged, and 3 and 4 sent at 1,000 and 1,300, the old state is 4 at 2,099 and 2 at 2,100
  pub lately : assumed two_sent 2099 ≡ 4
  pub too_late : assumed two_sent 2100 ≡ 2
