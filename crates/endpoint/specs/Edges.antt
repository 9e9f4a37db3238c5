-- Edges of the rules, computed from the definitions.
use Rattle.std.specs.Prelude.{◌≡◌, ℕ, true, List, [], ◌∷◌, replicate, None, Ok, Err, slice_set, refl}
use Rattle.state.specs.Check.{sum_bytes}
use Rattle.journal.specs.declared.entry.Entry.TheVariants.{Key}
use Rattle.journal.specs.Journals.{journal_kind}
use Rattle.screen.specs.Screen.{screen_kind, blank, drawn_at, settled}
use Rattle.packet.specs.declared.datagram.Direction.TheVariants.{TowardDepot}
use Rattle.packet.specs.declared.refusal.InstructionFault.TheVariants.{NumbersApart}
use Rattle.packet.specs.Instructions.{Update, instruction_bytes, read_instruction}
use Rattle.packet.specs.Refusals.{instruction_fault_of}
use Rattle.assembler.specs.Contents.{nothing}
use Rattle.endpoint.specs.End.{End}
use Rattle.endpoint.specs.Ticking.{assumed, update}

-- a journal of one key, code 13; the start screen with A at position 0 and B, where the cursor then is, at position 2
abbrev pub one_key : journal_kind.Contents
one_key = (Key 13 ∷ [], refl)

abbrev pub two_letters : screen_kind.Contents
two_letters = settled (drawn_at (drawn_at blank 0 65) 2 66)

-- an instruction without a diff
abbrev pub bare : ℕ → ℕ → ℕ → Update
bare throwaway old new = record { old = old; new = new; ack = 0; throwaway = throwaway; diff = [] }

-- an end toward the depot that has sent the numbers from a to b of a journal, at these times
abbrev pub sending : journal_kind.Contents → ℕ → ℕ → List ℕ → End journal_kind journal_kind
sending current a b times = record {
  direction = TowardDepot;
  current = current;
  sent = record { anchor = a; width = 16; held = λ n. true };
  top = b;
  times = times;
  received = record { anchor = 0; width = 16; held = λ n. true };
  newest = 0;
  pending = None;
  half = nothing;
  last = 0;
  clock = 0;
  sendings = 0;
  datagrams = 0;
}

-- sixteen empty journals
abbrev pub sixteen : List journal_kind.Contents
sixteen = replicate 16 journal_kind.start

pub record Edges : Type 0 where
  -- the diff from the empty journal to key 13
  pub key : journal_kind.diff journal_kind.start one_key ≡ 1 ∷ 13 ∷ []
  -- the checksum of a tap of card 7, fare 250 and balance 1,000, and of no bytes
  pub tap_sum : sum_bytes (2 ∷ 0 ∷ 0 ∷ 0 ∷ 7 ∷ 0 ∷ 250 ∷ 3 ∷ 232 ∷ []) ≡ 20 ∷ 251 ∷ []
  pub no_sum : sum_bytes [] ≡ 255 ∷ 255 ∷ []
  -- an unchanged start screen, and one with two letters
  pub unchanged : screen_kind.diff screen_kind.start screen_kind.start ≡ 0 ∷ 0 ∷ []
  pub letters : screen_kind.diff screen_kind.start two_letters ≡ 0 ∷ 2 ∷ 0 ∷ 0 ∷ 1 ∷ 65 ∷ 0 ∷ 2 ∷ 1 ∷ 66 ∷ []
  -- throwaway 5, old 5 and new 20 pass, and new 21 is refused by 15
  pub reach : read_instruction (instruction_bytes (bare 5 5 20)) ≡ Ok (bare 5 5 20)
  pub beyond : read_instruction (instruction_bytes (bare 5 5 21)) ≡ Err NumbersApart
  pub beyond_number : instruction_fault_of NumbersApart ≡ 15
  -- with 4 acknowledged and 19 the last, a changed state sends 19, whatever the time
  pub full : (now : ℕ) → (update journal_kind journal_kind (sending one_key 4 19 (replicate 16 0)) sixteen now).new ≡ 19
  -- with 2 acknowledged, and 3 and 4 sent at 1,000 and 1,300, the old state is 4 at 2,099 and 2 at 2,100
  pub lately : assumed journal_kind journal_kind (sending one_key 2 4 (slice_set (slice_set (replicate 16 0) 3 1000) 4 1300)) sixteen 2099 ≡ 4
  pub too_late : assumed journal_kind journal_kind (sending one_key 2 4 (slice_set (slice_set (replicate 16 0) 3 1000) 4 1300)) sixteen 2100 ≡ 2
