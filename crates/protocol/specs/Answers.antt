-- What every answer of an end's calls says: its word and its n, and the number of every refusal.
use Rattle.std.specs.Prelude.{ℕ, List, Ok, Err, codes, Result}
use Rattle.state.specs.Faults.{refusal_text}
use Rattle.packet.specs.Refusals.{datagram_fault_of, fragment_fault_of, instruction_fault_of}
use Rattle.protocol.specs.declared.answer.Ticked.{Ticked}
use Rattle.protocol.specs.declared.answer.Ticked.TheVariants.{Idle, Sent}
use Rattle.protocol.specs.declared.answer.Taken.{Taken}
use Rattle.protocol.specs.declared.answer.Taken.TheVariants.{Part, Shown, Filled, Again, Baseless}
use Rattle.protocol.specs.declared.fault.CallRefusal.{CallRefusal}
use Rattle.protocol.specs.declared.fault.CallRefusal.TheVariants as call
use Rattle.protocol.specs.declared.fault.ChangeRefusal.{ChangeRefusal}
use Rattle.protocol.specs.declared.fault.ChangeRefusal.TheVariants as change
use Rattle.protocol.specs.declared.fault.TickRefusal.{TickRefusal}
use Rattle.protocol.specs.declared.fault.TickRefusal.TheVariants as tick
use Rattle.protocol.specs.declared.fault.TakeFault.{TakeFault}
use Rattle.protocol.specs.declared.fault.TakeFault.TheVariants as take

-- a word, and the number n beside it
pub record Told : Type 0 where
  pub word : List ℕ
  pub n : ℕ

-- a tick that sent tells how many datagrams
abbrev pub tick_told : Ticked → Told
tick_told Idle = record { word = codes "idle"; n = 0 }
tick_told (Sent s) = record { word = codes "sent"; n = s.count }

-- a part tells the fragment's number, and what became of an instruction its new number
abbrev pub take_told : Taken → Told
take_told (Part k) = record { word = codes "part"; n = k }
take_told (Shown n) = record { word = codes "shown"; n = n }
take_told (Filled n) = record { word = codes "filled"; n = n }
take_told (Again n) = record { word = codes "again"; n = n }
take_told (Baseless n) = record { word = codes "baseless"; n = n }

-- what was done and has nothing to tell; a refusal by its number
abbrev pub done_told : Told
done_told = record { word = codes "ok"; n = 0 }

abbrev pub refused_told : ℕ → Told
refused_told number = record { word = refusal_text number; n = 0 }

-- a time above 4,000,000,000; a store that isn't 16 states long
abbrev pub call_refusal_of : CallRefusal → ℕ
call_refusal_of call.LateTime = 4
call_refusal_of call.WrongStore = 5

-- the target doesn't follow the current state
abbrev pub change_refusal_of : ChangeRefusal → ℕ
change_refusal_of change.NotFollowing = 7

-- of the call; a buffer under 2,224 bytes; a new state that doesn't follow the old one; no sending left of 1,000,000; a diff over 2,031 bytes
abbrev pub tick_refusal_of : TickRefusal → ℕ
tick_refusal_of (tick.Call f) = call_refusal_of f
tick_refusal_of tick.ShortBuffer = 5
tick_refusal_of tick.NotFollowing = 7
tick_refusal_of tick.NoSendingsLeft = 8
tick_refusal_of tick.LongDiff = 9

-- by stage: the call's number, the datagram's, the fragment's, the instruction's, and 17 for a state that refused the diff
abbrev pub take_fault_of : TakeFault → ℕ
take_fault_of (take.Call f) = call_refusal_of f
take_fault_of (take.Datagram f) = datagram_fault_of f
take_fault_of (take.Fragment f) = fragment_fault_of f
take_fault_of (take.Instruction f) = instruction_fault_of f
take_fault_of (take.State f) = 17

-- a change, a tick and a take, refused or not
abbrev pub told_of_change : {X : Type 0} → Result X ChangeRefusal → Told
told_of_change (Ok x) = done_told
told_of_change (Err f) = refused_told (change_refusal_of f)

abbrev pub told_of_tick : Result Ticked TickRefusal → Told
told_of_tick (Ok t) = tick_told t
told_of_tick (Err f) = refused_told (tick_refusal_of f)

abbrev pub told_of_take : Result Taken TakeFault → Told
told_of_take (Ok t) = take_told t
told_of_take (Err f) = refused_told (take_fault_of f)
