-- The numbers and the values of each refusal of a diff or an edit.
use Rattle.std.specs.Prelude.{ℕ, ◌+◌, min, List, ◌++◌, codes, decimal}
use Rattle.state.specs.declared.fault.StateFault.{StateFault}
use Rattle.state.specs.declared.fault.StateFault.TheVariants.{BadCheck, BadRun, BadEntry, TooManyEntries}
use Rattle.state.specs.declared.fault.DiffRefusal.{DiffRefusal}
use Rattle.state.specs.declared.fault.DiffRefusal.TheVariants.{NotFollowing, TooLong}
use Rattle.state.specs.declared.fault.EditRefusal.{EditRefusal}
use Rattle.state.specs.declared.fault.EditRefusal.TheVariants.{OutsideField, Full}

-- the cause's number: a check wrong or missing, a bad cursor or run, no whole entry, a 65th entry
abbrev pub cause_of : StateFault → ℕ
cause_of (BadCheck at) = 1
cause_of (BadRun at) = 2
cause_of (BadEntry at) = 3
cause_of (TooManyEntries at) = 4

-- the first byte of the bad part
abbrev pub place_of : StateFault → ℕ
place_of (BadCheck at) = at
place_of (BadRun at) = at
place_of (BadEntry at) = at
place_of (TooManyEntries at) = at

-- a place in an inner diff that starts at `by`, as a place in the outer one; none is told above the largest 64-bit number
abbrev pub later : ℕ → ℕ → ℕ
later by at = min (at + by) 18446744073709551615

-- the fault of an inner diff that starts at `by`
abbrev pub moved_by : ℕ → StateFault → StateFault
moved_by by (BadCheck at) = BadCheck (later by at)
moved_by by (BadRun at) = BadRun (later by at)
moved_by by (BadEntry at) = BadEntry (later by at)
moved_by by (TooManyEntries at) = TooManyEntries (later by at)

-- the text of a fault: its cause's number and its place
abbrev pub fault_words : StateFault → List ℕ
fault_words f = codes "cause " ++ (decimal (cause_of f) ++ (codes " at " ++ decimal (place_of f)))

-- the number of a diff's refusal: the target doesn't follow the base; the diff is too long
abbrev pub diff_refusal_of : DiffRefusal → ℕ
diff_refusal_of NotFollowing = 7
diff_refusal_of TooLong = 9

-- a refusal as it is printed: `no` and its number
abbrev pub refusal_text : ℕ → List ℕ
refusal_text n = codes "no" ++ decimal n

-- the number of an edit's refusal: a value outside its field; no room for one entry more
abbrev pub edit_refusal_of : EditRefusal → ℕ
edit_refusal_of OutsideField = 6
edit_refusal_of Full = 6
