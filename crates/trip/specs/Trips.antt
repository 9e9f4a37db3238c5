-- What a line of a trace makes of a trip, and the numbers of its refusals.
use Rattle.std.specs.Prelude.{◌≡◌, ℕ, Bool, true, false, cond, Ok, Err, Result, nat_le}
use Rattle.state.specs.declared.fault.EditRefusal.{EditRefusal}
use Rattle.state.specs.Faults.{edit_refusal_of}
use Rattle.journal.specs.declared.journal.Journal.{Journal}
use Rattle.journal.specs.Edits.{edited, keyed, tapped}
use Rattle.journal.specs.Journals.{reading}
use Rattle.screen.specs.declared.screen.Screen.{Screen}
use Rattle.screen.specs.Screen.{Drawn}
use Rattle.trace.specs.declared.line.End.{End}
use Rattle.trace.specs.declared.line.End.TheVariants.{Reader, Depot}
use Rattle.trace.specs.declared.line.Event.{Event}
use Rattle.trace.specs.declared.line.Event.TheVariants.{Key, Tap, Position, Tick, Take}
use Rattle.trace.specs.declared.line.Line.{Line}
use Rattle.trip.specs.declared.entering.Trip.{Trip}
use Rattle.trip.specs.declared.entering.Refusal.{Refusal}
use Rattle.trip.specs.declared.entering.Refusal.TheVariants.{WrongEnd, LateTime, Edit}

-- an event of the other end; a time above 4,000,000,000; the number of the edit's own refusal
abbrev pub refusal_number : Refusal → ℕ
refusal_number WrongEnd = 2
refusal_number LateTime = 4
refusal_number (Edit f) = edit_refusal_of f

-- the trip with another journal, or the refusal of the edit
abbrev pub journalled : Trip → Result Journal EditRefusal → Result Trip Refusal
journalled t (Ok j) = Ok (record { journal = j; screen = t.screen })
journalled t (Err f) = Err (Edit f)

-- the trip with another screen, or the refusal of the edit
abbrev pub drawn_on : Trip → Result Screen EditRefusal → Result Trip Refusal
drawn_on t (Ok s) = Ok (record { journal = t.journal; screen = s })
drawn_on t (Err f) = Err (Edit f)

-- keys and taps are the reader's events, positions the depot's, ticks and takes both ends'
abbrev pub is_own : End → Event → Bool
is_own Reader (Key key) = true
is_own Reader (Tap card fare balance) = true
is_own Reader (Position position character) = false
is_own Reader Tick = true
is_own Reader (Take datagram) = true
is_own Depot (Key key) = false
is_own Depot (Tap card fare balance) = false
is_own Depot (Position position character) = true
is_own Depot Tick = true
is_own Depot (Take datagram) = true

-- what an event leaves: some journal's edit, some screen's, or the trip as it was
abbrev pub Made : Trip → Event → Result Trip Refusal → Type 0
Made t (Key key) r = (a : Result Journal EditRefusal) × (edited a ≡ keyed (reading t.journal) key) × (r ≡ journalled t a)
Made t (Tap card fare balance) r = (a : Result Journal EditRefusal) × (edited a ≡ tapped (reading t.journal) card fare balance) × (r ≡ journalled t a)
Made t (Position position character) r = (a : Result Screen EditRefusal) × Drawn t.screen position character a × (r ≡ drawn_on t a)
Made t Tick r = r ≡ Ok t
Made t (Take datagram) r = r ≡ Ok t

-- a line taken in: an event of the other end is refused, then a late time, then by the edit
abbrev pub Entered : Trip → Line → Result Trip Refusal → Type 0
Entered t line r =
    cond (is_own line.end line.event)
    (cond (nat_le line.at 4000000000) (Made t line.event r) (r ≡ Err LateTime))
    (r ≡ Err WrongEnd)
