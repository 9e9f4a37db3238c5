-- The lines of a trace, as they are written.
use Rattle.std.specs.Prelude.{◌≡◌, ℕ, ◌≤◌, List, ◌++◌, length, Ok, codes, decimal, Result}
use Rattle.trace.specs.declared.line.End.{End}
use Rattle.trace.specs.declared.line.End.TheVariants.{Reader, Depot}
use Rattle.trace.specs.declared.line.Event.{Event}
use Rattle.trace.specs.declared.line.Event.TheVariants.{Key, Tap, Position, Tick, Take}
use Rattle.trace.specs.declared.line.Line.{Line}
use Rattle.trace.specs.declared.line.TraceFault.{TraceFault}

-- the line that a trace begins with
abbrev pub names_line : List ℕ
names_line = codes "at end event a b c"

-- six values in order, with single spaces
abbrev pub six_values : ℕ → List ℕ → List ℕ → ℕ → ℕ → ℕ → List ℕ
six_values at end event a b c = decimal at ++ (codes " " ++ (end ++ (codes " " ++ (event ++ (codes " " ++ (decimal a ++ (codes " " ++ (decimal b ++ (codes " " ++ decimal c)))))))))

-- the letter of an end
abbrev pub end_letter : End → List ℕ
end_letter Reader = codes "R"
end_letter Depot = codes "D"

-- an event by its letter and the values that it uses; the others are 0
abbrev pub written_event : ℕ → List ℕ → Event → List ℕ
written_event at end (Key key) = six_values at end (codes "K") key 0 0
written_event at end (Tap card fare balance) = six_values at end (codes "T") card fare balance
written_event at end (Position position character) = six_values at end (codes "P") position character 0
written_event at end Tick = six_values at end (codes "I") 0 0 0
written_event at end (Take datagram) = six_values at end (codes "G") datagram 0 0

-- the bytes of a value line, without the 0A that ends it
abbrev pub written : Line → List ℕ
written line = written_event line.at (end_letter line.end) line.event

-- a number that a trace may have
abbrev pub Fits : ℕ → Type 0
Fits n = n ≤ 4294967295

-- an event all of whose numbers fit
abbrev pub EventFits : Event → Type 0
EventFits (Key key) = Fits key
EventFits (Tap card fare balance) = Fits card × Fits fare × Fits balance
EventFits (Position position character) = Fits position × Fits character
EventFits Tick = Unit {0}
EventFits (Take datagram) = Fits datagram

-- a value line all of whose numbers fit
abbrev pub LineFits : Line → Type 0
LineFits line = Fits line.at × EventFits line.event

-- bytes that are laid down as a value line, and the line that they write
abbrev pub Writes : List ℕ → Line → Type 0
Writes bytes line = (length bytes ≤ 80) × LineFits line × (bytes ≡ written line)

-- an answer that is a line when, and only when, the bytes write that line
abbrev pub Reads : List ℕ → Result Line TraceFault → Type 0
Reads bytes answer = (line : Line) → (answer ≡ Ok line → Writes bytes line) × (Writes bytes line → answer ≡ Ok line)

-- no value line comes near 80 bytes
abbrev pub Short : Type 0
Short = (line : Line) → LineFits line → length (written line) ≤ 47
