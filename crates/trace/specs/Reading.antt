-- A value line read from its front to its end.
use Rattle.std.specs.Prelude.{ℕ, cond, ◌&&◌, List, [], ◌∷◌, length, Some, None, Option, ◌==◌, nat_le}
use Rattle.trace.specs.Fronts.{and_then, number_front, letter_front, value_front}
use Rattle.trace.specs.declared.line.End.{End}
use Rattle.trace.specs.declared.line.End.TheVariants.{Reader, Depot}
use Rattle.trace.specs.declared.line.Event.{Event}
use Rattle.trace.specs.declared.line.Event.TheVariants.{Key, Tap, Position, Tick, Take}
use Rattle.trace.specs.declared.line.Line.{Line}

-- the end of a letter, R or D
abbrev pub end_of : ℕ → Option End
end_of letter = cond (letter == 82) (Some Reader) (cond (letter == 68) (Some Depot) None)

-- the event of a letter, K, T, P, I or G, whose unused values are 0
abbrev pub event_of : ℕ → ℕ → ℕ → ℕ → Option Event
event_of letter a b c =
    cond (letter == 75 && (b == 0 && c == 0)) (Some (Key a))
    (cond (letter == 84) (Some (Tap a b c))
    (cond (letter == 80 && c == 0) (Some (Position a b))
    (cond (letter == 73 && (a == 0 && (b == 0 && c == 0))) (Some Tick)
    (cond (letter == 71 && (b == 0 && c == 0)) (Some (Take a)) None))))

-- the line of an end and an event, where there are both
abbrev pub line_from : ℕ → Option End → Option Event → Option Line
line_from at None event = None
line_from at (Some end) None = None
line_from at (Some end) (Some event) = Some (record { at = at; end = end; event = event })

-- a line with nothing after it
abbrev pub at_end : Option Line → List ℕ → Option Line
at_end line [] = line
at_end line (b ∷ rest) = None

-- six values from the front of a text to its end
abbrev pub six_of : List ℕ → Option Line
six_of text =
    and_then (number_front text) (λ at s.
    and_then (letter_front s) (λ end s.
    and_then (letter_front s) (λ event s.
    and_then (value_front s) (λ a s.
    and_then (value_front s) (λ b s.
    and_then (value_front s) (λ c s.
    at_end (line_from at (end_of end) (event_of event a b c)) s))))))

-- the line that a text is, which has at most 80 bytes
abbrev pub line_of : List ℕ → Option Line
line_of text = cond (nat_le (length text) 80) (six_of text) None
