-- What is read of a trace, in words.
use Rattle.std.specs.Prelude.{ℕ, List, ◌++◌, codes, decimal}
use Rattle.trace.specs.Refusals.{refusal_number, refusal_text}
use Rattle.trace.specs.declared.line.End.{End}
use Rattle.trace.specs.declared.line.End.TheVariants.{Reader, Depot}
use Rattle.trace.specs.declared.line.Event.{Event}
use Rattle.trace.specs.declared.line.Event.TheVariants.{Key, Tap, Position, Tick, Take}
use Rattle.trace.specs.declared.line.Line.{Line}
use Rattle.trace.specs.declared.line.TraceFault.{TraceFault}

-- the word of an end
abbrev pub end_word : End → List ℕ
end_word Reader = codes "reader"
end_word Depot = codes "depot"

-- an event and its values, in words
abbrev pub event_words : Event → List ℕ
event_words (Key key) = codes "key " ++ decimal key
event_words (Tap card fare balance) = codes "tap of card " ++ (decimal card ++ (codes " fare " ++ (decimal fare ++ (codes " balance " ++ decimal balance))))
event_words (Position position character) = codes "position " ++ (decimal position ++ (codes " character " ++ decimal character))
event_words Tick = codes "tick"
event_words (Take datagram) = codes "take " ++ decimal datagram

-- a value line in words
abbrev pub line_words : Line → List ℕ
line_words l = codes "at " ++ (decimal l.at ++ (codes " " ++ (end_word l.end ++ (codes " " ++ event_words l.event))))

-- the word of a refusal: `no` and its number
abbrev pub fault_word : TraceFault → List ℕ
fault_word fault = refusal_text (refusal_number fault)
