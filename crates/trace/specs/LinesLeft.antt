-- What an iterator of numbered lines has left.
use Rattle.std.specs.Prelude.{ℕ, List, drop}
use denote.Ref.{Bor}
use Rattle.trace.specs.Lines.{lines_of, numbered_on}
use Rattle.trace.specs.declared.lines.NumberedLines.{NumberedLines}

-- the number and the bytes of a line that it gives
abbrev pub line_of_item : ℕ × Bor (List ℕ) → ℕ × List ℕ
line_of_item (number, line) = (number, line.now)

-- the lines that are still to come, with their numbers
abbrev pub lines_left : NumberedLines → List (ℕ × List ℕ)
lines_left s = numbered_on s.count.lines (lines_of (drop s.place.at s.text.now))
