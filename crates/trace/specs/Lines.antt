-- The lines of a text, which 0A ends.
use Rattle.std.specs.Prelude.{◌≡◌, ℕ, ◌+◌, ◌<◌, ◌≤◌, min, cond, not, List, [], ◌∷◌, ◌++◌, length, drop, ◌==◌, ◌≢◌, nat_lt}
use Rattle.std.specs.List.{prefix_len, AllByRecursion}

-- a byte more at the front of the first line
abbrev pub onto : ℕ → List (List ℕ) → List (List ℕ)
onto b [] = (b ∷ []) ∷ []
onto b (line ∷ lines) = (b ∷ line) ∷ lines

-- a text cut at each 0A; what stands behind the last one is a line only if there is something
abbrev pub lines_of : List ℕ → List (List ℕ)
lines_of [] = []
lines_of (b ∷ text) = cond (b == 10) ([] ∷ lines_of text) (onto b (lines_of text))

-- lines joined, each with its 0A
abbrev pub joined : List (List ℕ) → List ℕ
joined [] = []
joined (line ∷ lines) = line ++ (10 ∷ joined lines)

-- the 0A that the last line of a text lacks
abbrev pub lacking : List ℕ → List ℕ
lacking [] = []
lacking (b ∷ []) = cond (b == 10) [] (10 ∷ [])
lacking (b ∷ (next ∷ text)) = lacking (next ∷ text)

-- a line has no 0A
abbrev pub Unbroken : List ℕ → Type 0
Unbroken line = AllByRecursion (λ b. b ≢ 10) line

-- the lines of a text have no 0A and, joined, are the text again; the lines of joined lines are those
pub record Rejoins : Type 0 where
  pub unbroken : (text : List ℕ) → AllByRecursion Unbroken (lines_of text)
  pub whole : (text : List ℕ) → joined (lines_of text) ≡ text ++ lacking text
  pub same : (lines : List (List ℕ)) → AllByRecursion Unbroken lines → lines_of (joined lines) ≡ lines

-- how many bytes stand before the first 0A
abbrev pub line_length : List ℕ → ℕ
line_length text = prefix_len (λ b. not (b == 10)) text

-- the place behind the line at a place and its 0A, or the same place at the end of the text
abbrev pub next_place : List ℕ → ℕ → ℕ
next_place text at = cond (nat_lt at (length text)) (min (at + line_length (drop at text) + 1) (length text)) at

-- one line more, unless the place is the end of the text; a full count stays
abbrev pub next_count : List ℕ → ℕ → ℕ → ℕ
next_count text at count = cond (nat_lt at (length text)) (min (count + 1) 18446744073709551615) count

-- lines, each with its number, where some count of lines stands before them
abbrev pub numbered_on : ℕ → List (List ℕ) → List (ℕ × List ℕ)
numbered_on count [] = []
numbered_on count (line ∷ lines) = (count + 1, line) ∷ numbered_on (count + 1) lines

-- no line stands at a place
abbrev pub LastAt : List ℕ → ℕ → Type 0
LastAt text at = (length text ≤ at) × (lines_of (drop at text) ≡ [])

-- the line that stands at a place, and the place behind it
abbrev pub LineAt : List ℕ → ℕ → List ℕ → ℕ → Type 0
LineAt text at line next = (at < length text) × (next ≡ next_place text at) × (lines_of (drop at text) ≡ line ∷ lines_of (drop next text))
