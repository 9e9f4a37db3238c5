-- The lines of a listing, as they are written.
use Rattle.std.specs.Prelude.{◌≡◌, ℕ, List, ◌++◌, codes, decimal, Result, MatchResult}
use Rattle.trace.specs.Refusals.{refusal_text}
use Rattle.trace.specs.declared.listing.Outcome.{Outcome}
use Rattle.trace.specs.declared.listing.Outcome.TheVariants.{Done, Sent, Idle, Shown, Filled, Again, Baseless, Part, Refused}
use Rattle.trace.specs.declared.listing.ListingLine.{ListingLine}

-- the line that a listing begins with, and its 0A
abbrev pub listing_names : List ℕ
listing_names = codes "line result n shown sum\n"

-- the word of an outcome; a refusal is `no` and its number
abbrev pub outcome_word : Outcome → List ℕ
outcome_word Done = codes "ok"
outcome_word Sent = codes "sent"
outcome_word Idle = codes "idle"
outcome_word Shown = codes "shown"
outcome_word Filled = codes "filled"
outcome_word Again = codes "again"
outcome_word Baseless = codes "baseless"
outcome_word Part = codes "part"
outcome_word (Refused number) = refusal_text number

-- five values in order, with single spaces
abbrev pub listing_values : ListingLine → List ℕ
listing_values l = decimal l.line ++ (codes " " ++ (outcome_word l.result ++ (codes " " ++ (decimal l.n ++ (codes " " ++ (decimal l.shown ++ (codes " " ++ decimal l.sum)))))))

-- a line's values and its 0A
abbrev pub listing_line : ListingLine → List ℕ
listing_line l = listing_values l ++ codes "\n"

-- a text is appended to what was there, or what was there stays as it was
abbrev pub Appended : {X E : Type 0} → Result X E → List ℕ → List ℕ → List ℕ → Type 0
Appended answer before text after = MatchResult answer (λ _. after ≡ before ++ text) (λ _. after ≡ before)
