-- What an assembler holds: nothing, or pieces of one sending's instruction by their numbers.
use Rattle.std.specs.Prelude.{ℕ, zero, suc, ◌+◌, Bool, false, cond, List, ◌++◌, Some, None, Option, ◌==◌}
use Rattle.packet.specs.Pieces.{Piece}

-- a held piece: its bytes, and whether it is the last
pub record Held : Type 0 where
  pub bytes : List ℕ
  pub last : Bool

-- nothing, or the sending and what is held under each number
pub data Contents : Type 0 where
  nothing : Contents
  collecting : ℕ → (ℕ → Option Held) → Contents

-- no piece at all
abbrev pub none : ℕ → Option Held
none k = None

-- whether pieces of the sending s are collected
abbrev pub collects : Contents → ℕ → Bool
collects nothing s = false
collects (collecting o held) s = o == s

-- what is held of the sending s
abbrev pub held_of : Contents → ℕ → ℕ → Option Held
held_of nothing s = none
held_of (collecting o held) s = cond (o == s) held none

-- a piece, as it is held
abbrev pub held_as : Piece → Held
held_as p = record { bytes = p.contents; last = p.last }

-- what is held with the piece p added under its number
abbrev pub adding : (ℕ → Option Held) → Piece → ℕ → Option Held
adding held p k = cond (k == p.number) (Some (held_as p)) (held k)

-- bytes put before others, if there are any
abbrev pub before : List ℕ → Option (List ℕ) → Option (List ℕ)
before bs None = None
before bs (Some cs) = Some (bs ++ cs)

-- a piece's bytes, followed by those of the pieces after it unless it is the last
abbrev pub onward : Option Held → Option (List ℕ) → Option (List ℕ)
onward None rest = None
onward (Some h) rest = cond h.last (Some h.bytes) (before h.bytes rest)

-- the bytes of the pieces from number k to the last, which is one of the next n; none if one is missing
abbrev pub from : ℕ → ℕ → (ℕ → Option Held) → Option (List ℕ)
from zero k held = None
from (suc n) k held = onward (held k) (from n (k + 1) held)

-- the instruction's bytes, where none is missing from the first piece to the last
unfoldable pub joined : (ℕ → Option Held) → Option (List ℕ)
joined held = from 8 0 held
