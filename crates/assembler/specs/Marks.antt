-- What single steps on the marks and the buffer come to.
use Rattle.std.specs.Prelude.{ℕ, ◌+◌, ◌-◌, ◌*◌, ◌/◌, ◌^◌, Bool, false, cond, ◌||◌, List, ◌++◌, length, take, drop, Some, None, Option, ◌==◌, bit_or, nat_lt}
use Rattle.packet.specs.Pieces.{Piece}
use Rattle.assembler.specs.declared.half.Last.{Last}

-- the marks with the piece n added
abbrev pub with_mark : ℕ → ℕ → ℕ
with_mark held n = bit_or held (2 ^ n)

-- the last piece's number and length, when p is added
abbrev pub last_with : Option Last → Piece → Option Last
last_with last p = cond p.last (Some (record { number = p.number; length = length p.contents })) last

-- the length of the instruction, where all its pieces are marked
abbrev pub full_length : ℕ → Option Last → Option ℕ
full_length held None = None
full_length held (Some e) = cond (held == 255 / 2 ^ (7 - e.number)) (Some (256 * e.number + e.length)) None

-- the buffer with the bytes of p at its place
abbrev pub placed : List ℕ → Piece → List ℕ
placed buf p = take (256 * p.number) buf ++ (p.contents ++ drop (256 * p.number + length p.contents) buf)

-- whether a piece that isn't marked yet is a second last or lies above the last
abbrev pub past_last : Option Last → Piece → Bool
past_last None p = false
past_last (Some e) p = p.last || nat_lt e.number p.number
