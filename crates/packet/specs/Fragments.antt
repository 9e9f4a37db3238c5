-- A fragment's bytes, and how bytes are read as one.
use Rattle.std.specs.Prelude.{ℕ, ◌+◌, ◌%◌, Bool, cond, ◌&&◌, List, ◌++◌, length, drop, Ok, Err, Result, ◌==◌, nat_le, nat_lt}
use Rattle.state.specs.BigEndian.{two, of_two}
use Rattle.packet.specs.declared.refusal.FragmentFault.{FragmentFault}
use Rattle.packet.specs.declared.refusal.FragmentFault.TheVariants.{Malformed}
use Rattle.packet.specs.Eight.{eight, of_eight}
use Rattle.packet.specs.Pieces.{Piece}

-- the 16-bit field: its top bit marks the last piece, the rest is the piece's number
abbrev pub field_of : Piece → ℕ
field_of p = cond p.last 32768 0 + p.number

-- a fragment's bytes: the sending's number, the field, the contents
unfoldable pub fragment_bytes : Piece → List ℕ
fragment_bytes p = eight p.sending ++ (two (field_of p) ++ p.contents)

-- the rules of a piece: the last is one of eight and has 1 to 256 bytes; another is one of the first seven and has 256
abbrev pub sound : Piece → Bool
sound p =
    cond p.last
    (nat_le p.number 7 && (nat_le 1 (length p.contents) && nat_le (length p.contents) 256))
    (nat_lt p.number 7 && length p.contents == 256)

-- what bytes say as a fragment
unfoldable pub piece_in : List ℕ → Piece
piece_in bs = record { sending = of_eight bs 0; number = of_two bs 8 % 32768; last = nat_le 32768 (of_two bs 8); contents = drop 10 bs }

-- bytes read: what they say, if it keeps the rules
abbrev pub read_fragment : List ℕ → Result Piece FragmentFault
read_fragment bs = cond (sound (piece_in bs)) (Ok (piece_in bs)) (Err Malformed)
