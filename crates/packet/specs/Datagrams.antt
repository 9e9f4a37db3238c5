-- A datagram's bytes, and how an end reads bytes as one.
use Rattle.std.specs.Prelude.{ℕ, ◌+◌, ◌%◌, Bool, true, false, cond, ◌&&◌, List, [], ◌∷◌, ◌++◌, length, drop, Ok, Err, Result, nat_le}
use Rattle.packet.specs.declared.datagram.Direction.{Direction}
use Rattle.packet.specs.declared.datagram.Direction.TheVariants.{TowardDepot, TowardReader}
use Rattle.packet.specs.declared.datagram.Datagram.{Datagram as Received}
use Rattle.packet.specs.declared.refusal.DatagramFault.TheVariants.{WrongLength, OwnDirection}
use Rattle.packet.specs.declared.refusal.FragmentFault.{FragmentFault}
use Rattle.packet.specs.declared.refusal.ReadFault.{ReadFault}
use Rattle.packet.specs.declared.refusal.ReadFault.TheVariants.{Datagram, Fragment}
use Rattle.packet.specs.Eight.{eight, of_eight}
use Rattle.packet.specs.Pieces.{Piece, piece_of}
use Rattle.packet.specs.Fragments.{fragment_bytes, read_fragment}

-- a datagram by what it says: its direction, its number from 0, its fragment
pub record Parcel : Type 0 where
  pub direction : Direction
  pub number : ℕ
  pub piece : Piece

-- what a datagram says
abbrev pub parcel_of : Received → Parcel
parcel_of d = record { direction = d.direction; number = d.number; piece = piece_of d.fragment }

-- the weight of the top bit of eight bytes; a datagram's number is below it
abbrev pub top_bit : ℕ
top_bit = 9223372036854775808

-- the top bit of the first eight bytes: 0 toward the depot, 1 toward the reader
abbrev pub top_of : Direction → ℕ
top_of TowardDepot = 0
top_of TowardReader = top_bit

-- the direction that the first eight bytes carry
abbrev pub direction_of : ℕ → Direction
direction_of word = cond (nat_le top_bit word) TowardReader TowardDepot

-- whether two directions are one
abbrev pub same_direction : Direction → Direction → Bool
same_direction TowardDepot TowardDepot = true
same_direction TowardDepot TowardReader = false
same_direction TowardReader TowardDepot = false
same_direction TowardReader TowardReader = true

-- a datagram's bytes, whatever the four unread ones hold: the top bit with the number, those four, the fragment
unfoldable pub datagram_around : List ℕ → Parcel → List ℕ
datagram_around unread g = eight (top_of g.direction + g.number) ++ (unread ++ fragment_bytes g.piece)

-- a datagram's bytes as they are written
abbrev pub datagram_bytes : Parcel → List ℕ
datagram_bytes = datagram_around (255 ∷ 255 ∷ 255 ∷ 255 ∷ [])

-- what bytes say as a datagram, once their fragment is read
abbrev pub carried : List ℕ → Result Piece FragmentFault → Result Parcel ReadFault
carried bs (Ok p) = Ok (record { direction = direction_of (of_eight bs 0); number = of_eight bs 0 % top_bit; piece = p })
carried bs (Err f) = Err (Fragment f)

-- bytes read by an end that sends in the direction `sends`: of 22 to 278 bytes, in the other direction, with a fragment behind the first twelve
abbrev pub read_datagram : Direction → List ℕ → Result Parcel ReadFault
read_datagram sends bs =
    cond (nat_le 22 (length bs) && nat_le (length bs) 278)
    (cond (same_direction (direction_of (of_eight bs 0)) sends) (Err (Datagram OwnDirection)) (carried bs (read_fragment (drop 12 bs))))
    (Err (Datagram WrongLength))
