-- What the three layouts promise: what keeps the rules is read back as it was written, and no other bytes are accepted.
use Rattle.std.specs.Prelude.{◌≡◌, ℕ, ◌<◌, ◌≤◌, true, false, List, [], length, take, drop, Ok, slice_index, slice_index_or}
use Rattle.std.specs.List.{range_with_len, flat_map}
use Rattle.packet.specs.declared.datagram.Direction.{Direction}
use Rattle.packet.specs.Pieces.{Piece, piece_count, piece}
use Rattle.packet.specs.Instructions.{Update, together, instruction_bytes, read_instruction}
use Rattle.packet.specs.Fragments.{sound, fragment_bytes, read_fragment}
use Rattle.packet.specs.Datagrams.{Parcel, top_bit, same_direction, datagram_around, read_datagram}
use Rattle.packet.specs.Sendings.{parcel, datagrams_of}

-- each is a byte
abbrev pub Bytes : List ℕ → Type 0
Bytes bs = (k : ℕ) → slice_index bs k < 256

-- an instruction whose numbers are together is read back from its bytes, and bytes read as an instruction are the bytes of such a one
abbrev pub InstructionStands : Type 0
InstructionStands =
    ((u : Update) → together u ≡ true → read_instruction (instruction_bytes u) ≡ Ok u)
    × ((bs : List ℕ) (u : Update) → Bytes bs → read_instruction bs ≡ Ok u → (together u ≡ true) × (bs ≡ instruction_bytes u))

-- the same of a fragment that keeps the rules
abbrev pub FragmentStands : Type 0
FragmentStands =
    ((p : Piece) → sound p ≡ true → read_fragment (fragment_bytes p) ≡ Ok p)
    × ((bs : List ℕ) (p : Piece) → Bytes bs → read_fragment bs ≡ Ok p → (sound p ≡ true) × (bs ≡ fragment_bytes p))

-- a datagram that an end may take: it comes the other way, its number has 63 bits, its fragment keeps the rules
pub record Takeable (sends : Direction) (g : Parcel) : Type 0 where
  pub other : same_direction g.direction sends ≡ false
  pub number : g.number < top_bit
  pub rules : sound g.piece ≡ true

-- the same of such a datagram, whatever the four unread bytes hold
abbrev pub DatagramStands : Type 0
DatagramStands =
    ((sends : Direction) (unread : List ℕ) (g : Parcel) → length unread ≡ 4 → Takeable sends g → read_datagram sends (datagram_around unread g) ≡ Ok g)
    × ((sends : Direction) (bs : List ℕ) (g : Parcel) → Bytes bs → read_datagram sends bs ≡ Ok g → Takeable sends g × (bs ≡ datagram_around (take 4 (drop 8 bs)) g))

-- the datagrams of a sending of at most 2,048 bytes, as an end at the other side reads them: as many as there are pieces, of 23 to 278 bytes, each read as its piece; and the pieces are the bytes, cut
abbrev pub SendingStands : Type 0
SendingStands =
    (d sends : Direction) (first s : ℕ) (bs : List ℕ) → same_direction d sends ≡ false → length bs ≤ 2048
    → (length (datagrams_of d first s bs) ≡ piece_count bs)
    × ((k : ℕ) → k < piece_count bs → (23 ≤ length (slice_index_or (datagrams_of d first s bs) k [])) × (length (slice_index_or (datagrams_of d first s bs) k []) ≤ 278))
    × ((k : ℕ) → k < piece_count bs → read_datagram sends (slice_index_or (datagrams_of d first s bs) k []) ≡ Ok (parcel d first s bs k))
    × (flat_map (λ k. (piece s bs k).contents) (range_with_len 0 (piece_count bs)) ≡ bs)
