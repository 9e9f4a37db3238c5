-- A sending: an instruction cut into pieces, each in a datagram, all back to back.
use Rattle.std.specs.Prelude.{ℕ, ◌+◌, ◌%◌, cond, List, ◌++◌, map, length, drop, Ok, Err, Result, nat_le}
use Rattle.std.specs.List.{range_with_len, flat_map}
use Rattle.packet.specs.declared.datagram.Direction.{Direction}
use Rattle.packet.specs.declared.refusal.SendRefusal.{SendRefusal}
use Rattle.packet.specs.declared.refusal.SendRefusal.TheVariants.{ShortBuffer, LongDiff}
use Rattle.packet.specs.declared.sending.Sent.{Sent}
use Rattle.packet.specs.Pieces.{piece_count, piece}
use Rattle.packet.specs.Instructions.{Update, instruction_bytes}
use Rattle.packet.specs.Datagrams.{Parcel, top_bit, datagram_bytes}

-- what the datagram k of a sending says; datagram numbers count on from the first, modulo 2^63
abbrev pub parcel : Direction → ℕ → ℕ → List ℕ → ℕ → Parcel
parcel d first s bs k = record { direction = d; number = (first + k) % top_bit; piece = piece s bs k }

-- the datagrams of the sending s of the bytes bs, in order
unfoldable pub datagrams_of : Direction → ℕ → ℕ → List ℕ → List (List ℕ)
datagrams_of d first s bs = map (λ k. datagram_bytes (parcel d first s bs k)) (range_with_len 0 (piece_count bs))

-- the same, back to back
abbrev pub sending_bytes : Direction → ℕ → ℕ → List ℕ → List ℕ
sending_bytes d first s bs = flat_map (λ x. x) (datagrams_of d first s bs)

-- the answer of sending an instruction into the buffer `out`: the count of datagrams and their length, if the buffer has 2,224 bytes and the diff at most 2,031
abbrev pub send_answer : Direction → ℕ → ℕ → Update → List ℕ → Result Sent SendRefusal
send_answer d first s u out =
    cond (nat_le 2224 (length out))
    (cond (nat_le (length u.diff) 2031)
    (Ok (record { count = piece_count (instruction_bytes u); length = length (sending_bytes d first s (instruction_bytes u)) }))
    (Err LongDiff))
    (Err ShortBuffer)

-- what sending leaves in the buffer: the datagrams at the front and the rest as it was, or all as it was
abbrev pub sent_into : Direction → ℕ → ℕ → Update → List ℕ → List ℕ
sent_into d first s u out =
    cond (nat_le 2224 (length out))
    (cond (nat_le (length u.diff) 2031)
    (sending_bytes d first s (instruction_bytes u) ++ drop (length (sending_bytes d first s (instruction_bytes u))) out)
    out)
    out
