-- What the marks and the buffer of an assembler hold.
use Rattle.std.specs.Prelude.{ℕ, ◌+◌, ◌*◌, ◌/◌, ◌%◌, ◌^◌, Bool, false, cond, ◌&&◌, List, take, drop, Some, None, Option, ◌==◌, nat_le, nat_lt}
use Rattle.assembler.specs.declared.half.Last.{Last}
use Rattle.assembler.specs.Contents.{Held}

-- whether a number's bit is set
abbrev pub bit_at : ℕ → ℕ → Bool
bit_at m k = m / 2 ^ k % 2 == 1

-- whether k is the number of the last piece
abbrev pub is_last : Option Last → ℕ → Bool
is_last None k = false
is_last (Some e) k = e.number == k

-- how many bytes the piece k has
abbrev pub size_of : Option Last → ℕ → ℕ
size_of None k = 256
size_of (Some e) k = cond (e.number == k) e.length 256

-- what the buffer holds of the piece k
abbrev pub in_buffer : Option Last → List ℕ → ℕ → Held
in_buffer last buf k = record { bytes = take (size_of last k) (drop (256 * k) buf); last = is_last last k }

-- the marks and the buffer, as pieces by their numbers
abbrev pub marked : ℕ → Option Last → List ℕ → ℕ → Option Held
marked held last buf k = cond (bit_at held k) (Some (in_buffer last buf k)) None

-- a last piece is the highest held, and has 1 to 256 bytes; number 7 is held only as the last
abbrev pub ended : ℕ → Option Last → Bool
ended held None = nat_lt held 128
ended held (Some e) =
    nat_lt e.number 8 && (nat_le 1 e.length && (nat_le e.length 256 && (nat_le (2 ^ e.number) held && nat_lt held (2 ^ (e.number + 1)))))
