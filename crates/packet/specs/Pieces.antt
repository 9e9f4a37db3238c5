-- An instruction's bytes, cut into pieces of 256.
use Rattle.std.specs.Prelude.{ℕ, ◌+◌, ◌*◌, ◌/◌, Bool, List, length, take, drop, ◌==◌}
use Rattle.packet.specs.declared.fragment.Fragment.{Fragment}

-- a fragment by what it says: its sending, its number from 0, whether it is the last, its bytes
pub record Piece : Type 0 where
  pub sending : ℕ
  pub number : ℕ
  pub last : Bool
  pub contents : List ℕ

-- how many pieces bytes are cut into
abbrev pub piece_count : List ℕ → ℕ
piece_count bs = (length bs + 255) / 256

-- the piece k of the bytes bs of the sending s
abbrev pub piece : ℕ → List ℕ → ℕ → Piece
piece s bs k = record { sending = s; number = k; last = (k + 1 == piece_count bs); contents = take 256 (drop (256 * k) bs) }

-- what a fragment says
abbrev pub piece_of : Fragment → Piece
piece_of f = record { sending = f.sending; number = f.number; last = f.last; contents = f.contents.now }
