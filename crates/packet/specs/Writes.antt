-- What a writer has written, and what a part more adds.
use Rattle.std.specs.Prelude.{◌≡◌, ℕ, ◌+◌, List, ◌++◌, length, take, drop}
use Rattle.packet.specs.declared.bytes.Writer.{Writer}

-- the bytes that are written
abbrev pub written : Writer → List ℕ
written w = take w.at w.out.now

-- the bytes of the buffer behind those
abbrev pub rest : Writer → List ℕ
rest w = drop w.at w.out.now

-- the writer v is u, on the same buffer, once it has written the part behind what it had; so much less of the buffer is left
pub record Adds (u : Writer) (part : List ℕ) (v : Writer) : Type 0 where
  pub buffer : v.out.ghost_name ≡ u.out.ghost_name
  pub behind : written v ≡ written u ++ part
  pub left : rest v ≡ drop (length part) (rest u)
  pub room : length (rest u) ≡ length part + length (rest v)
