-- The checksum of RFC 1071: 16-bit words added in ones' complement, and the sum inverted.
use Rattle.std.specs.Prelude.{ℕ, ◌+◌, ◌-◌, ◌*◌, ◌%◌, cond, List, [], ◌∷◌, ◌==◌, nat_le}

-- the ones' complement sum of two words: a carry is added back
abbrev pub plus : ℕ → ℕ → ℕ
plus s w = cond (nat_le 65536 (s + w)) (s + w - 65535) (s + w)

-- a byte's part of its word, by its place: the high half or the low
abbrev pub half : ℕ → ℕ → ℕ
half i b = cond (i % 2 == 0) (b * 256) b

-- the 16-bit words of bytes, an odd byte padded with zero
abbrev pub words : List ℕ → List ℕ
words [] = []
words (a ∷ []) = a * 256 ∷ []
words (a ∷ b ∷ rest) = (a * 256 + b) ∷ words rest

-- words added to a sum
abbrev pub summed : ℕ → List ℕ → ℕ
summed s [] = s
summed s (w ∷ ws) = summed (plus s w) ws

unfoldable pub checksum : List ℕ → ℕ
checksum bytes = 65535 - summed 0 (words bytes)
