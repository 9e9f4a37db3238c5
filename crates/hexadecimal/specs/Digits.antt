-- Two digits of hexadecimal, and the byte that they write.
use Rattle.std.specs.Prelude.{ℕ, ◌+◌, ◌-◌, ◌*◌, cond, ◌&&◌, List, [], ◌∷◌, map, Some, None, Option, ◌==◌, nat_le}
use Rattle.std.specs.List.{slice_split}
use Rattle.std.specs.Option.{some_prefix}

-- the value of a character: 0 to 9, and A to F for 10 to 15
abbrev pub digit_of : ℕ → Option ℕ
digit_of b = cond (nat_le 48 b && nat_le b 57) (Some (b - 48)) (cond (nat_le 65 b && nat_le b 70) (Some (b - 65 + 10)) None)

-- the byte of two values
abbrev pub joined : Option ℕ → Option ℕ → Option ℕ
joined (Some h) (Some l) = Some (h * 16 + l)
joined (Some h) None = None
joined None l = None

-- the byte that a word of two digits writes; none for any other word
abbrev pub byte_of : List ℕ → Option ℕ
byte_of [] = None
byte_of (h ∷ []) = None
byte_of (h ∷ (l ∷ [])) = joined (digit_of h) (digit_of l)
byte_of (h ∷ (l ∷ (m ∷ bs))) = None

-- the bytes that the words of a text write, up to the first word that writes none; a space parts two words
abbrev pub bytes_of : List ℕ → List ℕ
bytes_of text = some_prefix (map byte_of (slice_split (λ b. b == 32) text))
