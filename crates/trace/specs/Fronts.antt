-- What stands at the front of a text, with the text after it.
use Rattle.std.specs.Prelude.{ℕ, ◌+◌, ◌-◌, ◌*◌, Bool, cond, ◌&&◌, List, [], ◌∷◌, Some, None, Option, ◌==◌, nat_le}

-- an answer beside the text that is left
abbrev pub answered : {X : Type 0} → Option X → List ℕ → Option (X × List ℕ)
answered None rest = None
answered (Some x) rest = Some (x, rest)

-- a byte that is a decimal digit
abbrev pub is_digit : ℕ → Bool
is_digit b = nat_le 48 b && nat_le b 57

-- the digit at the front
abbrev pub digit_front : List ℕ → Option (ℕ × List ℕ)
digit_front [] = None
digit_front (b ∷ rest) = cond (is_digit b) (Some (b - 48, rest)) None

-- the digits at the front, read on after a number, as long as it fits 32 bits
abbrev pub digits_front : ℕ → List ℕ → Option (ℕ × List ℕ)
digits_front n [] = Some (n, [])
digits_front n (b ∷ rest) = cond (is_digit b) (cond (nat_le (n * 10 + (b - 48)) 4294967295) (digits_front (n * 10 + (b - 48)) rest) None) (Some (n, b ∷ rest))

-- the number at the front: a 0, or digits of which the first is not 0
abbrev pub number_front : List ℕ → Option (ℕ × List ℕ)
number_front [] = None
number_front (b ∷ rest) = cond (is_digit b) (cond (b == 48) (Some (0, rest)) (digits_front (b - 48) rest)) None

-- what is read on from there, if anything was read
abbrev pub and_then : {X Y : Type 0} → Option (X × List ℕ) → (X → List ℕ → Option Y) → Option Y
and_then None next = None
and_then (Some p) next = next p.0 p.1

-- the byte at the front
abbrev pub byte_front : List ℕ → Option (ℕ × List ℕ)
byte_front [] = None
byte_front (b ∷ rest) = Some (b, rest)

-- a space at the front
abbrev pub space_front : List ℕ → Option (Unit {0} × List ℕ)
space_front [] = None
space_front (b ∷ rest) = cond (b == 32) (Some (tt, rest)) None

-- the byte behind a space at the front
abbrev pub letter_front : List ℕ → Option (ℕ × List ℕ)
letter_front [] = None
letter_front (b ∷ rest) = cond (b == 32) (byte_front rest) None

-- the number behind a space at the front
abbrev pub value_front : List ℕ → Option (ℕ × List ℕ)
value_front [] = None
value_front (b ∷ rest) = cond (b == 32) (number_front rest) None
