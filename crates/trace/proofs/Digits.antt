-- Lemmas on the digits at the front of a text.
use Rattle.std.proofs.Common.{◌≡◌, ℕ, ◌+◌, ◌*◌, ◌<◌, List, [], ◌∷◌, Some, None, refl, arith}
use Rattle.std.proofs.lemmas.Bool.Decides.{nat_tests}
use Rattle.trace.specs.Fronts.{digit_front, digits_front, number_front}

-- a number whose first digit isn't 0 goes on with its digits
pub number_none : (xs : List ℕ) → digit_front xs ≡ None → number_front xs ≡ None
number_none [] e = refl
number_none (b ∷ xs) e = grind (arith, nat_tests)

pub number_first : (xs rest : List ℕ) (d : ℕ) → digit_front xs ≡ Some (d, rest) → 0 < d → number_front xs ≡ digits_front d rest
number_first [] rest d e some = absurd (grind arith)
number_first (b ∷ xs) rest d e some = grind (arith, nat_tests)

-- digits read on after a number: no digit, one more, and one that makes the number too large
pub digits_end : (n : ℕ) (xs : List ℕ) → digit_front xs ≡ None → digits_front n xs ≡ Some (n, xs)
digits_end n [] e = refl
digits_end n (b ∷ xs) e = grind (arith, nat_tests)

pub digits_more : (n d : ℕ) (xs rest : List ℕ) → digit_front xs ≡ Some (d, rest) → n * 10 + d < 4294967296 → digits_front n xs ≡ digits_front (n * 10 + d) rest
digits_more n d [] rest e fits = absurd (grind arith)
digits_more n d (b ∷ xs) rest e fits = grind (arith, nat_tests)

pub digits_over : (n d : ℕ) (xs rest : List ℕ) → digit_front xs ≡ Some (d, rest) → 4294967295 < n * 10 + d → digits_front n xs ≡ None
digits_over n d [] rest e over = absurd (grind arith)
digits_over n d (b ∷ xs) rest e over = grind (arith, nat_tests)
