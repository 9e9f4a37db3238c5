-- The sum byte by byte, and that it is the sum word by word.
use Rattle.std.proofs.Common.{◌≡◌, ℕ, suc, ◌+◌, ◌*◌, ◌%◌, ◌<◌, List, [], ◌∷◌, get_or, refl, ap, ◌∙◌, arith}
use Rattle.std.proofs.lemmas.Bool.Decides.{nat_tests}
use Rattle.state.specs.Checksum.{plus, half, words, summed}

abbrev pub bytesum : ℕ → ℕ → List ℕ → ℕ
bytesum s i [] = s
bytesum s i (b ∷ bs) = bytesum (plus s (half i b)) (i + 1) bs

-- the two bytes of a word
word : (s i a b : ℕ) → i % 2 ≡ 0 → s < 65536 → a < 256 → b < 256 → plus (plus s (half i a)) (half (i + 1) b) ≡ plus s (a * 256 + b)
word s i a b even hs ha hb = grind (arith, nat_tests)

below : (s a b : ℕ) → s < 65536 → a < 256 → b < 256 → plus s (a * 256 + b) < 65536
below s a b hs ha hb = grind (arith, nat_tests)

high : (i b : ℕ) → i % 2 ≡ 0 → half i b ≡ b * 256
high i b e = grind (arith, nat_tests)

pub pairs : (s i : ℕ) (bs : List ℕ) → i % 2 ≡ 0 → s < 65536 → ((k : ℕ) → get_or bs k 0 < 256) → bytesum s i bs ≡ summed s (words bs)
pairs s i [] even small fit = refl
pairs s i (a ∷ []) even small fit = ap (plus s) (high i a even)
pairs s i (a ∷ b ∷ rest) even small fit =
    ap (λ t. bytesum t (i + 1 + 1) rest) (word s i a b even small (fit 0) (fit 1))
    ∙ pairs (plus s (a * 256 + b)) (i + 1 + 1) rest (omega arith) (below s a b small (fit 0) (fit 1)) (λ k. fit (suc (suc k)))
