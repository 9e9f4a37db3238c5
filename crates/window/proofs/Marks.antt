-- The marks bit by bit: what a shift and one more bit make of them.
use Rattle.std.proofs.Common.{◌≡◌, ℕ, ◌+◌, ◌-◌, ◌*◌, ◌/◌, ◌%◌, ◌^◌, ◌<◌, ◌≤◌, Bool, false, ◌&&◌, ◌||◌, eqb, leb, sym, ap, ◌∙◌, ⊎_elim, w64, arith, pow_mono}
use native.Mathlib.Nat.{div-eq_of_lt}
use lib.Bits.{bit_or}
use Rattle.std.proofs.Math.Bool.{or-false}
use Rattle.std.proofs.lemmas.Nat.{shr-shr}
use Rattle.std.proofs.lemmas.Nat.Bits.{bit_at_set_same, bit_at_set_other}
use Rattle.std.proofs.lemmas.Bool.{cases_eq, cases_lt, or_right, eq-eqb, ne_eqb, le-leb, lt-leb}
use Rattle.std.proofs.lemmas.Bool.Decides.{nat_tests}
use Rattle.window.specs.Numbers.{Numbers, marked}

-- nothing is left of marks that are shifted by their width or more
pub shifted_out : (m w k : ℕ) → m < 2 ^ w → w ≤ k → m / 2 ^ k ≡ 0
shifted_out m w k small far = div-eq_of_lt (omega (arith, pow_mono {i = w} {j = k} far))

pub beyond : (m w k : ℕ) → m < 2 ^ w → w ≤ k → marked m k ≡ false
beyond m w k small far = ap (λ q. eqb (q % 2) 1) (shifted_out m w k small far)

-- one more bit
or_bit : (m j k : ℕ) → j < 64 → marked (bit_or m (1 * 2 ^ j % 2 ^ 64)) k ≡ (marked m k || eqb j k)
or_bit m j k within =
    ⊎_elim
    (λ same. ap (λ i. marked (bit_or m (1 * 2 ^ j % 2 ^ 64)) i) (sym same) ∙ ap (λ b. eqb b 1) (bit_at_set_same w64 m j within) ∙ sym (or_right (marked m k) (eqb j k) (eq-eqb j k same)))
    (λ other. ap (λ b. eqb b 1) (bit_at_set_other w64 m j within k (λ e. other (sym e))) ∙ sym (ap (λ b. marked m k || b) (ne_eqb j k other) ∙ or-false (marked m k)))
    (cases_eq j k)

-- whether the number n is held under an anchor and marks
abbrev pub holding : ℕ → ℕ → ℕ → Bool
holding a m n = leb a n && marked m (n - a)

-- one more bit holds one more number
pub held_more : (a m n k : ℕ) → a ≤ n → n - a < 64 → holding a (bit_or m (1 * 2 ^ (n - a) % 2 ^ 64)) k ≡ (holding a m k || eqb k n)
held_more a m n k le within = ⊎_elim low high (cases_lt k a)
  where
    low : k < a → holding a (bit_or m (1 * 2 ^ (n - a) % 2 ^ 64)) k ≡ (holding a m k || eqb k n)
    low h = rw (lt-leb a k h, ne_eqb k n (λ e. omega arith))

    high : a ≤ k → holding a (bit_or m (1 * 2 ^ (n - a) % 2 ^ 64)) k ≡ (holding a m k || eqb k n)
    high h =
        let same : eqb (n - a) (k - a) ≡ eqb k n = grind (arith, nat_tests) in
        rw (le-leb a k h) (or_bit m (n - a) (k - a) within ∙ ap (λ b. marked m (k - a) || b) same)

-- a shift drops what is below the new anchor
pub held_raised : (a m to n : ℕ) → a ≤ to → holding to (m / 2 ^ (to - a)) n ≡ (leb to n && holding a m n)
held_raised a m to n le = ⊎_elim low high (cases_lt n to)
  where
    low : n < to → holding to (m / 2 ^ (to - a)) n ≡ (leb to n && holding a m n)
    low h = rw (lt-leb to n h)

    high : to ≤ n → holding to (m / 2 ^ (to - a)) n ≡ (leb to n && holding a m n)
    high h =
        let d : to - a + (n - to) ≡ n - a = omega arith in
        rw (le-leb to n h, le-leb a n (omega arith)) (ap (λ q. eqb (q % 2) 1) (shr-shr m (to - a) (n - to)) ∙ ap (marked m) d)

-- two windows' numbers are the same if their parts are
pub same_numbers : (v w : Numbers) → v.anchor ≡ w.anchor → v.width ≡ w.width → ((n : ℕ) → v.held n ≡ w.held n) → v ≡ w
same_numbers v w a b h = λ i. record { anchor = a i; width = b i; held = λ n. h n i }
