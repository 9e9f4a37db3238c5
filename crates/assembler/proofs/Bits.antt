-- Bits of a number, one by one.
use Rattle.std.proofs.Common.{◌≡◌, ℕ, zero, suc, ◌+◌, ◌-◌, ◌/◌, ◌%◌, ◌^◌, ◌<◌, ◌≤◌, max, Bool, true, false, cond, ◌&&◌, ◌||◌, eqb, ltb, sym, refl, ap, ◌∙◌, ⊎_elim, arith, pow-add}
use lib.Bits.{bit_or}
use Rattle.std.proofs.lemmas.Nat.{pow_pos, div_below, le-div}
use Rattle.std.proofs.lemmas.Nat.Bits.{bit_at_or, bit_at_above, bit_at-pow_same, bit_at-pow_other}
use Rattle.std.proofs.lemmas.Bool.{cases_order, cases_eq, eq-eqb, ne_eqb, and_parts, lt-ltb}
use Rattle.std.proofs.lemmas.Bool.Decides.{nat_tests}
use Rattle.assembler.specs.Assembling.{every}
use Rattle.assembler.specs.Offers.{some, same_mark}
use Rattle.assembler.specs.Reading.{bit_at}

pow_bit : (j k : ℕ) → bit_at (2 ^ j) k ≡ eqb j k
pow_bit j k =
    ⊎_elim (λ e. rw e (ap (λ b. eqb b 1) (bit_at-pow_same k) ∙ sym (eq-eqb k k refl)))
    (λ ne. ap (λ b. eqb b 1) (bit_at-pow_other j k (λ e. ne (sym e))) ∙ sym (ne_eqb j k ne)) (cases_eq j k)

either : (a b : ℕ) → a < 2 → b < 2 → eqb (max a b) 1 ≡ (eqb a 1 || eqb b 1)
either a b ha hb = grind (arith, nat_tests)

-- a bit of a number with the bit j set
pub bit_or_at : (m j k : ℕ) → bit_at (bit_or m (2 ^ j)) k ≡ (bit_at m k || eqb j k)
bit_or_at m j k =
    ap (λ x. eqb x 1) (bit_at_or m (2 ^ j) k)
    ∙ either (m / 2 ^ k % 2) (2 ^ j / 2 ^ k % 2) (omega arith) (omega arith) ∙ ap (λ t. bit_at m k || t) (pow_bit j k)

-- the highest bit
pub top_bit : (h e : ℕ) → 2 ^ e ≤ h → h < 2 ^ (e + 1) → bit_at h e ≡ true
top_bit h e low high =
    let twice = pow-add 2 e 1 in
    let one : h / 2 ^ e ≡ 1 = omega (arith, div_below h (2 ^ e) 2 (pow_pos e) (omega arith), le-div 1 h (2 ^ e) (pow_pos e) (omega arith)) in
    eq-eqb (h / 2 ^ e % 2) 1 (omega (arith, one))

-- no bit stands above the highest
pub clear_above : (h e k : ℕ) → h < 2 ^ (e + 1) → e < k → bit_at h k ≡ false
clear_above h e k high up = ap (λ b. eqb b 1) (bit_at_above h (e + 1) k high (omega arith))

pub every_at : (n : ℕ) (f : ℕ → Bool) → every n f ≡ true → (k : ℕ) → k < n → f k ≡ true
every_at zero f h k lt = absurd (omega arith)
every_at (suc n) f h k lt =
    let both = and_parts (f n) (every n f) h in
    ⊎_elim (λ e. ap f e ∙ both.0) (⊎_elim (λ l. every_at n f both.1 k l) (λ g. absurd (omega arith))) (cases_order k n)

pub same_mark_is : (a b : Bool) → same_mark a b ≡ true → a ≡ b
same_mark_is true true h = refl
same_mark_is true false h = sym h
same_mark_is false true h = h
same_mark_is false false h = refl

-- whether the bits from k on to d after it are set
abbrev pub got : ℕ → ℕ → ℕ → Bool
got h zero k = bit_at h k
got h (suc d) k = bit_at h k && got h d (k + 1)

full_table : every 256 (λ h. every 8 (λ e. cond (ltb h (2 ^ (e + 1))) (same_mark (eqb h (255 / 2 ^ (7 - e))) (got h e 0)) true)) ≡ true
full_table = refl

above_table : every 256 (λ h. every 8 (λ n. same_mark (ltb 1 (h / 2 ^ n)) (some 8 (λ k. ltb n k && bit_at h k)))) ≡ true
above_table = refl

pub full_bits : (h e : ℕ) → h < 256 → e < 8 → h < 2 ^ (e + 1) → eqb h (255 / 2 ^ (7 - e)) ≡ got h e 0
full_bits h e hs es high =
    let row = every_at 8 (λ e. cond (ltb h (2 ^ (e + 1))) (same_mark (eqb h (255 / 2 ^ (7 - e))) (got h e 0)) true) (every_at 256 (λ h. every 8 (λ e. cond (ltb h (2 ^ (e + 1))) (same_mark (eqb h (255 / 2 ^ (7 - e))) (got h e 0)) true)) full_table h hs) e es in
    same_mark_is (eqb h (255 / 2 ^ (7 - e))) (got h e 0) (rw (lt-ltb h (2 ^ (e + 1)) high) at row)

pub above_bits : (h n : ℕ) → h < 256 → n < 8 → ltb 1 (h / 2 ^ n) ≡ some 8 (λ k. ltb n k && bit_at h k)
above_bits h n hs ns =
    same_mark_is (ltb 1 (h / 2 ^ n)) (some 8 (λ k. ltb n k && bit_at h k)) (every_at 8 (λ n. same_mark (ltb 1 (h / 2 ^ n)) (some 8 (λ k. ltb n k && bit_at h k))) (every_at 256 (λ h. every 8 (λ n. same_mark (ltb 1 (h / 2 ^ n)) (some 8 (λ k. ltb n k && bit_at h k)))) above_table h hs) n ns)
