-- What the tests of a piece and of the marks tell.
use Rattle.std.proofs.Common.{◌≡◌, ℕ, zero, suc, ◌+◌, ◌^◌, ◌<◌, ◌≤◌, Bool, true, false, cond, ◌&&◌, eqb, ltb, leb, length, Some, None, Option, sym, refl, ap, ◌∙◌, ⊎_elim, arith}
use Rattle.std.proofs.lemmas.Bool.{or_parts, or_from, or_cases, or_left, or_right, cases_order, cases_Bool, ltb-true, eqb-true, true≢false}
use Rattle.std.proofs.Math.Pow.{pow_mono}
use Rattle.std.proofs.lemmas.Bool.Decides.{nat_tests}
use Rattle.packet.specs.Pieces.{Piece}
use Rattle.assembler.specs.declared.half.Last.{Last}
use Rattle.assembler.specs.Offers.{some}
use Rattle.packet.specs.Fragments.{sound}
use Rattle.assembler.specs.Reading.{bit_at, is_last, size_of, ended}
use Rattle.assembler.proofs.Bits.{top_bit}

pub some_none : (n : ℕ) (f : ℕ → Bool) → some n f ≡ false → (k : ℕ) → k < n → f k ≡ false
some_none zero f h k lt = absurd (omega arith)
some_none (suc n) f h k lt =
    let both = or_parts (f n) (some n f) h in
    ⊎_elim (λ e. ap f e ∙ both.0) (⊎_elim (λ l. some_none n f both.1 k l) (λ g. absurd (omega arith))) (cases_order k n)

pub none_some : (n : ℕ) (f : ℕ → Bool) → ((k : ℕ) → k < n → f k ≡ false) → some n f ≡ false
none_some zero f h = refl
none_some (suc n) f h = or_from (f n) (some n f) (h n (omega arith)) (none_some n f (λ k lt. h k (omega arith)))

pub some_at : (n : ℕ) (f : ℕ → Bool) (k : ℕ) → k < n → f k ≡ true → some n f ≡ true
some_at zero f k lt h = absurd (omega arith)
some_at (suc n) f k lt h =
    ⊎_elim (λ e. or_left (f n) (some n f) (ap f (sym e) ∙ h)) (⊎_elim (λ l. or_right (f n) (some n f) (some_at n f k l h)) (λ g. absurd (omega arith))) (cases_order k n)

pub some_finds : (n : ℕ) (f : ℕ → Bool) → some n f ≡ true → (k : ℕ) × (k < n) × (f k ≡ true)
some_finds zero f h = absurd (true≢false (sym h))
some_finds (suc n) f h =
    ⊎_elim (λ e. (n, omega arith, e)) (λ e. let r = some_finds n f e in (r.0, omega (arith, r.1), r.2)) (or_cases (f n) (some n f) h)

-- a piece that keeps to the layout
pub record Formed (p : Piece) : Type 0 where
  pub number : p.number < 8
  pub least : 1 ≤ length p.contents
  pub most : length p.contents ≤ 256
  pub middle : p.last ≡ false → length p.contents ≡ 256
  pub below : p.last ≡ false → p.number < 7

tests : (last : Bool) (n m : ℕ) → cond last (leb n 7 && (leb 1 m && leb m 256)) (ltb n 7 && eqb m 256) ≡ true → (n < 8) × (1 ≤ m) × (m ≤ 256) × (last ≡ false → (m ≡ 256) × (n < 7))
tests true n m h = (grind (arith, nat_tests), grind (arith, nat_tests), grind (arith, nat_tests), λ f. absurd (true≢false f))
tests false n m h = (grind (arith, nat_tests), grind (arith, nat_tests), grind (arith, nat_tests), λ _. (grind (arith, nat_tests), grind (arith, nat_tests)))

pub formed : (p : Piece) → sound p ≡ true → Formed p
formed p h =
    let t = tests p.last p.number (length p.contents) h in
    record { number = t.0; least = t.1; most = t.2; middle = λ l. (t.3 l).0; below = λ l. (t.3 l).1 }

-- the last piece's facts
pub record End (held : ℕ) (e : Last) : Type 0 where
  pub number : e.number < 8
  pub least : 1 ≤ e.length
  pub most : e.length ≤ 256
  pub low : 2 ^ e.number ≤ held
  pub high : held < 2 ^ (e.number + 1)

pub end : (held : ℕ) (e : Last) → ended held (Some e) ≡ true → End held e
end held e h = record { number = grind (arith, nat_tests); least = grind (arith, nat_tests); most = grind (arith, nat_tests); low = grind (arith, nat_tests); high = grind (arith, nat_tests) }

pub end_is : (held : ℕ) (e : Last) → End held e → ended held (Some e) ≡ true
end_is held e h = grind (arith, nat_tests, h.number, h.least, h.most, h.low, h.high)

pub held_small : (held : ℕ) (last : Option Last) → ended held last ≡ true → held < 256
held_small held None h = omega (arith, ltb-true held 128 h)
held_small held (Some e) h =
    let f = end held e h in
    omega (arith, f.high, pow_mono {i = e.number + 1} {j = 8} (omega (arith, f.number)))

pub size_most : (held : ℕ) (last : Option Last) (k : ℕ) → ended held last ≡ true → size_of last k ≤ 256
size_most held None k h = omega arith
size_most held (Some e) k h =
    let f = end held e h in
    ⊎_elim (λ t. rw t f.most) (λ t. rw t (omega arith)) (cases_Bool (eqb e.number k))

pub size_middle : (last : Option Last) (k : ℕ) → is_last last k ≡ false → size_of last k ≡ 256
size_middle None k h = refl
size_middle (Some e) k h = rw h

-- the last piece is held
pub last_held : (held : ℕ) (last : Option Last) (k : ℕ) → ended held last ≡ true → is_last last k ≡ true → bit_at held k ≡ true
last_held held None k h t = absurd (true≢false (sym t))
last_held held (Some e) k h t =
    let f = end held e h in
    ap (bit_at held) (sym (eqb-true e.number k t)) ∙ top_bit held e.number f.low f.high

-- nothing is held above the last
pub last_high : (held : ℕ) (last : Option Last) (k : ℕ) → ended held last ≡ true → is_last last k ≡ true → held < 2 ^ (k + 1)
last_high held None k h t = absurd (true≢false (sym t))
last_high held (Some e) k h t =
    let f = end held e h in
    let same : e.number ≡ k = eqb-true e.number k t in
    rw (← same) f.high

-- there is one last piece
pub last_one : (last : Option Last) (j k : ℕ) → is_last last j ≡ true → is_last last k ≡ true → j ≡ k
last_one None j k s t = absurd (true≢false (sym s))
last_one (Some e) j k s t = sym (eqb-true e.number j s) ∙ eqb-true e.number k t

pub last_small : (held : ℕ) (last : Option Last) (k : ℕ) → ended held last ≡ true → is_last last k ≡ true → k < 8
last_small held None k h t = absurd (true≢false (sym t))
last_small held (Some e) k h t = omega (arith, (end held e h).number, eqb-true e.number k t)

rules_from : (last : Bool) (n m : ℕ) → n < 8 → 1 ≤ m → m ≤ 256 → (last ≡ false → (m ≡ 256) × (n < 7)) → cond last (leb n 7 && (leb 1 m && leb m 256)) (ltb n 7 && eqb m 256) ≡ true
rules_from true n m a b d f = grind (arith, nat_tests)
rules_from false n m a b d f = grind (arith, nat_tests, (f refl).0, (f refl).1)

pub formed_is : (p : Piece) → Formed p → sound p ≡ true
formed_is p f = rules_from p.last p.number (length p.contents) f.number f.least f.most (λ l. (f.middle l, f.below l))
