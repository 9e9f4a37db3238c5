-- Numbers as bytes: read back, and written again.
use Rattle.std.proofs.Common.{◌≡◌, ℕ, ◌+◌, ◌*◌, ◌/◌, ◌%◌, ◌<◌, ◌≤◌, List, [], ◌∷◌, ◌++◌, length, get_or, take, drop, sym, refl, ap, ◌∙◌, arith}
use Rattle.std.proofs.lemmas.List.{drop_more, get_or-take, get_or-drop}
use Rattle.std.specs.Int.{w16, w32, w64, from_be_bytes, to_be_bytes}
use Rattle.state.specs.BigEndian.{two, four, of_two, of_four}
use Rattle.packet.specs.Eight.{eight, of_eight}
use Rattle.packet.specs.Layouts.{Bytes}

pub two_back : (n : ℕ) → n / 256 * 256 + n % 256 ≡ n
two_back n = omega arith

pub four_back : (n : ℕ) → n / 16777216 * 16777216 + n / 65536 % 256 * 65536 + n / 256 % 256 * 256 + n % 256 ≡ n
four_back n = omega arith

pub eight_back : (n : ℕ) (rest : List ℕ) → of_eight (eight n ++ rest) 0 ≡ n
eight_back n rest = ap (λ m. m * 4294967296 + of_four (four (n % 4294967296)) 0) (four_back (n / 4294967296)) ∙ ap (λ m. n / 4294967296 * 4294967296 + m) (four_back (n % 4294967296)) ∙ omega arith

-- the numbers that a program reads from the first bytes of r, which lies from place i on
byte_read : (bs r ys : List ℕ) (n i : ℕ) → r ≡ drop i bs → ys ≡ take n r → (k j : ℕ) → k < n → j ≡ i + k → get_or ys k 0 ≡ get_or bs j 0
byte_read bs r ys n i from e k j h at = ap (λ z. get_or z k 0) (e ∙ ap (take n) from) ∙ get_or-take n (drop i bs) k 0 h ∙ get_or-drop i bs k 0 ∙ ap (λ m. get_or bs m 0) (sym at)

pub two_read : (bs r ys : List ℕ) (i : ℕ) → r ≡ drop i bs → ys ≡ take 2 r → from_be_bytes w16 ys ≡ of_two bs i
two_read bs r ys i from e =
    let at = byte_read bs r ys 2 i from e in
    omega (arith, at 0 i (omega arith) (omega arith), at 1 (i + 1) (omega arith) refl)

pub four_read : (bs r ys : List ℕ) (i : ℕ) → r ≡ drop i bs → ys ≡ take 4 r → from_be_bytes w32 ys ≡ of_four bs i
four_read bs r ys i from e =
    let at = byte_read bs r ys 4 i from e in
    omega (arith, at 0 i (omega arith) (omega arith), at 1 (i + 1) (omega arith) refl, at 2 (i + 2) (omega arith) refl, at 3 (i + 3) (omega arith) refl)

pub eight_read : (bs ys : List ℕ) → ys ≡ take 8 bs → from_be_bytes w64 ys ≡ of_eight bs 0
eight_read bs ys e =
    let at = byte_read bs bs ys 8 0 refl e in
    omega (arith, at 0 0 (omega arith) refl, at 1 1 (omega arith) refl, at 2 2 (omega arith) refl, at 3 3 (omega arith) refl, at 4 4 (omega arith) refl, at 5 5 (omega arith) refl, at 6 6 (omega arith) refl, at 7 7 (omega arith) refl)

-- the bytes that a program makes of a number
pub two_is : (n : ℕ) → n < 65536 → to_be_bytes w16 n ≡ two n
two_is n h = let a : n / 256 % 256 ≡ n / 256 = omega arith in λ i. a i ∷ n % 256 ∷ []

pub four_is : (n : ℕ) → n < 4294967296 → to_be_bytes w32 n ≡ four n
four_is n h = let a : n / 16777216 % 256 ≡ n / 16777216 = omega arith in λ i. a i ∷ n / 65536 % 256 ∷ n / 256 % 256 ∷ n % 256 ∷ []

pub eight_is : (n : ℕ) → n < 18446744073709551616 → to_be_bytes w64 n ≡ eight n
eight_is n h =
    let a : n / 72057594037927936 % 256 ≡ n / 4294967296 / 16777216 = omega arith in
    let b : n / 281474976710656 % 256 ≡ n / 4294967296 / 65536 % 256 = omega arith in
    let c : n / 1099511627776 % 256 ≡ n / 4294967296 / 256 % 256 = omega arith in
    let e : n / 16777216 % 256 ≡ n % 4294967296 / 16777216 = omega arith in
    let f : n / 65536 % 256 ≡ n % 4294967296 / 65536 % 256 = omega arith in
    let g : n / 256 % 256 ≡ n % 4294967296 / 256 % 256 = omega arith in
    let j : n % 256 ≡ n % 4294967296 % 256 = omega arith in
    λ i. a i ∷ b i ∷ c i ∷ n / 4294967296 % 256 ∷ e i ∷ f i ∷ g i ∷ j i ∷ []

two_of : (a b : ℕ) → b < 256 → two (a * 256 + b) ≡ a ∷ b ∷ []
two_of a b hb =
    let x : (a * 256 + b) / 256 ≡ a = omega arith in
    let y : (a * 256 + b) % 256 ≡ b = omega arith in
    λ i. x i ∷ y i ∷ []

four_of : (a b c d : ℕ) → b < 256 → c < 256 → d < 256 → four (a * 16777216 + b * 65536 + c * 256 + d) ≡ a ∷ b ∷ c ∷ d ∷ []
four_of a b c d hb hc hd =
    let w : (a * 16777216 + b * 65536 + c * 256 + d) / 16777216 ≡ a = omega arith in
    let x : (a * 16777216 + b * 65536 + c * 256 + d) / 65536 % 256 ≡ b = omega arith in
    let y : (a * 16777216 + b * 65536 + c * 256 + d) / 256 % 256 ≡ c = omega arith in
    let z : (a * 16777216 + b * 65536 + c * 256 + d) % 256 ≡ d = omega arith in
    λ i. w i ∷ x i ∷ y i ∷ z i ∷ []

module _ (bs : List ℕ) (fit : Bytes bs) where
  pub two_below : (i : ℕ) → of_two bs i < 65536
  two_below i = omega (arith, fit i, fit (i + 1))

  pub four_below : (i : ℕ) → of_four bs i < 4294967296
  four_below i = omega (arith, fit i, fit (i + 1), fit (i + 2), fit (i + 3))

  pub eight_below : (i : ℕ) → of_eight bs i < 18446744073709551616
  eight_below i = omega (arith, four_below i, four_below (i + 4))

  -- what lies from i on begins with the bytes of the number read there
  pub from_two : (i : ℕ) → i + 2 ≤ length bs → drop i bs ≡ two (of_two bs i) ++ drop (i + 2) bs
  from_two i h =
      drop_more bs i 0 (omega arith)
      ∙ ap (λ z. get_or bs i 0 ∷ z) (drop_more bs (i + 1) 0 (omega arith) ∙ ap (λ n. get_or bs (i + 1) 0 ∷ drop n bs) (omega arith))
      ∙ ap (λ z. z ++ drop (i + 2) bs) (sym (two_of (get_or bs i 0) (get_or bs (i + 1) 0) (fit (i + 1))))

  pub from_four : (i : ℕ) → i + 4 ≤ length bs → drop i bs ≡ four (of_four bs i) ++ drop (i + 4) bs
  from_four i h =
      let at : (k : ℕ) → i + k < length bs → drop (i + k) bs ≡ get_or bs (i + k) 0 ∷ drop (i + (k + 1)) bs = λ k l. drop_more bs (i + k) 0 l ∙ ap (λ n. get_or bs (i + k) 0 ∷ drop n bs) (omega arith) in
      drop_more bs i 0 (omega arith)
      ∙ ap (λ z. get_or bs i 0 ∷ z) (at 1 (omega arith) ∙ ap (λ z. get_or bs (i + 1) 0 ∷ z) (at 2 (omega arith) ∙ ap (λ z. get_or bs (i + 2) 0 ∷ z) (at 3 (omega arith))))
      ∙ ap (λ z. z ++ drop (i + 4) bs) (sym (four_of (get_or bs i 0) (get_or bs (i + 1) 0) (get_or bs (i + 2) 0) (get_or bs (i + 3) 0) (fit (i + 1)) (fit (i + 2)) (fit (i + 3))))

  pub eight_of : (i : ℕ) → eight (of_eight bs i) ≡ four (of_four bs i) ++ four (of_four bs (i + 4))
  eight_of i =
      let high : of_eight bs i / 4294967296 ≡ of_four bs i = omega (arith, four_below (i + 4)) in
      let low : of_eight bs i % 4294967296 ≡ of_four bs (i + 4) = omega (arith, four_below (i + 4)) in
      ap (λ n. four n ++ four (of_eight bs i % 4294967296)) high ∙ ap (λ n. four (of_four bs i) ++ four n) low

  pub from_eight : (i : ℕ) → i + 8 ≤ length bs → drop i bs ≡ eight (of_eight bs i) ++ drop (i + 8) bs
  from_eight i h =
      from_four i (omega arith)
      ∙ ap (λ z. four (of_four bs i) ++ z) (from_four (i + 4) (omega arith) ∙ ap (λ n. four (of_four bs (i + 4)) ++ drop n bs) (omega arith))
      ∙ ap (λ z. z ++ drop (i + 8) bs) (sym (eight_of i))
