-- What the layer Check adds to a diff, and that it takes back what it adds.
use Rattle.std.specs.Prelude.{◌≡◌, ℕ, ◌+◌, ◌-◌, ◌/◌, ◌%◌, ◌<◌, ◌≤◌, min, true, ◌&&◌, ◌⊎◌, List, [], ◌∷◌, ◌++◌, length, take, drop, Ok, Result, ◌==◌, nat_lt, slice_index}
use Rattle.std.proofs.Common.{sym, ap, ◌∙◌, arith}
use borrow.Rule.Slice.PartMut.{put_mid}
use Rattle.std.proofs.lemmas.Slice.Eq.{bytes_eq-Decides}
use Rattle.std.proofs.lemmas.List.{append_assoc, drop_all, drop-drop, drop_more, get_or-append_right, get_or_at, length-append, length-take-le, take-append-drop, take_at}
use Rattle.std.proofs.lemmas.Bool.Decides.{Decides-and, Decides-eqb, Decides-like, same_from_decides}
use Rattle.std.proofs.lemmas.Slice.{drop-append-drop}
use Rattle.std.proofs.lemmas.Bool.{cond-true, cond-false, le-ltb}
use Rattle.std.specs.Str.{bytes_eq}
use Rattle.state.specs.Check.{check_kind, checked, sealed, sum_bytes, body}
use Rattle.state.specs.Checksum.{checksum}
use Rattle.state.specs.declared.fault.DiffRefusal.{DiffRefusal}
use Rattle.state.specs.Kind.{Kind, sized, diffed, written, Reaches}
use Rattle.state.specs.Calls.{sized_yes, diffed_ok, written_ok}

pub length_sealed : (xs : List ℕ) → length (sealed xs) ≡ length xs + 2
length_sealed xs = length-append xs (sum_bytes xs)

body_sealed : (xs : List ℕ) → body (sealed xs) ≡ xs
body_sealed xs = take_at xs (sum_bytes xs) (length (sealed xs) - 2) (omega (arith, length_sealed xs))

module _ (K : Kind) where
  checked_sealed : (c : K.Contents) (xs : List ℕ) → checked K c (sealed xs) ≡ K.apply c xs
  checked_sealed c xs =
      let same = (bytes_eq-Decides (sealed xs) (sealed (body (sealed xs)))).1 (ap sealed (sym (body_sealed xs))) in
      cond-false (nat_lt (length (sealed xs)) 2) _ _ (le-ltb _ 2 (omega (arith, length_sealed xs)))
      ∙ cond-true (bytes_eq (sealed xs) (sealed (body (sealed xs)))) _ _ same
      ∙ ap (K.apply c) (body_sealed xs)

  pub check_reaches : Reaches K → Reaches (check_kind K)
  check_reaches inner b t f h =
      checked_sealed b (K.diff b t) ∙ inner b t f (omega (arith, length_sealed (K.diff b t)))

-- the two bytes of a checksum, as the code makes them
pub sum_made : (sum : ℕ) (bytes : List ℕ) (n : ℕ) (xs : List ℕ) → sum < 65536 → sum ≡ checksum (take (n - 0) xs) → bytes ≡ sum / 256 % 256 ∷ sum % 256 ∷ [] → bytes ≡ sum_bytes (take n xs)
sum_made sum bytes n xs small is made =
    let e : sum ≡ checksum (take n xs) = is ∙ ap (λ k. checksum (take k xs)) (omega arith) in
    made ∙ ap (λ h. h ∷ sum % 256 ∷ []) (omega arith) ∙ ap (λ s. s / 256 ∷ s % 256 ∷ []) e

-- written behind the first n bytes
pub sum_put : (n m : ℕ) (out sum : List ℕ) → m ≡ 2 → sum ≡ sum_bytes (take n out) → put_mid n m out sum ≡ sealed (take n out) ++ drop (n + 2) out
sum_put n m out sum two-long is =
    ap (λ k. put_mid n k out sum) two-long
    ∙ ap (λ z. take n out ++ (sum ++ z)) (drop-drop 2 n out)
    ∙ ap (λ z. take n out ++ (z ++ drop (n + 2) out)) is
    ∙ sym (append_assoc (take n out) (sum_bytes (take n out)) (drop (n + 2) out))

-- two bytes at the end, compared one by one
ends_two : (n : ℕ) (d : List ℕ) (a b : ℕ) → n + 2 ≡ length d → bytes_eq d (take n d ++ (a ∷ b ∷ [])) ≡ (slice_index d n == a) && slice_index d (n + 1) == b
ends_two n d a b long =
    let split : d ≡ take n d ++ (slice_index d n ∷ slice_index d (n + 1) ∷ []) =
    sym (take-append-drop n d)
    ∙ ap (λ z. take n d ++ z) (drop_more d n 0 (omega arith) ∙ ap (λ z. slice_index d n ∷ z) (drop_more d (n + 1) 0 (omega arith) ∙ ap (λ z. slice_index d (n + 1) ∷ z) (drop_all (n + 1 + 1) d (omega arith)))) in
    let front = length-take-le n d (omega arith) in
    let second : n + 1 - n ≡ 1 = omega arith in
    let there : (slice_index d n ≡ a) × (slice_index d (n + 1) ≡ b) → d ≡ take n d ++ (a ∷ b ∷ []) =
    λ e. split ∙ ap (λ x. take n d ++ (x ∷ slice_index d (n + 1) ∷ [])) e.0 ∙ ap (λ x. take n d ++ (a ∷ x ∷ [])) e.1 in
    let back : d ≡ take n d ++ (a ∷ b ∷ []) → (slice_index d n ≡ a) × (slice_index d (n + 1) ≡ b) =
    λ e. (ap (λ x. slice_index x n) e ∙ get_or_at (take n d) a (b ∷ []) 0 n front, ap (λ x. slice_index x (n + 1)) e ∙ get_or-append_right (take n d) (a ∷ b ∷ []) n (n + 1) 0 front (omega arith) ∙ ap (λ k. slice_index (a ∷ b ∷ []) k) second) in
    same_from_decides _ _ (bytes_eq-Decides d (take n d ++ (a ∷ b ∷ [])))
    (Decides-like _ there back (Decides-and _ _ (Decides-eqb (slice_index d n) a) (Decides-eqb (slice_index d (n + 1)) b)))

-- the comparison of the two last bytes with a body's checksum
pub sum_compared : (n : ℕ) (d sum : List ℕ) → n + 2 ≡ length d → sum ≡ sum_bytes (take n d) → bytes_eq d (sealed (take n d)) ≡ (slice_index d n == slice_index sum 0) && slice_index d (n + 1) == slice_index sum 1
sum_compared n d sum long is =
    ends_two n d _ _ long ∙ ap (λ s. (slice_index d n == slice_index s 0) && slice_index d (n + 1) == slice_index s 1) (sym is)

-- the layer's size, and what it writes, from the size n that the inner kind gives
module _ (K : Kind) (b t : K.Contents) (n : ℕ) (f : K.follows b t ≡ true) (size_is : n ≡ sized K b t) where
  inner_size : n ≡ min 65535 (length (K.diff b t))
  inner_size = size_is ∙ sized_yes K b t f

  pub outer_length : length ((check_kind K).diff b t) ≡ length (K.diff b t) + 2
  outer_length = length_sealed (K.diff b t)

  pub outer_size : sized (check_kind K) b t ≡ min 65535 (n + 2)
  outer_size = sized_yes (check_kind K) b t f ∙ omega (arith, inner_size, outer_length)

  module _ (out : List ℕ) where
    pub too_long : (65532 < n) ⊎ (length out < n + 2) → min 65534 (length out) < length ((check_kind K).diff b t)
    too_long h = omega (arith, inner_size, outer_length)

    module _ (low : n ≤ 65532) (room : n + 2 ≤ length out) where
      exact : length (K.diff b t) ≡ n
      exact = omega (arith, inner_size)

      long : length ((check_kind K).diff b t) ≡ n + 2
      long = omega (arith, exact, outer_length)

      pub put_answer_lem : Ok (n + 2) ≡ diffed (check_kind K) b t out
      put_answer_lem =
          let ok : ℕ → Result ℕ DiffRefusal = λ m. Ok m in
          sym (diffed_ok (check_kind K) b t out f (omega (arith, long)) ∙ ap ok long)

      pub put_buffer : (inner : List ℕ) → inner ≡ written K b t out → sealed (take n inner) ++ drop (n + 2) inner ≡ written (check_kind K) b t out
      put_buffer inner wrote =
          let d = K.diff b t in
          let is : inner ≡ d ++ drop n out = wrote ∙ written_ok K b t out f (omega (arith, exact)) ∙ ap (λ m. d ++ drop m out) exact in
          let front : take n inner ≡ d = ap (take n) is ∙ take_at d (drop n out) n exact in
          let rest : drop (n + 2) inner ≡ drop (n + 2) out = ap (drop (n + 2)) is ∙ drop-append-drop n out d (n + 2) (omega arith) exact in
          ap (λ x. sealed x ++ drop (n + 2) inner) front
          ∙ ap (λ x. sealed d ++ x) rest
          ∙ ap (λ m. sealed d ++ drop m out) (sym long)
          ∙ sym (written_ok (check_kind K) b t out f (omega (arith, long)))
