-- Whether a diff ends with its checksum, told from its last two bytes, and what a diff with its checksum comes to in a buffer.
use Rattle.std.proofs.Common.{◌≡◌, ℕ, ◌+◌, ◌-◌, ◌/◌, ◌%◌, ◌<◌, ◌≤◌, true, List, [], ◌∷◌, ◌++◌, length, take, drop, sym, ap, ◌∙◌, arith}
use Rattle.std.proofs.lemmas.List.{append_assoc, append_cancel_left, drop-drop, take-append-drop, take_at}
use Rattle.std.proofs.lemmas.Bool.Decides.{Decides-like, same_from_decides}
use Rattle.std.proofs.lemmas.Slice.{drop-append-drop}
use Rattle.std.proofs.lemmas.Slice.Eq.{bytes_eq-Decides}
use Rattle.std.specs.Str.{bytes_eq}
use Rattle.state.specs.Check.{check_kind, sealed, sum_bytes, body}
use Rattle.state.specs.Checksum.{checksum}
use Rattle.state.specs.Kind.{Kind, sized, written}
use Rattle.state.specs.Calls.{sized_yes, written_ok}
use Rattle.state.specs.Checked.{length_sealed}

pub seal_tested : (d : List ℕ) → bytes_eq d (sealed (body d)) ≡ bytes_eq (drop (length d - 2) d) (sum_bytes (body d))
seal_tested d =
    let last = drop (length d - 2) d in
    let whole : body d ++ last ≡ d = take-append-drop (length d - 2) d in
    same_from_decides _ _ (bytes_eq-Decides d (sealed (body d)))
    (Decides-like _ (λ e. sym whole ∙ ap (λ x. body d ++ x) e) (λ e. append_cancel_left (body d) last _ (whole ∙ e)) (bytes_eq-Decides last (sum_bytes (body d))))

-- from the size n that the inner kind gives
pub sealed_written : (K : Kind) (b t : K.Contents) (n : ℕ) → K.follows b t ≡ true → n ≡ sized K b t → (out : List ℕ) → n ≤ 65532 → n + 2 ≤ length out → (inner : List ℕ) → inner ≡ written K b t out → sealed (take n inner) ++ drop (n + 2) inner ≡ written (check_kind K) b t out
sealed_written K b t n f size-is out low room inner wrote =
    let d = K.diff b t in
    let long : length d ≡ n = omega (arith, size-is ∙ sized_yes K b t f) in
    let outer : length (sealed d) ≡ n + 2 = omega (arith, length_sealed d) in
    let is : inner ≡ d ++ drop n out = wrote ∙ written_ok K b t out f (omega arith) ∙ ap (λ m. d ++ drop m out) long in
    ap (λ x. sealed x ++ drop (n + 2) inner) (ap (take n) is ∙ take_at d (drop n out) n long)
    ∙ ap (λ x. sealed d ++ x) (ap (drop (n + 2)) is ∙ drop-append-drop n out d (n + 2) (omega arith) long)
    ∙ ap (λ m. sealed d ++ drop m out) (sym outer)
    ∙ sym (written_ok (check_kind K) b t out f (omega arith))

-- a sum behind the bytes that it is of
pub sum_put : (n : ℕ) (out front rest two : List ℕ) (sum : ℕ) → sum < 65536 → front ≡ take n out → rest ≡ drop n out → sum ≡ checksum front → two ≡ sum / 256 % 256 ∷ sum % 256 ∷ [] → front ++ (two ++ drop 2 rest) ≡ sealed (take n out) ++ drop (n + 2) out
sum_put n out front rest two sum small f r is made =
    let high : sum / 256 % 256 ≡ sum / 256 = omega arith in
    let behind : drop 2 (drop n out) ≡ drop (n + 2) out = drop-drop 2 n out in
    let joined = append_assoc (take n out) (sum_bytes (take n out)) (drop (n + 2) out) in
    cc
