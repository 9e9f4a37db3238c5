-- Entries written one behind the other.
use Rattle.std.proofs.Common.{◌≡◌, ℕ, ◌+◌, ◌-◌, ◌≤◌, List, ◌++◌, length, take, drop, sym, ap, ◌∙◌, arith}
use borrow.Rule.Slice.PartMut.{put_mid}
use Rattle.std.proofs.lemmas.List.{append_assoc, append-nil, drop_all, drop_at, drop-drop, length-drop, take_all, take_at}

-- bytes written behind a front, in a buffer that was xs
pub behind : (xs out front bytes : List ℕ) (at k : ℕ) → out ≡ front ++ drop at xs → at ≡ length front → k ≡ length out - at → at ≤ length xs → put_mid at k out (bytes ++ drop (length bytes) (take k (drop at out))) ≡ (front ++ bytes) ++ drop (at + length bytes) xs
behind xs out front bytes at k is at-is k-is h =
    let before : take at out ≡ front = ap (take at) is ∙ take_at front (drop at xs) at (sym at-is) in
    let rest : drop at out ≡ drop at xs = ap (drop at) is ∙ drop_at front (drop at xs) at (sym at-is) in
    let n : length (drop at out) ≡ k = omega (arith, length-drop at out) in
    ap (λ x. x ++ ((bytes ++ drop (length bytes) (take k (drop at out))) ++ drop k (drop at out))) before
    ∙ ap (λ x. front ++ ((bytes ++ drop (length bytes) x) ++ drop k (drop at out))) (take_all k (drop at out) (omega arith) ∙ rest)
    ∙ ap (λ x. front ++ ((bytes ++ x) ++ drop k (drop at out))) (drop-drop (length bytes) at xs)
    ∙ ap (λ x. front ++ ((bytes ++ drop (at + length bytes) xs) ++ x)) (drop_all k (drop at out) (omega arith))
    ∙ ap (λ x. front ++ x) (append-nil _)
    ∙ sym (append_assoc front bytes (drop (at + length bytes) xs))
