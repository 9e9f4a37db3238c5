use Rattle.std.proofs.Common.{◌≡◌, ℕ, ◌*◌, ◌<◌, min, List, ◌++◌, length, take, drop, sym, refl, ap, ◌∙◌, rules, arith}
use Rattle.std.proofs.lemmas.List.{take_at, drop_at, take_min, drop_min, drop-drop, length-drop, length-append}
use Rattle.packet.specs.Datagrams.{datagram_bytes}
use Rattle.packet.specs.Pieces.{piece_count}
use Rattle.packet.specs.Sendings.{parcel, datagrams_of}
use Rattle.packet.proofs.Sendings.{so_far, so_far_more, datagram_short}
use Rattle.packet.proofs.Writes.{adds_more, adds_same}
use Rattle.packet.proofs.sending.Pieces.write.Goals as goal

-- what a chunk of 256 bytes is, and what it leaves
chunk : (xs rest after : List ℕ) (n : ℕ) → n ≡ 256 → rest ≡ xs ++ after → length xs ≡ min n (length rest) → (xs ≡ take 256 rest) × (after ≡ drop 256 rest)
chunk xs rest after n size parts long =
    let fits : length xs ≡ min 256 (length rest) = long ∙ ap (λ m. min m (length rest)) size in (
      sym (take_at xs after (length xs) refl) ∙ ap (take (length xs)) (sym parts) ∙ ap (λ m. take m rest) fits ∙ take_min 256 rest,
      sym (drop_at xs after (length xs) refl) ∙ ap (drop (length xs)) (sym parts) ∙ ap (λ m. drop m rest) fits ∙ drop_min 256 rest,
    )

pub datagram-requires : goal.datagram-requires
datagram-requires c =
    let s = c.args.self.now in
    let before = c.loop-k.invariant in
    let now = c.in-Some.ensures.steps in
    let some : 0 < length (drop (256 * c.loop-k.k-iterator.count) s.bytes.now) = omega (arith, now.0.1.2, ap length before.5) in
    record {
      number = omega (arith, now.1, some, simp length-drop at some);
      contents = (chunk _ _ _ _ before.4 now.0.1.0 now.0.1.1).0 ∙ ap (take 256) (before.5 ∙ ap (λ k. drop (256 * k) s.bytes.now) (sym now.1));
    }

pub loop-k-preserved : goal.loop-k-preserved
loop-k-preserved c =
    let s = c.args.self.now in
    let bs = s.bytes.now in
    let before = c.loop-k.invariant in
    let now = c.in-Some.ensures.steps in
    let k = c.loop-k.k-iterator.count in
    let more = so_far_more s.direction s.first_datagram s.sending bs k in
    let from = (chunk _ _ _ _ before.4 now.0.1.0 now.0.1.1).1 ∙ ap (drop 256) before.5 ∙ drop-drop 256 (256 * k) bs in
    let same = ap datagram_bytes (c.datagram.ensures ∙ ap (parcel s.direction s.first_datagram s.sending bs) now.1) in
    let some : 0 < length (drop (256 * k) bs) = omega (arith, now.0.1.2, ap length before.5) in
    let part : ℕ → List ℕ = so_far s.direction s.first_datagram s.sending bs in (
      search rules,
      tt,
      adds_same (ap part (sym now.2)) (adds_same more (adds_more before.2 (adds_same same c.write.ensures))),
      omega (arith, ap (λ n. length (part n)) now.2, ap length more, length-append (part k) (datagram_bytes (parcel s.direction s.first_datagram s.sending bs k)), datagram_short s.direction s.first_datagram s.sending bs k, before.3, now.2),
      now.0.0 ∙ before.4,
      from ∙ ap (λ m. drop m bs) (omega (arith, now.2)),
      omega (arith, now.2, simp length-drop at some),
    )

pub returns : goal.returns
unfolding datagrams_of
returns c =
    let s = c.args.self.now in
    let before = c.loop-k.invariant in
    let none : length (drop (256 * c.loop-k.k-iterator.count) s.bytes.now) ≡ 0 = ap length (sym before.5) ∙ c.in-None.ensures.steps.0.1.0 in
    let all : c.loop-k.k-iterator.count ≡ piece_count s.bytes.now = omega (arith, before.6, simp length-drop at none) in
    adds_same (ap (so_far s.direction s.first_datagram s.sending s.bytes.now) all) before.2
