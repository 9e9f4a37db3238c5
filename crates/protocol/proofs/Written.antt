-- What a tick wrote, cut into its datagrams again.
use Rattle.std.proofs.Common.{◌≡◌, ℕ, zero, suc, ◌+◌, ◌*◌, ◌<◌, ◌≤◌, max, leb, List, [], ◌∷◌, ◌++◌, map, length, take, drop, sym, refl, ap, ◌∙◌, arith}
use Rattle.std.specs.List.{range_with_len, flat_map}
use Rattle.std.proofs.lemmas.List.{append-nil, take_all, take_at, drop-drop, drop_at, length-take, length-drop}
use Rattle.std.proofs.lemmas.Bool.{cond-true, le-leb}
use Rattle.state.specs.Kind.{Kind}
use Rattle.packet.specs.declared.datagram.Direction.{Direction}
use Rattle.packet.specs.Pieces.{piece, piece_count}
use Rattle.packet.specs.Instructions.{instruction_bytes}
use Rattle.packet.specs.Datagrams.{datagram_bytes}
use Rattle.packet.specs.Sendings.{parcel, datagrams_of, sending_bytes}
use Rattle.packet.proofs.Sendings.{datagram_length, datagram_short, pieces_join}
use Rattle.protocol.specs.End.{Holding}
use Rattle.protocol.specs.Ticking.{update, sent_count}
use Rattle.protocol.proofs.Ways.{Sends, sent_as}

-- lists of which each but the last has 278 bytes, back to back, cut at every 278
cuts : (f : ℕ → List ℕ) (xs : List ℕ) (a n : ℕ) → ((k : ℕ) → length (f k) ≤ 278) → ((k : ℕ) → a ≤ k → k + 1 < a + n → length (f k) ≡ 278) → drop (278 * a) xs ≡ flat_map (λ x. x) (map f (range_with_len a n)) → map (λ k. take 278 (drop (278 * k) xs)) (range_with_len a n) ≡ map f (range_with_len a n)
cuts f xs a zero small full e = refl
cuts f xs a (suc zero) small full e = ap (λ z. z ∷ []) (ap (take 278) (e ∙ append-nil (f a)) ∙ take_all 278 (f a) (small a))
cuts f xs a (suc (suc n)) small full e =
    let long : length (f a) ≡ 278 = full a (omega arith) (omega arith) in
    let rest : List ℕ = flat_map (λ x. x) (map f (range_with_len (a + 1) (suc n))) in
    let front : take 278 (drop (278 * a) xs) ≡ f a = ap (take 278) e ∙ take_at (f a) rest 278 long in
    let on : drop (278 * (a + 1)) xs ≡ rest = ap (λ m. drop m xs) (omega arith) ∙ sym (drop-drop 278 (278 * a) xs) ∙ ap (drop 278) e ∙ drop_at (f a) rest 278 long in
    ap (λ z. z ∷ map (λ k. take 278 (drop (278 * k) xs)) (range_with_len (a + 1) (suc n))) front
    ∙ ap (λ z. f a ∷ z) (cuts f xs (a + 1) (suc n) small (λ k p q. full k (omega arith) (omega arith)) on)

module _ (d : Direction) (first s : ℕ) (bs : List ℕ) where
  -- the datagram k of a sending
  abbrev pub datagram_at : ℕ → List ℕ
  datagram_at k = datagram_bytes (parcel d first s bs k)

  -- each but the last has 278 bytes
  pub datagram_full : (k : ℕ) → k + 1 < piece_count bs → length (datagram_at k) ≡ 278
  datagram_full k lt = let long : length (take 256 (drop (256 * k) bs)) ≡ 256 = simp (length-take, length-drop) (omega arith) in omega (arith, datagram_length (parcel d first s bs k))

  -- the datagrams of a sending, back to back, cut at every 278
  pub sending_cut : map (λ k. take 278 (drop (278 * k) (sending_bytes d first s bs))) (range_with_len 0 (piece_count bs)) ≡ datagrams_of d first s bs
  unfolding datagrams_of
  sending_cut = cuts datagram_at (sending_bytes d first s bs) 0 (piece_count bs) (datagram_short d first s bs) (λ k p q. datagram_full k (omega arith)) refl

  -- what is read of each of them, if it is its piece's contents, is the bytes in all
  pub contents_join : (p : List ℕ → List ℕ) → ((k : ℕ) → k < piece_count bs → p (datagram_at k) ≡ (piece s bs k).contents) → flat_map p (datagrams_of d first s bs) ≡ bs
  unfolding datagrams_of
  contents_join p each = from 0 (piece_count bs) (λ k q r. each k (omega arith)) ∙ pieces_join s bs
    where
      from : (a n : ℕ) → ((k : ℕ) → a ≤ k → k < a + n → p (datagram_at k) ≡ (piece s bs k).contents) → flat_map p (map datagram_at (range_with_len a n)) ≡ flat_map (λ k. (piece s bs k).contents) (range_with_len a n)
      from a zero each' = refl
      from a (suc n) each' = ap (λ z. z ++ flat_map p (map datagram_at (range_with_len (a + 1) n))) (each' a (omega arith) (omega arith)) ∙ ap (λ z. (piece s bs a).contents ++ z) (from (a + 1) n (λ k q r. each' k (omega arith) (omega arith)))

  -- each of them, one by one
  pub datagrams_each : (Q : List (List ℕ) → Type 0) → Q [] → ((k : ℕ) (rest : List (List ℕ)) → k < piece_count bs → Q rest → Q (datagram_at k ∷ rest)) → Q (datagrams_of d first s bs)
  unfolding datagrams_of
  datagrams_each Q none more = from 0 (piece_count bs) (omega arith)
    where
      from : (a n : ℕ) → a + n ≤ piece_count bs → Q (map datagram_at (range_with_len a n))
      from a zero le = none
      from a (suc n) le = more a (map datagram_at (range_with_len (a + 1) n)) (omega arith) (from (a + 1) n (omega arith))

  -- the first of them
  pub datagrams_first : 1 ≤ piece_count bs → (rest : List (List ℕ)) × (datagrams_of d first s bs ≡ datagram_at 0 ∷ rest)
  unfolding datagrams_of
  datagrams_first some = at (piece_count bs) some
    where
      at : (n : ℕ) → 1 ≤ n → (rest : List (List ℕ)) × (map datagram_at (range_with_len 0 n) ≡ datagram_at 0 ∷ rest)
      at zero le = absurd (omega arith)
      at (suc n) le = (map datagram_at (range_with_len 1 n), refl)

module _ (K L : Kind) (h : Holding K L) (time : ℕ) (out : List ℕ) (sends : Sends K L h time out) where
  abbrev now : ℕ
  now = max h.end.tally.clock time

  abbrev bytes : List ℕ
  bytes = instruction_bytes (update K h.end h.sent_store now)

  -- the front of the buffer after a sending is its datagrams
  pub sent_front : take (sent_count K h.end h.sent_store now).length (sent_as K L h now out).buffer ≡ sending_bytes h.end.direction h.end.tally.datagrams (h.end.tally.sendings + 1) bytes
  sent_front =
      ap (take (sent_count K h.end h.sent_store now).length) (cond-true (leb 2224 (length out)) _ _ (le-leb 2224 (length out) sends.room) ∙ cond-true (leb (length (update K h.end h.sent_store now).diff) 2031) _ _ (le-leb (length (update K h.end h.sent_store now).diff) 2031 sends.short))
      ∙ take_at (sending_bytes h.end.direction h.end.tally.datagrams (h.end.tally.sendings + 1) bytes) _ (sent_count K h.end h.sent_store now).length refl

  -- cut at every 278 bytes it gives each of them
  pub sent_cut : map (λ k. take 278 (drop (278 * k) (take (sent_count K h.end h.sent_store now).length (sent_as K L h now out).buffer))) (range_with_len 0 (sent_count K h.end h.sent_store now).count) ≡ datagrams_of h.end.direction h.end.tally.datagrams (h.end.tally.sendings + 1) bytes
  sent_cut =
      ap (λ xs. map (λ k. take 278 (drop (278 * k) xs)) (range_with_len 0 (piece_count bytes))) sent_front
      ∙ sending_cut h.end.direction h.end.tally.datagrams (h.end.tally.sendings + 1) bytes
