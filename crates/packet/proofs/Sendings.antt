-- The pieces of a sending and its datagrams, one after the other.
use Rattle.std.proofs.Common.{◌≡◌, ℕ, zero, suc, ◌+◌, ◌*◌, ◌<◌, ◌≤◌, false, List, [], ◌∷◌, ◌++◌, map, length, get_or, take, drop, Ok, sym, refl, ap, ◌∙◌, subst, arith, take-add}
use Rattle.std.specs.List.{range_with_len, flat_map}
use Rattle.std.proofs.lemmas.List.FromFn.{map-range_with_len_more, length-map-range_with_len, get_or-map-range_with_len}
use Rattle.std.proofs.lemmas.List.{flat_map_more, take_all, drop-drop, length-take, length-append}
use Rattle.packet.specs.declared.datagram.Direction.{Direction}
use Rattle.packet.specs.Pieces.{piece, piece_count}
use Rattle.packet.specs.Fragments.{fragment_bytes}
use Rattle.packet.specs.Datagrams.{Parcel, same_direction, datagram_around, datagram_bytes, read_datagram}
use Rattle.packet.specs.Sendings.{parcel, datagrams_of, sending_bytes}
use Rattle.packet.specs.Layouts.{SendingStands}
use Rattle.packet.proofs.Sound.{sound_within, piece_sound}
use Rattle.packet.proofs.Layouts.{datagram_back}

-- a datagram has 22 bytes before its contents
pub datagram_length : (g : Parcel) → length (datagram_bytes g) ≡ 22 + length g.piece.contents
unfolding datagram_around fragment_bytes
datagram_length g = omega arith

pub piece_short : (s : ℕ) (bs : List ℕ) (k : ℕ) → length (piece s bs k).contents ≤ 256
piece_short s bs k = simp length-take (omega arith)

module _ (d : Direction) (first s : ℕ) (bs : List ℕ) where
  -- the datagrams before the one of number k, back to back
  abbrev pub so_far : ℕ → List ℕ
  so_far k = flat_map (λ x. x) (map (λ i. datagram_bytes (parcel d first s bs i)) (range_with_len 0 k))

  pub so_far_more : (k : ℕ) → so_far k ++ datagram_bytes (parcel d first s bs k) ≡ so_far (k + 1)
  so_far_more k =
      let f : ℕ → List ℕ = λ i. datagram_bytes (parcel d first s bs i) in
      flat_map_more (λ x. x) [] (map f (range_with_len 0 k)) (f k) ∙ ap (flat_map (λ x. x)) (sym (map-range_with_len_more f 0 k k (omega arith)))

  pub datagram_short : (k : ℕ) → length (datagram_bytes (parcel d first s bs k)) ≤ 278
  datagram_short k = omega (arith, datagram_length (parcel d first s bs k), piece_short s bs k)

  -- the datagram k of the list
  pub datagram_nth : (k : ℕ) → k < piece_count bs → get_or (datagrams_of d first s bs) k [] ≡ datagram_bytes (parcel d first s bs k)
  unfolding datagrams_of
  datagram_nth k h = get_or-map-range_with_len (λ i. datagram_bytes (parcel d first s bs i)) 0 (piece_count bs) k k [] h (omega arith)

  pub datagram_count : length (datagrams_of d first s bs) ≡ piece_count bs
  unfolding datagrams_of
  datagram_count = length-map-range_with_len (λ i. datagram_bytes (parcel d first s bs i)) 0 (piece_count bs)

  -- the datagram k of at most 2,048 bytes has 23 to 278, and is read as its piece
  pub datagram_within : (k : ℕ) → length bs ≤ 2048 → k < piece_count bs → (23 ≤ length (datagram_bytes (parcel d first s bs k))) × (length (datagram_bytes (parcel d first s bs k)) ≤ 278)
  datagram_within k short h =
      let some : 1 ≤ length (piece s bs k).contents = (sound_within (piece s bs k) (piece_sound s bs k short h)).1 in
      (omega (arith, datagram_length (parcel d first s bs k)), datagram_short k)

  pub datagram_read : (sends : Direction) (k : ℕ) → same_direction d sends ≡ false → length bs ≤ 2048 → k < piece_count bs → read_datagram sends (datagram_bytes (parcel d first s bs k)) ≡ Ok (parcel d first s bs k)
  datagram_read sends k other short h = datagram_back (255 ∷ 255 ∷ 255 ∷ 255 ∷ []) refl (parcel d first s bs k) sends (record { other = other; number = omega arith; rules = piece_sound s bs k short h })

-- the contents of the pieces from a on
pieces_from : (s : ℕ) (bs : List ℕ) (a n : ℕ) → flat_map (λ k. (piece s bs k).contents) (range_with_len a n) ≡ take (256 * n) (drop (256 * a) bs)
pieces_from s bs a zero = refl
pieces_from s bs a (suc n) =
    let on : drop (256 * (a + 1)) bs ≡ drop 256 (drop (256 * a) bs) = ap (λ m. drop m bs) (omega arith) ∙ sym (drop-drop 256 (256 * a) bs) in
    ap (λ z. take 256 (drop (256 * a) bs) ++ z) (pieces_from s bs (a + 1) n ∙ ap (take (256 * n)) on)
    ∙ sym (take-add 256 (256 * n) (drop (256 * a) bs))
    ∙ ap (λ m. take m (drop (256 * a) bs)) (omega arith)

-- the contents of all pieces are the bytes
pub pieces_join : (s : ℕ) (bs : List ℕ) → flat_map (λ k. (piece s bs k).contents) (range_with_len 0 (piece_count bs)) ≡ bs
pieces_join s bs = pieces_from s bs 0 (piece_count bs) ∙ take_all (256 * piece_count bs) bs (omega arith)

pub sending_stands : SendingStands
sending_stands d sends first s bs other short =
    let nth = datagram_nth d first s bs in (
      datagram_count d first s bs,
      λ k h. (subst (λ z. 23 ≤ length z) (sym (nth k h)) (datagram_within d first s bs k short h).0, subst (λ z. length z ≤ 278) (sym (nth k h)) (datagram_within d first s bs k short h).1),
      λ k h. ap (read_datagram sends) (nth k h) ∙ datagram_read d first s bs sends k other short h,
      pieces_join s bs,
    )

module _ (d : Direction) (first s : ℕ) (bs : List ℕ) where
  -- the datagrams a, .., a + n - 1, back to back
  abbrev stretch : ℕ → ℕ → List ℕ
  stretch a n = flat_map (λ x. x) (map (λ i. datagram_bytes (parcel d first s bs i)) (range_with_len a n))

  stretch_length : (a n : ℕ) → length (stretch a n) ≡ 22 * n + length (flat_map (λ k. (piece s bs k).contents) (range_with_len a n))
  stretch_length a zero = refl
  stretch_length a (suc n) =
      let q : List ℕ = datagram_bytes (parcel d first s bs a) in
      let c : List ℕ = (piece s bs a).contents in
      length-append q (stretch (a + 1) n)
      ∙ ap (λ m. m + length (stretch (a + 1) n)) (datagram_length (parcel d first s bs a))
      ∙ ap (λ m. 22 + length c + m) (stretch_length (a + 1) n)
      ∙ omega arith
      ∙ ap (λ m. 22 * suc n + m) (sym (length-append c (flat_map (λ k. (piece s bs k).contents) (range_with_len (a + 1) n))))

  -- a sending's length: 22 bytes more a piece
  pub sending_length : length (sending_bytes d first s bs) ≡ 22 * piece_count bs + length bs
  unfolding datagrams_of
  sending_length = stretch_length 0 (piece_count bs) ∙ ap (λ z. 22 * piece_count bs + length z) (pieces_join s bs)
