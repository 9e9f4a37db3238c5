-- The rules of a piece.
use Rattle.std.proofs.Common.{◌≡◌, ℕ, ◌+◌, ◌-◌, ◌*◌, ◌/◌, ◌<◌, ◌≤◌, min, Bool, true, false, cond, ◌&&◌, eqb, ltb, leb, List, length, take, drop, ap, ◌∙◌, arith}
use Rattle.std.proofs.lemmas.List.{length-take, length-drop}
use Rattle.std.proofs.lemmas.Bool.Decides.{nat_tests}
use Rattle.packet.specs.Pieces.{Piece, piece_count, piece}
use Rattle.packet.specs.Fragments.{sound}

-- the rules by the three things that they speak of
abbrev fits : Bool → ℕ → ℕ → Bool
fits last k n = cond last (leb k 7 && (leb 1 n && leb n 256)) (ltb k 7 && eqb n 256)

none_fits : (last : Bool) (k n : ℕ) → n ≡ 0 → fits last k n ≡ false
none_fits true k n e = grind (arith, nat_tests)
none_fits false k n e = grind (arith, nat_tests)

far_fits : (last : Bool) (k n : ℕ) → 7 < k → fits last k n ≡ false
far_fits true k n h = grind (arith, nat_tests)
far_fits false k n h = grind (arith, nat_tests)

-- no contents, or a number above 7: not sound
pub sound_none : (p : Piece) → length p.contents ≡ 0 → sound p ≡ false
sound_none p e = none_fits p.last p.number (length p.contents) e

pub sound_far : (p : Piece) → 7 < p.number → sound p ≡ false
sound_far p h = far_fits p.last p.number (length p.contents) h

some_fits : (last : Bool) (k n : ℕ) → fits last k n ≡ true → (k ≤ 7) × (1 ≤ n) × (n ≤ 256)
some_fits true k n h = (grind (arith, nat_tests), grind (arith, nat_tests), grind (arith, nat_tests))
some_fits false k n h = (grind (arith, nat_tests), grind (arith, nat_tests), grind (arith, nat_tests))

-- a sound piece is one of eight and has 1 to 256 bytes
pub sound_within : (p : Piece) → sound p ≡ true → (p.number ≤ 7) × (1 ≤ length p.contents) × (length p.contents ≤ 256)
sound_within p h = some_fits p.last p.number (length p.contents) h

cut_fits : (l k : ℕ) → l ≤ 2048 → k < (l + 255) / 256 → fits (eqb (k + 1) ((l + 255) / 256)) k (min 256 (l - 256 * k)) ≡ true
cut_fits l k short h = grind (arith, nat_tests)

-- the pieces of at most 2,048 bytes keep the rules
pub piece_sound : (s : ℕ) (bs : List ℕ) (k : ℕ) → length bs ≤ 2048 → k < piece_count bs → sound (piece s bs k) ≡ true
piece_sound s bs k short h =
    let long : length (take 256 (drop (256 * k) bs)) ≡ min 256 (length bs - 256 * k) = length-take 256 (drop (256 * k) bs) ∙ ap (min 256) (length-drop (256 * k) bs) in
    ap (fits (eqb (k + 1) (piece_count bs)) k) long ∙ cut_fits (length bs) k short h
