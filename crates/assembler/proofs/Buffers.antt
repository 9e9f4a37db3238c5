-- A buffer in which a part was written anew.
use Rattle.std.proofs.Common.{◌≡◌, ℕ, ◌+◌, ◌-◌, ◌*◌, ◌<◌, ◌≤◌, List, ◌++◌, length, take, drop, sym, refl, ap, ◌∙◌, ⊎_elim, arith}
use Rattle.std.proofs.lemmas.List.{take_at, drop_at, take-take, take-append-le, drop-take, drop-drop, length-take-le}
use Rattle.std.proofs.lemmas.Bool.{cases_order}
use Rattle.packet.specs.Pieces.{Piece}
use Rattle.assembler.specs.Marks.{placed}

module _ (a : ℕ) (src buf : List ℕ) (room : a + length src ≤ length buf) where
  abbrev put : List ℕ
  put = take a buf ++ (src ++ drop (a + length src) buf)

  front : length (take a buf) ≡ a
  front = length-take-le a buf (omega arith)

  own : (m : ℕ) → m ≡ length src → take m (drop a put) ≡ src
  own m e = ap (take m) (drop_at (take a buf) (src ++ drop (a + length src) buf) a front) ∙ take_at src (drop (a + length src) buf) m (sym e)

  below : (b m : ℕ) → b + m ≤ a → take m (drop b put) ≡ take m (drop b buf)
  below b m le =
      let same : take (b + m) put ≡ take (b + m) buf = take-append-le (b + m) (take a buf) (src ++ drop (a + length src) buf) (omega (arith, front)) ∙ take-take (b + m) a buf le in
      sym (drop-take b m put) ∙ ap (drop b) same ∙ drop-take b m buf

  after : (b : ℕ) → a + length src ≤ b → drop b put ≡ drop b buf
  after b le =
      let r : ℕ = b - (a + length src) in
      let e : (a + length src) + r ≡ b = omega arith in
      let past : drop (a + length src) put ≡ drop (a + length src) buf =
      sym (drop-drop (length src) a put) ∙ ap (drop (length src)) (drop_at (take a buf) (src ++ drop (a + length src) buf) a front) ∙ drop_at src (drop (a + length src) buf) (length src) refl in
      ap (λ n. drop n put) (sym e) ∙ sym (drop-drop r (a + length src) put) ∙ ap (drop r) past ∙ drop-drop r (a + length src) buf ∙ ap (λ n. drop n buf) e

module _ (buf : List ℕ) (p : Piece) (long : length buf ≡ 2048) (number : p.number < 8) (most : length p.contents ≤ 256) where
  room : 256 * p.number + length p.contents ≤ length buf
  room = omega arith

  -- the bytes at the piece's own place
  pub placed_own : (m : ℕ) → m ≡ length p.contents → take m (drop (256 * p.number) (placed buf p)) ≡ p.contents
  placed_own = own (256 * p.number) p.contents buf room

  -- the bytes at another place
  pub placed_other : (k m : ℕ) → m ≤ 256 → (k ≡ p.number → ⊥) → take m (drop (256 * k) (placed buf p)) ≡ take m (drop (256 * k) buf)
  placed_other k m small ne =
      ⊎_elim (λ e. absurd (ne e))
      (⊎_elim (λ lt. below (256 * p.number) p.contents buf room (256 * k) m (omega arith)) (λ gt. ap (take m) (after (256 * p.number) p.contents buf room (256 * k) (omega arith))))
      (cases_order k p.number)
