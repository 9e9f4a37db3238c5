-- What the fields hold once a piece is added.
use Rattle.std.proofs.Common.{◌≡◌, ℕ, ◌+◌, ◌*◌, ◌^◌, ◌<◌, Bool, true, false, cond, ◌||◌, eqb, List, length, take, drop, Some, None, Option, sym, refl, ap, ◌∙◌, ⊎_elim, arith}
use mathlib.Core.Path.{fun_ext}
use lib.Bits.{or_lt}
use Rattle.std.proofs.lemmas.Nat.{pow_below, le_or_l, le_or_r}
use Rattle.std.proofs.lemmas.List.{length-take, length-drop}
use Rattle.std.proofs.lemmas.Bool.{cases_eq, cases_Bool, ltb-true, lt-ltb, eq-eqb, ne_eqb, both_ways, or_right}
use Rattle.packet.specs.Pieces.{Piece}
use Rattle.assembler.specs.declared.half.Last.{Last}
use Rattle.assembler.specs.Contents.{Held, adding}
use Rattle.assembler.specs.Marks.{with_mark, last_with, placed}
use Rattle.assembler.specs.Reading.{bit_at, is_last, size_of, in_buffer, marked, ended}
use Rattle.assembler.proofs.Bits.{bit_or_at}
use Rattle.assembler.proofs.Buffers.{placed_own, placed_other}
use Rattle.assembler.proofs.Agreeing.{Agrees}
use Rattle.assembler.proofs.Tests.{Formed, end, end_is, size_most, size_middle, last_held}

held_path : {xs ys : List ℕ} {a b : Bool} → xs ≡ ys → a ≡ b → ◌≡◌ {A = Held} (record { bytes = xs; last = a }) (record { bytes = ys; last = b })
held_path p q = λ i. record { bytes = p i; last = q i }

module _ (held : ℕ) (last : Option Last) (buf : List ℕ) (p : Piece) (sure : ended held last ≡ true) (shape : Formed p) (long : length buf ≡ 2048) (a : Agrees held last buf p) where
  abbrev n : ℕ
  n = p.number

  -- a piece that isn't the last isn't the one held as last
  not_last : p.last ≡ false → is_last last n ≡ false
  not_last l = ⊎_elim (λ t. a.mark (last_held held last n sure t) ∙ l) (λ t. t) (cases_Bool (is_last last n))

  own_mark : is_last (last_with last p) n ≡ p.last
  own_mark = ⊎_elim (λ l. rw l (eq-eqb n n refl)) (λ l. rw l (not_last l)) (cases_Bool p.last)

  own_size : size_of (last_with last p) n ≡ length p.contents
  own_size = ⊎_elim (λ l. rw l (ap (λ b. cond b (length p.contents) 256) (eq-eqb n n refl))) (λ l. rw l (size_middle last n (not_last l) ∙ sym (shape.middle l))) (cases_Bool p.last)

  -- no other is the last, where the piece is
  no_other : (k : ℕ) → (k ≡ n → ⊥) → p.last ≡ true → is_last last k ≡ false
  no_other k ne l = ⊎_elim (λ t. absurd (both_ways p.last (a.middle k t ne) l)) (λ t. t) (cases_Bool (is_last last k))

  other_mark : (k : ℕ) → (k ≡ n → ⊥) → is_last (last_with last p) k ≡ is_last last k
  other_mark k ne = ⊎_elim (λ l. rw l (ne_eqb n k (λ e. ne (sym e)) ∙ sym (no_other k ne l))) (λ l. rw l refl) (cases_Bool p.last)

  other_size : (k : ℕ) → (k ≡ n → ⊥) → size_of (last_with last p) k ≡ size_of last k
  other_size k ne =
      ⊎_elim (λ l. rw l (ap (λ b. cond b (length p.contents) 256) (ne_eqb n k (λ e. ne (sym e))) ∙ sym (size_middle last k (no_other k ne l)))) (λ l. rw l refl) (cases_Bool p.last)

  other_bytes : (k : ℕ) → (k ≡ n → ⊥) → take (size_of last k) (drop (256 * k) (placed buf p)) ≡ take (size_of last k) (drop (256 * k) buf)
  other_bytes k ne = placed_other buf p long shape.number shape.most k (size_of last k) (size_most held last k sure) ne

  grows_own : adding (marked held last buf) p n ≡ marked (with_mark held n) (last_with last p) (placed buf p) n
  grows_own =
      let some : Held → Option Held = λ h. Some h in
      let bit : bit_at (with_mark held n) n ≡ true = bit_or_at held n n ∙ or_right (bit_at held n) (eqb n n) (eq-eqb n n refl) in
      ap (λ b. cond b (Some (record { bytes = p.contents; last = p.last })) (marked held last buf n)) (eq-eqb n n refl)
      ∙ ap some (held_path (sym (ap (λ m. take m (drop (256 * n) (placed buf p))) own_size ∙ placed_own buf p long shape.number shape.most (length p.contents) refl)) (sym own_mark))
      ∙ ap (λ b. cond b (Some (in_buffer (last_with last p) (placed buf p) n)) None) (sym bit)

  or_false : (x y : Bool) → y ≡ false → (x || y) ≡ x
  or_false true y h = refl
  or_false false y h = h

  grows_other : (k : ℕ) → (k ≡ n → ⊥) → adding (marked held last buf) p k ≡ marked (with_mark held n) (last_with last p) (placed buf p) k
  grows_other k ne =
      let bit : bit_at (with_mark held n) k ≡ bit_at held k = bit_or_at held n k ∙ or_false (bit_at held k) (eqb n k) (ne_eqb n k (λ e. ne (sym e))) in
      let same : in_buffer (last_with last p) (placed buf p) k ≡ in_buffer last buf k = held_path (ap (λ m. take m (drop (256 * k) (placed buf p))) (other_size k ne) ∙ other_bytes k ne) (other_mark k ne) in
      ap (λ b. cond b (Some (record { bytes = p.contents; last = p.last })) (marked held last buf k)) (ne_eqb k n ne)
      ∙ ap (λ b. cond b (Some (in_buffer last buf k)) None) (sym bit)
      ∙ ap (λ h. cond (bit_at (with_mark held n) k) (Some h) None) (sym same)

  -- with the piece added, the marks and the buffer hold what was held and the piece
  pub grows : adding (marked held last buf) p ≡ marked (with_mark held n) (last_with last p) (placed buf p)
  grows = fun_ext (λ k. ⊎_elim (λ e. rw e grows_own) (λ ne. grows_other k ne) (cases_eq k n))

  keeps_own : marked held last (placed buf p) n ≡ marked held last buf n
  keeps_own = ⊎_elim yes_held (λ b. ap (λ t. cond t (Some (in_buffer last (placed buf p) n)) None) b ∙ sym (ap (λ t. cond t (Some (in_buffer last buf n)) None) b)) (cases_Bool (bit_at held n))
    where
      yes_held : bit_at held n ≡ true → marked held last (placed buf p) n ≡ marked held last buf n
      yes_held b =
          let there = a.bytes b in
          let size : size_of last n ≡ length p.contents = omega (arith, simp (length-take, length-drop) at (ap length there), size_most held last n sure, shape.number, long) in
          ap (λ h. cond (bit_at held n) (Some h) None) (held_path (placed_own buf p long shape.number shape.most (size_of last n) size ∙ sym there) refl)

  -- without its mark, what is held stays
  pub keeps : marked held last (placed buf p) ≡ marked held last buf
  keeps = fun_ext (λ k. ⊎_elim (λ e. rw e keeps_own) (λ ne. ap (λ h. cond (bit_at held k) (Some h) None) (held_path (other_bytes k ne) refl)) (cases_eq k n))

  -- the marks stay sound
  pub sounds : ended (with_mark held n) (last_with last p) ≡ true
  sounds = ⊎_elim ending (λ l. going last refl sure l) (cases_Bool p.last)
    where
      ending : p.last ≡ true → ended (with_mark held n) (last_with last p) ≡ true
      ending l =
          let e : Last = record { number = n; length = length p.contents } in
          rw l
          (end_is (with_mark held n) e (record { number = shape.number; least = shape.least; most = shape.most; low = le_or_r held (2 ^ n); high = or_lt (n + 1) held (2 ^ n) (a.top l) (pow_below n (n + 1) (omega arith)) }))

      going : (o : Option Last) → last ≡ o → ended held o ≡ true → p.last ≡ false → ended (with_mark held n) (last_with last p) ≡ true
      going None q s l =
          rw (l, q) (lt-ltb (with_mark held n) 128 (or_lt 7 held (2 ^ n) (ltb-true held 128 s) (pow_below n 7 (shape.below l))))
      going (Some e) q s l =
          let f = end held e s in
          let own : is_last last e.number ≡ true = ap (λ o. is_last o e.number) q ∙ eq-eqb e.number e.number refl in
          let ne : e.number ≡ n → ⊥ = λ i. both_ways (is_last last n) (not_last l) (ap (is_last last) (sym i) ∙ own) in
          let up : n < e.number = a.below e.number own ne in
          rw (l, q)
          (end_is (with_mark held n) e (record { number = f.number; least = f.least; most = f.most; low = omega (arith, le_or_l held (2 ^ n), f.low); high = or_lt (e.number + 1) held (2 ^ n) f.high (pow_below n (e.number + 1) (omega arith)) }))
