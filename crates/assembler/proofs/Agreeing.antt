-- When a piece contradicts none that is held.
use Rattle.std.proofs.Common.{◌≡◌, ℕ, ◌+◌, ◌*◌, ◌/◌, ◌^◌, ◌<◌, Bool, true, false, cond, not, ◌&&◌, ◌||◌, ltb, List, take, drop, Some, None, Option, sym, refl, ap, ◌∙◌, ⊎_elim, div-lt_iff_lt-mul, arith, pow-add}
use Rattle.std.specs.Str.{bytes_eq}
use Rattle.std.proofs.lemmas.Nat.{pow_pos}
use Rattle.std.proofs.lemmas.Slice.Eq.{bytes_eq-Decides}
use Rattle.std.proofs.lemmas.Bool.{and_parts, and_from, or_parts, or_from, or_left, or_right, and_left, and_right, cases_eq, cases_lt, cases_Bool, ltb-true, ltb-false, eqb-true, le-ltb, eq-eqb, ne_eqb, true≢false, both_ways, not-false}
use Rattle.packet.specs.Pieces.{Piece}
use Rattle.assembler.specs.declared.half.Last.{Last}
use Rattle.assembler.specs.Offers.{some, same_mark, repeats, against, clash, contradicts}
use Rattle.assembler.specs.Marks.{past_last}
use Rattle.assembler.specs.Reading.{bit_at, is_last, size_of, in_buffer, marked, ended}
use Rattle.assembler.proofs.Bits.{above_bits, clear_above, same_mark_is}
use Rattle.assembler.proofs.Tests.{some_none, none_some, some_at, some_finds, end, held_small, last_held, last_high, last_one, last_small}

pub mark_same : (a : Bool) → same_mark a a ≡ true
mark_same true = refl
mark_same false = refl

module _ (held : ℕ) (last : Option Last) (buf : List ℕ) (p : Piece) where
  -- what is held under the piece's number is the piece, another number that is last lies above it, and under a last piece nothing does
  pub record Agrees : Type 0 where
    pub mark : bit_at held p.number ≡ true → is_last last p.number ≡ p.last
    pub bytes : bit_at held p.number ≡ true → take (size_of last p.number) (drop (256 * p.number) buf) ≡ p.contents
    pub middle : (k : ℕ) → is_last last k ≡ true → (k ≡ p.number → ⊥) → p.last ≡ false
    pub below : (k : ℕ) → is_last last k ≡ true → (k ≡ p.number → ⊥) → p.number < k
    pub top : p.last ≡ true → held < 2 ^ (p.number + 1)

  abbrev test : ℕ → Bool
  test k = clash k (marked held last buf k) p

  -- the test under a number that is held
  at_held : (k : ℕ) → bit_at held k ≡ true → test k ≡ against k (in_buffer last buf k) p
  at_held k b = rw b refl

  at_none : (k : ℕ) → bit_at held k ≡ false → test k ≡ false
  at_none k b = rw b refl

  abbrev others : Bool → Bool → Bool → Bool
  others own low high = (own && (p.last || low)) || (p.last && high)

  at_own : bit_at held p.number ≡ true → test p.number ≡ not (repeats (in_buffer last buf p.number) p)
  at_own b = at_held p.number b ∙ ap (λ t. cond t (not (repeats (in_buffer last buf p.number) p)) (others (is_last last p.number) (ltb p.number p.number) (ltb p.number p.number))) (eq-eqb p.number p.number refl)

  at_other : (k : ℕ) → bit_at held k ≡ true → (k ≡ p.number → ⊥) → test k ≡ others (is_last last k) (ltb k p.number) (ltb p.number k)
  at_other k b ne = at_held k b ∙ ap (λ t. cond t (not (repeats (in_buffer last buf k) p)) (others (is_last last k) (ltb k p.number) (ltb p.number k))) (ne_eqb k p.number ne)

  module _ (sure : ended held last ≡ true) (number : p.number < 8) where
    -- a held number above one is found, and only then
    pub none_above : ltb 1 (held / 2 ^ p.number) ≡ false → held < 2 ^ (p.number + 1)
    none_above h =
        let few : held / 2 ^ p.number < 2 = omega (arith, ltb-false 1 (held / 2 ^ p.number) h) in
        omega (arith, pow-add 2 p.number 1, (div-lt_iff_lt-mul {k = 2 ^ p.number} {x = held} {y = 2} (pow_pos p.number)).0 few)

    found_above : ltb 1 (held / 2 ^ p.number) ≡ true → (k : ℕ) × (k < 8) × ((ltb p.number k && bit_at held k) ≡ true)
    found_above h = some_finds 8 (λ k. ltb p.number k && bit_at held k) (sym (above_bits held p.number (held_small held last sure) number) ∙ h)

    -- a last piece under a held number
    pub clash_above : p.last ≡ true → ltb 1 (held / 2 ^ p.number) ≡ true → contradicts (marked held last buf) p ≡ true
    unfolding contradicts
    clash_above l h =
        let f = found_above h in
        let k = f.0 in
        let both = and_parts (ltb p.number k) (bit_at held k) f.2 in
        let up : p.number < k = ltb-true p.number k both.0 in
        some_at 8 test k f.1
        (at_other k both.1 (λ e. omega arith) ∙ or_right (is_last last k && (p.last || ltb k p.number)) (p.last && ltb p.number k) (and_from p.last (ltb p.number k) l both.0))

    pub agrees_from : contradicts (marked held last buf) p ≡ false → Agrees
    unfolding contradicts
    agrees_from free = record { mark = λ b. same_mark_is _ _ (kept b).0; bytes = λ b. (bytes_eq-Decides _ _).0 (kept b).1; middle = λ k t ne. (apart k t ne).0; below = λ k t ne. omega (arith, ltb-false k p.number (apart k t ne).1, ne); top = top }
      where
        each : (k : ℕ) → k < 8 → test k ≡ false
        each = some_none 8 test free

        kept : bit_at held p.number ≡ true → (same_mark (is_last last p.number) p.last ≡ true) × (bytes_eq (take (size_of last p.number) (drop (256 * p.number) buf)) p.contents ≡ true)
        kept b = and_parts _ _ (not-false (repeats (in_buffer last buf p.number) p) (sym (at_own b) ∙ each p.number number))

        apart : (k : ℕ) → is_last last k ≡ true → (k ≡ p.number → ⊥) → (p.last ≡ false) × (ltb k p.number ≡ false)
        apart k t ne =
            let b : bit_at held k ≡ true = last_held held last k sure t in
            let low : (is_last last k && (p.last || ltb k p.number)) ≡ false = (or_parts _ _ (sym (at_other k b ne) ∙ each k (last_small held last k sure t))).0 in
            or_parts p.last (ltb k p.number) (ap (λ x. x && (p.last || ltb k p.number)) (sym t) ∙ low)

        top : p.last ≡ true → held < 2 ^ (p.number + 1)
        top l = ⊎_elim (λ h. absurd (both_ways _ free (clash_above l h))) (λ h. none_above h) (cases_Bool (ltb 1 (held / 2 ^ p.number)))

    pub agrees_none : Agrees → contradicts (marked held last buf) p ≡ false
    unfolding contradicts
    agrees_none a = none_some 8 test one
      where
        high : (k : ℕ) → bit_at held k ≡ true → (p.last && ltb p.number k) ≡ false
        high k b =
            ⊎_elim
            (λ l. and_right p.last (ltb p.number k) (⊎_elim (λ lt. absurd (both_ways (bit_at held k) (clear_above held p.number k (a.top l) lt) b)) (λ le. le-ltb p.number k le) (cases_lt p.number k)))
            (λ l. and_left p.last (ltb p.number k) l)
            (cases_Bool p.last)

        other : (k : ℕ) → bit_at held k ≡ true → (k ≡ p.number → ⊥) → test k ≡ false
        other k b ne =
            at_other k b ne
            ∙ or_from (is_last last k && (p.last || ltb k p.number)) (p.last && ltb p.number k)
            (⊎_elim (λ t. and_right (is_last last k) (p.last || ltb k p.number) (or_from p.last (ltb k p.number) (a.middle k t ne) (le-ltb k p.number (omega (arith, a.below k t ne))))) (λ t. and_left (is_last last k) (p.last || ltb k p.number) t) (cases_Bool (is_last last k)))
            (high k b)

        own : bit_at held p.number ≡ true → test p.number ≡ false
        own b =
            at_own b
            ∙ ap not (and_from (same_mark (is_last last p.number) p.last) (bytes_eq (take (size_of last p.number) (drop (256 * p.number) buf)) p.contents) (ap (λ x. same_mark x p.last) (a.mark b) ∙ mark_same p.last) ((bytes_eq-Decides _ _).1 (a.bytes b)))

        one : (k : ℕ) → k < 8 → test k ≡ false
        one k lt = ⊎_elim (λ b. ⊎_elim (λ e. rw e (own (ap (bit_at held) (sym e) ∙ b))) (λ ne. other k b ne) (cases_eq k p.number)) (λ b. at_none k b) (cases_Bool (bit_at held k))

    agree : bit_at held p.number ≡ true → repeats (in_buffer last buf p.number) p ≡ true → Agrees
    agree b r =
        let both = and_parts (same_mark (is_last last p.number) p.last) (bytes_eq (take (size_of last p.number) (drop (256 * p.number) buf)) p.contents) r in
        let mark : is_last last p.number ≡ p.last = same_mark_is _ _ both.0 in
        record {
          mark = λ _. mark;
          bytes = λ _. (bytes_eq-Decides _ _).0 both.1;
          middle = λ k t ne. ⊎_elim (λ l. absurd (ne (last_one last k p.number t (mark ∙ l)))) (λ l. l) (cases_Bool p.last);
          below = λ k t ne. ⊎_elim (λ lt. absurd (both_ways (bit_at held p.number) (clear_above held k p.number (last_high held last k sure t) lt) b)) (λ le. omega (arith, ne)) (cases_lt k p.number);
          top = λ l. last_high held last p.number sure (mark ∙ l);
        }

    -- a number that is held
    pub clash_held : (r : Bool) → bit_at held p.number ≡ true → r ≡ repeats (in_buffer last buf p.number) p → not r ≡ contradicts (marked held last buf) p
    unfolding contradicts
    clash_held true b e = sym (agrees_none (agree b (sym e)))
    clash_held false b e = sym (some_at 8 test p.number number (at_own b ∙ ap not (sym e)))

    -- a number that isn't held, against the last piece
    pub clash_past : bit_at held p.number ≡ false → past_last last p ≡ true → contradicts (marked held last buf) p ≡ true
    unfolding contradicts
    clash_past b h = go last refl sure h
      where
        go : (l : Option Last) → last ≡ l → ended held l ≡ true → past_last l p ≡ true → some 8 test ≡ true
        go None e s t = absurd (true≢false (sym t))
        go (Some e) q s t =
            let own : is_last last e.number ≡ true = ap (λ l. is_last l e.number) q ∙ eq-eqb e.number e.number refl in
            let there = last_held held last e.number sure own in
            some_at 8 test e.number (end held e s).number
            (at_other e.number there (λ i. both_ways (bit_at held p.number) b (ap (bit_at held) (sym i) ∙ there))
            ∙ or_left (is_last last e.number && (p.last || ltb e.number p.number)) (p.last && ltb p.number e.number) (and_from (is_last last e.number) (p.last || ltb e.number p.number) own t))

    -- a number that isn't held, and goes against none
    pub clash_none : bit_at held p.number ≡ false → past_last last p ≡ false → (p.last ≡ true → ltb 1 (held / 2 ^ p.number) ≡ false) → contradicts (marked held last buf) p ≡ false
    clash_none b h t =
        agrees_none
        (record {
          mark = λ own. absurd (both_ways _ b own);
          bytes = λ own. absurd (both_ways _ b own);
          middle = λ k own ne. (within k last h own).0;
          below = λ k own ne. omega (arith, ltb-false k p.number (within k last h own).1, ne);
          top = λ l. none_above (t l);
        })
      where
        within : (k : ℕ) (l : Option Last) → past_last l p ≡ false → is_last l k ≡ true → (p.last ≡ false) × (ltb k p.number ≡ false)
        within k None e own = absurd (true≢false (sym own))
        within k (Some e) f own = or_parts p.last (ltb k p.number) (ap (λ n. p.last || ltb n p.number) (sym (eqb-true e.number k own)) ∙ f)
