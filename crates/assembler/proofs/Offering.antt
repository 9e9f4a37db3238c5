-- What the definitions come to at an assembler's fields, step by step.
use Rattle.std.proofs.Common.{◌≡◌, ℕ, ◌+◌, ◌-◌, ◌*◌, ◌/◌, ◌%◌, ◌^◌, ◌≤◌, Bool, true, false, cond, eqb, List, length, take, Some, None, Option, sym, refl, ap, ◌∙◌, ⊎_elim, arith}
use mathlib.Core.Path.{fun_ext}
use native.Mathlib.Nat.{zero-div}
use Rattle.std.proofs.lemmas.Bool.{cases_eq, cases_Bool, eq-eqb, ne_eqb, cond-true, cond-false}
use Rattle.packet.specs.Pieces.{Piece}
use Rattle.assembler.specs.declared.half.Last.{Last}
use Rattle.assembler.specs.declared.half.Collecting.{Collecting}
use Rattle.assembler.specs.Contents.{Held, Contents, nothing, none, collects, held_of, before, onward, from, adding, joined, collecting}
use Rattle.packet.specs.Fragments.{sound}
use Rattle.assembler.specs.Offers.{contradicts, settled, added, judged, offered, partly, wholly}
use Rattle.assembler.specs.Marks.{with_mark, last_with, full_length, placed}
use Rattle.assembler.specs.Holding.{holding}
use Rattle.assembler.specs.Reading.{in_buffer, marked, ended}
use Rattle.assembler.proofs.Agreeing.{Agrees, agrees_from}
use Rattle.assembler.proofs.Growing.{grows, keeps, sounds}
use Rattle.assembler.proofs.Joins.{front, joined_is}
use Rattle.assembler.proofs.Tests.{formed, end}

pub judged_free : (held : ℕ → Option Held) (p : Piece) → sound p ≡ true → contradicts held p ≡ false → judged held p ≡ added held p
judged_free held p m c = cond-true (sound p) _ _ m ∙ cond-false (contradicts held p) _ _ c

pub held_own : (s : ℕ) (held : ℕ → Option Held) → held_of (collecting s held) s ≡ held
held_own s held = cond-true (eqb s s) held none (eq-eqb s s refl)

-- an instruction is never longer than the buffer
pub full_most : (held : ℕ) (last : Option Last) (n : ℕ) → ended held last ≡ true → full_length held last ≡ Some n → n ≤ 2048
full_most held None n h e = absurd (let z : ◌≡◌ {A = ℕ} 0 1 = cc in omega arith)
full_most held (Some e) n h q = go (eqb held (255 / 2 ^ (7 - e.number))) q
  where
    go : (b : Bool) → ◌≡◌ {A = Option ℕ} (cond b (Some (256 * e.number + e.length)) None) (Some n) → n ≤ 2048
    go true q = let same : 256 * e.number + e.length ≡ n = cc in let f = end held e h in omega (arith, f.number, f.most)
    go false q = absurd (let z : ◌≡◌ {A = ℕ} 0 1 = cc in omega arith)

module _ (held : ℕ) (last : Option Last) (buf : List ℕ) (p : Piece) (sure : ended held last ≡ true) (fine : sound p ≡ true) (long : length buf ≡ 2048) (free : contradicts (marked held last buf) p ≡ false) where
  agree : Agrees held last buf p
  agree = agrees_from held last buf p sure (formed p fine).number free

  pub sound_with : ended (with_mark held p.number) (last_with last p) ≡ true
  sound_with = sounds held last buf p sure (formed p fine) long agree

  pub kept_with : marked held last (placed buf p) ≡ marked held last buf
  kept_with = keeps held last buf p sure (formed p fine) long agree

  pub grown_with : adding (marked held last buf) p ≡ marked (with_mark held p.number) (last_with last p) (placed buf p)
  grown_with = grows held last buf p sure (formed p fine) long agree

  abbrev held' : ℕ
  held' = with_mark held p.number

  abbrev last' : Option Last
  last' = last_with last p

  pub judged_is : judged (marked held last buf) p ≡ settled p.sending (marked held' last' (placed buf p)) (front (full_length held' last') (placed buf p))
  judged_is =
      judged_free (marked held last buf) p fine free
      ∙ ap (λ m. settled p.sending m (joined m)) grown_with
      ∙ ap (settled p.sending (marked held' last' (placed buf p))) (joined_is held' last' (placed buf p) sound_with)

-- a piece added to the sending that is collected
module _ (state : Option Collecting) (c : Collecting) (buf : List ℕ) (p : Piece) (is : state ≡ Some c) (own : c.sending ≡ p.sending) (fine : sound p ≡ true) (long : length buf ≡ 2048) (free : contradicts (marked c.marks.held c.marks.last buf) p ≡ false) where
  abbrev held : ℕ
  held = c.marks.held

  abbrev last : Option Last
  last = c.marks.last

  begun : (h : ℕ) (l : Option Last) (b : List ℕ) → h ≡ with_mark held p.number → l ≡ last_with last p → b ≡ placed buf p → offered (holding state buf) p ≡ settled p.sending (marked h l b) (front (full_length h l) b)
  begun h l b eh el eb =
      rw (eh, el, eb)
      (ap (λ st. offered (holding st buf) p) is ∙ ap (λ m. judged m p) (cond-true (eqb c.sending p.sending) (marked held last buf) none (eq-eqb c.sending p.sending own)) ∙ judged_is held last buf p c.marks.in_order fine long free)

  pub add_part : (h : ℕ) (l : Option Last) (b : List ℕ) → h ≡ with_mark held p.number → l ≡ last_with last p → b ≡ placed buf p → full_length h l ≡ None → offered (holding state buf) p ≡ partly (collecting c.sending (marked h l b))
  add_part h l b eh el eb f = begun h l b eh el eb ∙ ap (λ o. settled p.sending (marked h l b) (front o b)) f ∙ ap (λ s. partly (collecting s (marked h l b))) (sym own)

  pub add_whole : (h : ℕ) (l : Option Last) (b : List ℕ) (n : ℕ) → h ≡ with_mark held p.number → l ≡ last_with last p → b ≡ placed buf p → full_length h l ≡ Some n → offered (holding state buf) p ≡ wholly (take n b)
  add_whole h l b n eh el eb f = begun h l b eh el eb ∙ ap (λ o. settled p.sending (marked h l b) (front o b)) f

  pub add_kept : (b : List ℕ) → b ≡ placed buf p → holding state b ≡ holding state buf
  add_kept b eb = rw (is, eb) (ap (λ m. collecting c.sending m) (kept_with held last buf p c.marks.in_order fine long free))

  pub collects_own : collects (holding state buf) p.sending ≡ true
  collects_own = ap (λ st. collects (holding st buf) p.sending) is ∙ eq-eqb c.sending p.sending own

pub held_other : (c : Contents) (s : ℕ) → collects c s ≡ false → held_of c s ≡ none
held_other nothing s e = refl
held_other (collecting o held) s e = cond-false (eqb o s) held none e

none_free : (p : Piece) → contradicts none p ≡ false
unfolding contradicts
none_free p = refl

none_marked : (buf : List ℕ) → marked 0 None buf ≡ none
none_marked buf = fun_ext (λ k. ap (λ x. cond (eqb (x % 2) 1) (Some (in_buffer None buf k)) None) (zero-div (2 ^ k)))

at_own : (p : Piece) (k : ℕ) → p.number ≡ k → adding none p k ≡ Some (record { bytes = p.contents; last = p.last })
at_own p k e = cond-true (eqb k p.number) _ _ (eq-eqb k p.number (sym e))

at_other : (p : Piece) (k : ℕ) → (p.number ≡ k → ⊥) → adding none p k ≡ None
at_other p k ne = cond-false (eqb k p.number) _ _ (ne_eqb k p.number (λ e. ne (sym e)))

-- the first piece of an instruction, if it is the last, is all of it
joined_alone : (p : Piece) → p.number ≡ 0 → p.last ≡ true → joined (adding none p) ≡ Some p.contents
unfolding joined
joined_alone p n l =
    let rest : Option (List ℕ) = from 7 1 (adding none p) in
    ap (λ o. onward o rest) (at_own p 0 n) ∙ ap (λ b. cond b (Some p.contents) (before p.contents rest)) l

joined_part : (p : Piece) → ((p.number ≡ 0) × (p.last ≡ true) → ⊥) → joined (adding none p) ≡ None
unfolding joined
joined_part p h = ⊎_elim first (λ ne. ap (λ o. onward o (from 7 1 (adding none p))) (at_other p 0 ne)) (cases_eq p.number 0)
  where
    first : p.number ≡ 0 → joined (adding none p) ≡ None
    first n =
        let more : Option (List ℕ) = from 6 2 (adding none p) in
        let rest : Option (List ℕ) = from 7 1 (adding none p) in
        ap (λ o. onward o rest) (at_own p 0 n)
        ∙ ⊎_elim (λ l. absurd (h (n, l))) (λ l. ap (λ b. cond b (Some p.contents) (before p.contents rest)) l) (cases_Bool p.last)
        ∙ ap (λ o. before p.contents (onward o more)) (at_other p 1 (λ e. omega arith))

-- a piece of a sending that isn't collected
module _ (c : Contents) (p : Piece) (other : collects c p.sending ≡ false) (fine : sound p ≡ true) where
  anew : offered c p ≡ added none p
  anew = ap (λ m. judged m p) (held_other c p.sending other) ∙ judged_free none p fine (none_free p)

  pub begin_alone : p.number ≡ 0 → p.last ≡ true → offered c p ≡ wholly p.contents
  begin_alone n l = anew ∙ ap (settled p.sending (adding none p)) (joined_alone p n l)

  module _ (buf : List ℕ) (long : length buf ≡ 2048) where
    pub begin_free : (h : ℕ) (l : Option Last) → h ≡ 0 → l ≡ None → contradicts (marked h l buf) p ≡ false
    begin_free h l eh el = rw (eh, el) (ap (λ m. contradicts m p) (none_marked buf) ∙ none_free p)

    pub begin_part : (h : ℕ) (l : Option Last) (b : List ℕ) → h ≡ with_mark 0 p.number → l ≡ last_with None p → b ≡ placed buf p → ((p.number ≡ 0) × (p.last ≡ true) → ⊥) → offered c p ≡ partly (collecting p.sending (marked h l b))
    begin_part h l b eh el eb more =
        rw (eh, el, eb)
        (anew ∙ ap (settled p.sending (adding none p)) (joined_part p more)
        ∙ ap (λ m. partly (collecting p.sending m)) (ap (λ m. adding m p) (sym (none_marked buf)) ∙ grown_with 0 None buf p refl fine long (begin_free 0 None refl refl)))
