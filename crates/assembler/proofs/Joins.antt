-- The instruction's bytes are the buffer's front.
use Rattle.std.proofs.Common.{◌≡◌, ℕ, zero, suc, ◌+◌, ◌-◌, ◌*◌, ◌/◌, ◌^◌, ◌<◌, Bool, true, false, cond, ◌&&◌, eqb, List, ◌++◌, take, drop, Some, None, Option, sym, refl, ap, ◌∙◌, ⊎_elim, arith, take-add}
use Rattle.std.proofs.lemmas.List.{drop-drop}
use Rattle.std.proofs.lemmas.Bool.{cases_Bool, eq-eqb, ne_eqb, true≢false}
use Rattle.assembler.specs.declared.half.Last.{Last}
use Rattle.assembler.specs.Contents.{Held, onward, from, joined}
use Rattle.assembler.specs.Marks.{full_length}
use Rattle.assembler.specs.Reading.{bit_at, marked, ended}
use Rattle.assembler.proofs.Bits.{got, full_bits}
use Rattle.assembler.proofs.Tests.{end, held_small}

-- the front of a buffer, if a length is given
abbrev pub front : Option ℕ → List ℕ → Option (List ℕ)
front None buf = None
front (Some n) buf = Some (take n buf)

endless : (held : ℕ) (buf : List ℕ) (n k : ℕ) → from n k (marked held None buf) ≡ None
endless held buf zero k = refl
endless held buf (suc n) k =
    ap (onward (marked held None buf k)) (endless held buf n (k + 1))
    ∙ ⊎_elim (λ t. rw t refl) (λ t. rw t refl) (cases_Bool (bit_at held k))

module _ (held : ℕ) (e : Last) (buf : List ℕ) where
  abbrev at : ℕ → Option Held
  at = marked held (Some e) buf

  -- the bytes from the piece k on, d pieces before the last
  abbrev left : ℕ → ℕ → Option (List ℕ)
  left d k = cond (got held d k) (Some (take (256 * d + e.length) (drop (256 * k) buf))) None

  -- a piece's bytes before the others, by its mark and its being last
  abbrev go : ℕ → Option (List ℕ) → Bool → Bool → Option (List ℕ)
  go k rest b m = onward (cond b (Some (record { bytes = take (cond m e.length 256) (drop (256 * k) buf); last = m })) None) rest

  at_last : (k : ℕ) (rest : Option (List ℕ)) (b : Bool) → go k rest b true ≡ cond b (Some (take (256 * 0 + e.length) (drop (256 * k) buf))) None
  at_last k rest true = ap (λ n. Some (take n (drop (256 * k) buf))) (omega arith)
  at_last k rest false = refl

  stretch : (d k : ℕ) → take 256 (drop (256 * k) buf) ++ take (256 * d + e.length) (drop (256 * (k + 1)) buf) ≡ take (256 * suc d + e.length) (drop (256 * k) buf)
  stretch d k =
      let on : drop (256 * (k + 1)) buf ≡ drop 256 (drop (256 * k) buf) = ap (λ n. drop n buf) (omega arith) ∙ sym (drop-drop 256 (256 * k) buf) in
      ap (λ xs. take 256 (drop (256 * k) buf) ++ take (256 * d + e.length) xs) on ∙ sym (take-add 256 (256 * d + e.length) (drop (256 * k) buf)) ∙ ap (λ n. take n (drop (256 * k) buf)) (omega arith)

  at_middle : (d k : ℕ) (b g : Bool) → go k (cond g (Some (take (256 * d + e.length) (drop (256 * (k + 1)) buf))) None) b false ≡ cond (b && g) (Some (take (256 * suc d + e.length) (drop (256 * k) buf))) None
  at_middle d k true true = ap {B = Option (List ℕ)} (λ xs. Some xs) (stretch d k)
  at_middle d k true false = refl
  at_middle d k false true = refl
  at_middle d k false false = refl

  ends : (d n k : ℕ) → k + d ≡ e.number → d < n → from n k at ≡ left d k
  ends d zero k s lt = absurd (omega arith)
  ends zero (suc n) k s lt =
      let mark : eqb e.number k ≡ true = eq-eqb e.number k (omega arith) in
      ap (λ m. go k (from n (k + 1) at) (bit_at held k) m) mark ∙ at_last k (from n (k + 1) at) (bit_at held k)
  ends (suc d) (suc n) k s lt =
      let mark : eqb e.number k ≡ false = ne_eqb e.number k (λ q. omega arith) in
      ap (λ m. go k (from n (k + 1) at) (bit_at held k) m) mark
      ∙ ap (λ r. go k r (bit_at held k) false) (ends d n (k + 1) (omega arith) (omega arith))
      ∙ at_middle d k (bit_at held k) (got held d (k + 1))

  full : (g h : Bool) (n : ℕ) → g ≡ h → cond h (Some (take n buf)) None ≡ front (cond g (Some n) None) buf
  full true true n e = refl
  full false false n e = refl
  full true false n e = absurd (true≢false e)
  full false true n e = absurd (true≢false (sym e))

pub joined_is : (held : ℕ) (last : Option Last) (buf : List ℕ) → ended held last ≡ true → joined (marked held last buf) ≡ front (full_length held last) buf
unfolding joined
joined_is held None buf h = endless held buf 8 0
joined_is held (Some e) buf h =
    let f = end held e h in
    ends held e buf e.number 8 0 (omega arith) f.number
    ∙ full held e buf (eqb held (255 / 2 ^ (7 - e.number))) (got held e.number 0) (256 * e.number + e.length) (full_bits held e.number (held_small held (Some e) h) f.number f.high)
