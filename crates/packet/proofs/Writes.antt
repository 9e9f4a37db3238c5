-- What a writer has added after several parts.
use Rattle.std.proofs.Common.{◌≡◌, ℕ, List, [], ◌++◌, length, drop, sym, ap, ◌∙◌, subst, append_assoc, arith}
use Rattle.std.proofs.lemmas.List.{drop-drop, length-append, take-append-drop}
use Rattle.packet.specs.declared.bytes.Writer.{Writer}
use Rattle.packet.specs.Writes.{written, rest, Adds}

-- one part behind another
pub adds_more : {u v w : Writer} {p q : List ℕ} → Adds u p v → Adds v q w → Adds u (p ++ q) w
adds_more {u} {v} {w} {p} {q} a b = record {
  buffer = b.buffer ∙ a.buffer;
  behind = b.behind ∙ ap (λ z. z ++ q) a.behind ∙ append_assoc (written u) p q;
  left = b.left ∙ ap (drop (length q)) a.left ∙ drop-drop (length q) (length p) (rest u) ∙ ap (λ k. drop k (rest u)) (sym (length-append p q));
  room = omega (arith, length-append p q, a.room, b.room);
}

-- the same part, otherwise spelled
pub adds_same : {u v : Writer} {p q : List ℕ} → p ≡ q → Adds u p v → Adds u q v
adds_same {u} {v} e = subst (λ z. Adds u z v) e

-- what is written by a writer that began at the front, and its buffer
pub wrote : {u v : Writer} {p : List ℕ} → written u ≡ [] → Adds u p v → written v ≡ p
wrote {u} {v} {p} none a = a.behind ∙ ap (λ z. z ++ p) none

pub wrote_into : {u v : Writer} {p o : List ℕ} → (written u ≡ []) × (rest u ≡ o) → Adds u p v → v.out.now ≡ p ++ drop (length p) o
wrote_into {u} {v} {p} {o} new a =
    sym (take-append-drop v.at v.out.now) ∙ ap (λ z. z ++ rest v) (wrote new.0 a) ∙ ap (λ z. p ++ z) (a.left ∙ ap (drop (length p)) new.1)
