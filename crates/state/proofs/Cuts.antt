-- How bytes are read part by part: what the end, a good part and a bad part come to.
use Rattle.std.proofs.Common.{◌≡◌, ℕ, zero, suc, ◌+◌, ◌-◌, ◌<◌, ◌≤◌, List, [], ◌∷◌, length, drop, Some, None, Err, Option, Result, ap, ◌∙◌, arith}
use Rattle.state.specs.Parts.{parts}

module _ {S : Type 0} (step : S → List ℕ → Option (S × ℕ)) where
  -- the rest of a part is passed over
  passed : (s : S) (at rest : ℕ) (bs : List ℕ) → rest ≤ length bs → parts step s at rest bs ≡ parts step s (at + rest) 0 (drop rest bs)
  passed s at zero bs h = ap (λ n. parts step s n 0 bs) (omega arith)
  passed s at (suc rest) [] h = absurd (omega arith)
  passed s at (suc rest) (b ∷ bs) h = passed s (at + 1) rest bs (omega arith) ∙ ap (λ n. parts step s n 0 (drop rest bs)) (omega arith)

  pub parts_good : (s s' : S) (at n : ℕ) (bs : List ℕ) → 0 < n → n ≤ length bs → step s bs ≡ Some (s', n) → parts step s at 0 bs ≡ parts step s' (at + n) 0 (drop n bs)
  parts_good s s' at n [] pos fits e = absurd (omega arith)
  parts_good s s' at zero (b ∷ bs) pos fits e = absurd (omega arith)
  parts_good s s' at (suc n) (b ∷ bs) pos fits e =
      let on : Option (S × ℕ) → Result S ℕ = λ o. elim o [ None ↦ Err at | Some p ↦ parts step p.0 (at + 1) (p.1 - 1) bs ] in
      ap on e ∙ ap (λ k. parts step s' (at + 1) k bs) (omega arith) ∙ passed s' (at + 1) n bs (omega arith) ∙ ap (λ k. parts step s' k 0 (drop n bs)) (omega arith)

  pub parts_bad : (s : S) (at : ℕ) (bs : List ℕ) → 0 < length bs → step s bs ≡ None → parts step s at 0 bs ≡ Err at
  parts_bad s at [] pos e = absurd (omega arith)
  parts_bad s at (b ∷ bs) pos e =
      let on : Option (S × ℕ) → Result S ℕ = λ o. elim o [ None ↦ Err at | Some p ↦ parts step p.0 (at + 1) (p.1 - 1) bs ] in
      ap on e
