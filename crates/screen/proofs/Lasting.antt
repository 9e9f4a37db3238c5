-- A diff that is taken leaves a legal picture.
use Rattle.std.proofs.Common.{◌≡◌, ℕ, zero, suc, ◌+◌, ◌-◌, true, eqb, leb, List, [], ◌∷◌, ◌++◌, length, get_or, take, drop, Some, None, Ok, Err, Option, Result, sym, refl, ap, ◌∙◌, subst, ⊎_elim, arith}
use Rattle.std.proofs.lemmas.Bool.{cond-true, cond-false, cases_Bool, and_parts, and_from, eq-eqb}
use Rattle.state.specs.declared.fault.StateFault.{StateFault}
use Rattle.state.specs.declared.fault.StateFault.TheVariants.{BadRun}
use Rattle.state.specs.Parts.{parts}
use Rattle.screen.specs.Runs.{is_character, all_characters, put, Drawing, position_of, text_of, is_run, run_read, redrawn}
use Rattle.screen.specs.Screen.{Picture, Contents, on_screen, legal, settled, is_cursor, AppliesAsTold}
use Rattle.screen.specs.Legal.{bounds, settled_legal}
use Rattle.screen.specs.Placed.{length_put, characters_take, characters_drop}
use Rattle.screen.proofs.Readers.{good}

-- what each good part keeps is kept by all
module _ {S : Type 0} (step : S → List ℕ → Option (S × ℕ)) (P : S → Type 0) (keeps : (s s' : S) (bs : List ℕ) (n : ℕ) → P s → step s bs ≡ Some (s', n) → P s') where
  parts_keep : (s : S) (at rest : ℕ) (bs : List ℕ) (s' : S) → P s → parts step s at rest bs ≡ Ok s' → P s'
  parts_keep s at zero [] s' p e = let q : s ≡ s' = cc in subst P q p
  parts_keep s at (suc rest) [] s' p e = let q : s ≡ s' = cc in subst P q p
  parts_keep s at (suc rest) (b ∷ bs) s' p e = parts_keep s (at + 1) rest bs s' p e
  parts_keep s at zero (b ∷ bs) s' p e =
      let on : Option (S × ℕ) → Result S ℕ = λ o. elim o [ None ↦ Err at | Some x ↦ parts step x.0 (at + 1) (x.1 - 1) bs ] in
      (elim (step s (b ∷ bs)) as (λ o. step s (b ∷ bs) ≡ o → on o ≡ Ok s' → P s') [
        | None ↦ λ q h. cc
        | Some x ↦ λ q h. parts_keep x.0 (at + 1) (x.1 - 1) bs s' (keeps s x.0 (b ∷ bs) x.1 p q) h
      ]) refl e

abbrev Whole : List ℕ → Type 0
Whole cells = (length cells ≡ 320) × (all_characters cells ≡ true)

characters_append : (xs ys : List ℕ) → all_characters xs ≡ true → all_characters ys ≡ true → all_characters (xs ++ ys) ≡ true
characters_append [] ys p q = q
characters_append (x ∷ xs) ys p q =
    let a = and_parts (is_character x) (all_characters xs) p in
    and_from (is_character x) (all_characters (xs ++ ys)) a.0 (characters_append xs ys a.1 q)

run_keeps : (s s' : Drawing) (bs : List ℕ) (n : ℕ) → Whole s.cells → run_read s bs ≡ Some (s', n) → Whole s'.cells
run_keeps s s' bs n w e =
    let after : Drawing = record { cells = put s.cells (position_of bs) (text_of bs); free = position_of bs + get_or bs 2 0 } in
    let kept : Drawing → Type 0 = λ x. Whole x.cells in
    ⊎_elim
    (λ h.
    let g = good s.free bs h in
    let told : run_read s bs ≡ Some (after, 3 + get_or bs 2 0) = cond-true (is_run s.free bs) _ _ h in
    let pair : ◌≡◌ {A = Drawing × ℕ} (after, 3 + get_or bs 2 0) (s', n) = cc in
    let same : after ≡ s' = ap (λ (x : Drawing × ℕ). x.0) pair in
    subst kept same (
      length_put s.cells (position_of bs) (text_of bs) (omega (arith, g.inside, g.count, w.0)) ∙ w.0,
      characters_append (take (position_of bs) s.cells) (text_of bs ++ drop (position_of bs + length (text_of bs)) s.cells)
          (characters_take (position_of bs) s.cells w.1)
          (characters_append (text_of bs) (drop (position_of bs + length (text_of bs)) s.cells) g.characters (characters_drop (position_of bs + length (text_of bs)) s.cells w.1)),
    ))
    (λ h. let none : run_read s bs ≡ None = cond-false (is_run s.free bs) _ _ h in cc)
    (cases_Bool (is_run s.free bs))

redrawn_keeps : (cells d after : List ℕ) → Whole cells → redrawn cells d ≡ Ok after → Whole after
redrawn_keeps cells d after w e =
    let first : Drawing = record { cells = cells; free = 0 } in
    let told : Result Drawing ℕ → Result (List ℕ) StateFault = λ r. elim r [ Ok s ↦ Ok s.cells | Err at ↦ Err (BadRun at) ] in
    (elim (parts run_read first 2 0 (drop 2 d)) as (λ r. parts run_read first 2 0 (drop 2 d) ≡ r → told r ≡ Ok after → Whole after) [
      | Ok s ↦ λ q h. let same : s.cells ≡ after = cc in subst Whole same (parts_keep run_read (λ x. Whole x.cells) run_keeps first 2 0 (drop 2 d) s w q)
      | Err at ↦ λ q h. cc
    ]) refl e

pub applies_as_told : AppliesAsTold
applies_as_told c d c' e =
    let p : List ℕ → Picture = λ cells. record { cells = cells; row = get_or d 0 0; column = get_or d 1 0 } in
    let whole : Result (List ℕ) StateFault → Result Contents StateFault = λ r. elim r [ Ok cells ↦ Ok (settled (p cells)) | Err f ↦ Err f ] in
    let ok : List ℕ → Result (List ℕ) StateFault = λ xs. Ok xs in
    let b = bounds c.0 c.1 in
    ⊎_elim
    (λ h.
    (elim (redrawn c.0.cells d) as (λ r. redrawn c.0.cells d ≡ r → whole r ≡ Ok c' → (redrawn c.0.cells d ≡ Ok c'.0.cells) × (c'.0.row ≡ get_or d 0 0) × (c'.0.column ≡ get_or d 1 0)) [
      | Ok cells ↦ λ q k.
          let w = redrawn_keeps c.0.cells d cells (b.size, b.characters) q in
          let fine : legal (p cells) ≡ true = and_from (eqb (length cells) 320) _ (eq-eqb _ 320 w.0) (and_from (all_characters cells) _ w.1 (and_parts (leb 2 (length d)) (on_screen (get_or d 0 0) (get_or d 1 0)) h).1) in
          let is : settled (p cells) ≡ c' = cc in
          let same : c'.0 ≡ p cells = ap (λ (x : Contents). x.0) (sym is) ∙ settled_legal (p cells) fine in
          (q ∙ ap ok (sym (ap (λ (x : Picture). x.cells) same)), ap (λ (x : Picture). x.row) same, ap (λ (x : Picture). x.column) same)
      | Err f ↦ λ q k. cc
    ]) refl (sym (cond-true (is_cursor d) (whole (redrawn c.0.cells d)) (Err (BadRun 0)) h) ∙ e))
    (λ h. let none = cond-false (is_cursor d) (whole (redrawn c.0.cells d)) (Err (BadRun 0)) h in cc)
    (cases_Bool (is_cursor d))
