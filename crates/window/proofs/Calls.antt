-- What the calls of a window come to, once it is known whether the store fits.
use Rattle.std.proofs.Common.{◌≡◌, ℕ, true, false, List, Some, Ok, Err, sym, refl, ap, ◌∙◌, ⊎_elim}
use Rattle.std.proofs.lemmas.Bool.{cases_Bool, cond-true, cond-false, both_ways}
use Rattle.window.specs.declared.answers.StoreRefusal.TheVariants.{WrongLength}
use Rattle.window.specs.Numbers.{Numbers, Within, free, put, stored, lookup}
use Rattle.window.specs.Calls.{fits, put_answer, put_numbers, put_store, found, done}
use Rattle.window.proofs.Laws.{put_anchor, put_width, lookup_put_same, lookup_put_other}

module _ (w : Numbers) {T : Type 0} (xs : List T) where
  pub answer_fit : (n : ℕ) → fits w xs ≡ true → put_answer w xs n ≡ Ok (free w n)
  answer_fit n f = cond-true (fits w xs) _ _ f

  pub answer_unfit : (n : ℕ) → fits w xs ≡ false → put_answer w xs n ≡ Err WrongLength
  answer_unfit n f = cond-false (fits w xs) _ _ f

  pub numbers_fit : (n : ℕ) → fits w xs ≡ true → put_numbers w xs n ≡ put w n
  numbers_fit n f = cond-true (fits w xs) _ _ f

  pub numbers_unfit : (n : ℕ) → fits w xs ≡ false → put_numbers w xs n ≡ w
  numbers_unfit n f = cond-false (fits w xs) _ _ f

  pub store_fit : (n : ℕ) (x : T) → fits w xs ≡ true → put_store w xs n x ≡ stored w xs n x
  store_fit n x f = cond-true (fits w xs) _ _ f

  pub store_unfit : (n : ℕ) (x : T) → fits w xs ≡ false → put_store w xs n x ≡ xs
  store_unfit n x f = cond-false (fits w xs) _ _ f

  pub found_fit : (n : ℕ) → fits w xs ≡ true → found w xs n ≡ Ok (lookup w xs n)
  found_fit n f = cond-true (fits w xs) _ _ f

  pub found_unfit : (n : ℕ) → fits w xs ≡ false → found w xs n ≡ Err WrongLength
  found_unfit n f = cond-false (fits w xs) _ _ f

  -- a put is done only over a store that fits, and under a free number
  pub put_done : (n : ℕ) → put_answer w xs n ≡ Ok true → (fits w xs ≡ true) × (free w n ≡ true)
  put_done n e =
      ⊎_elim
      (λ f. (f, ap done (sym (answer_fit n f) ∙ e)))
      (λ f. absurd (both_ways false refl (ap done (sym (answer_unfit n f) ∙ e))))
      (cases_Bool (fits w xs))

  pub put_numbers_anchor : (n : ℕ) → (put_numbers w xs n).anchor ≡ w.anchor
  put_numbers_anchor n = ⊎_elim (λ f. ap (λ v. v.anchor) (numbers_fit n f) ∙ put_anchor w n) (λ f. ap (λ v. v.anchor) (numbers_unfit n f)) (cases_Bool (fits w xs))

  pub put_numbers_width : (n : ℕ) → (put_numbers w xs n).width ≡ w.width
  put_numbers_width n = ⊎_elim (λ f. ap (λ v. v.width) (numbers_fit n f) ∙ put_width w n) (λ f. ap (λ v. v.width) (numbers_unfit n f)) (cases_Bool (fits w xs))

  -- after a put that is done its element is found under its number, and under every other what was there
  pub found_same : (n : ℕ) (x : T) → put_answer w xs n ≡ Ok true → lookup (put_numbers w xs n) (put_store w xs n x) n ≡ Some x
  found_same n x e =
      let p = put_done n e in
      ap (λ v. lookup v (put_store w xs n x) n) (numbers_fit n p.0) ∙ ap (λ ys. lookup (put w n) ys n) (store_fit n x p.0) ∙ lookup_put_same w xs n x p.0 p.1

  pub found_other : (n : ℕ) (x : T) (m : ℕ) → Within w → (m ≡ n → ⊥) → lookup (put_numbers w xs n) (put_store w xs n x) m ≡ lookup w xs m
  found_other n x m ok ne =
      ⊎_elim
      (λ f. ap (λ v. lookup v (put_store w xs n x) m) (numbers_fit n f) ∙ ap (λ ys. lookup (put w n) ys m) (store_fit n x f) ∙ lookup_put_other w xs n x m ok ne)
      (λ f. ap (λ v. lookup v (put_store w xs n x) m) (numbers_unfit n f) ∙ ap (λ ys. lookup w ys m) (store_unfit n x f))
      (cases_Bool (fits w xs))
