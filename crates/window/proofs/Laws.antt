-- The laws of puts, raises and look-ups.
use Rattle.std.proofs.Common.{◌≡◌, ℕ, zero, suc, ◌+◌, ◌-◌, ◌*◌, ◌/◌, ◌%◌, ◌<◌, ◌≤◌, Bool, true, false, cond, not, ◌&&◌, ◌||◌, eqb, ltb, leb, List, [], ◌∷◌, map, length, set, Some, None, Option, option_map, option_and_then, sym, refl, ap, ◌∙◌, subst, ⊎_elim, mod-lt, mul-le-mul_left, mul-add, add-one-le, arith, length-set}
use native.Mathlib.Nat.{div-add-mod}
use Rattle.std.specs.List.{slice_get}
use Rattle.std.proofs.Math.Bool.{or-false}
use Rattle.std.proofs.lemmas.List.{get_or-set_same, map-set}
use Rattle.std.proofs.lemmas.Option.{slice_get-get_or, slice_get-map, slice_get_cases}
use Rattle.std.proofs.lemmas.Bool.{cases_order, cases_lt, cases_Bool, cond-true, cond-false, and_parts, and_from, or_cases, or_right, eq-eqb, ne_eqb, eqb-true, leb-true, ltb-true, le-leb, lt-ltb, both_ways}
use Rattle.window.specs.declared.table.NumberTable.{NumberTable}
use Rattle.window.specs.Numbers.{Numbers, recorded, marked, empty, Within, inside, free, place, adding, put, stored, starting_at, above, raise, lookup}
use Rattle.window.specs.Calls.{fits}
use Rattle.window.specs.Laws.{AllWithin, Lookups}
use Rattle.window.proofs.Marks.{beyond}

pub within_recorded : (t : NumberTable) → Within (recorded t)
within_recorded t n h =
    let p = and_parts (leb t.anchor n) (marked t.marks (n - t.anchor)) h in
    let low = leb-true t.anchor n p.0 in
    (low, ⊎_elim (λ (i : n < t.anchor + t.width). i) (λ (i : t.anchor + t.width ≤ n). absurd (both_ways _ (beyond t.marks t.width (n - t.anchor) t.within.2 (omega arith)) p.1)) (cases_lt n (t.anchor + t.width)))

pub all_within : AllWithin
all_within w = within_recorded w.table

pub inside_parts : (w : Numbers) (n : ℕ) → inside w n ≡ true → (w.anchor ≤ n) × (n < w.anchor + w.width)
inside_parts w n h =
    let p = and_parts (leb w.anchor n) (ltb n (w.anchor + w.width)) h in
    (leb-true w.anchor n p.0, ltb-true n (w.anchor + w.width) p.1)

pub inside_from : (w : Numbers) (n : ℕ) → w.anchor ≤ n → n < w.anchor + w.width → inside w n ≡ true
inside_from w n a b = and_from (leb w.anchor n) (ltb n (w.anchor + w.width)) (le-leb _ _ a) (lt-ltb _ _ b)

pub free_inside : (w : Numbers) (n : ℕ) → free w n ≡ true → inside w n ≡ true
free_inside w n h = (and_parts (inside w n) (not (w.held n)) h).0

-- two numbers of one window that lie at one place are one
one_place : (a w m n : ℕ) → a ≤ m → m < a + w → a ≤ n → n < a + w → m % w ≡ n % w → m ≡ n
one_place a w m n p q r s e =
    let f = div-add-mod m w in
    let g = div-add-mod n w in
    ⊎_elim
    (λ (h : m / w ≡ n / w). omega (arith, f, g, e, ap (λ x. w * x) h))
    (⊎_elim
    (λ (h : m / w < n / w). absurd (omega (arith, f, g, e, mul-le-mul_left w (add-one-le h), mul-add w (m / w) 1)))
    (λ (h : n / w < m / w). absurd (omega (arith, f, g, e, mul-le-mul_left w (add-one-le h), mul-add w (n / w) 1))))
    (cases_order (m / w) (n / w))

pub places_apart : (w : Numbers) (m n : ℕ) → inside w m ≡ true → inside w n ≡ true → place w m ≡ place w n → m ≡ n
places_apart w m n p q e =
    let a = inside_parts w m p in
    let b = inside_parts w n q in
    one_place w.anchor w.width m n a.0 a.1 b.0 b.1 e

pub place_below : (w : Numbers) (n : ℕ) → inside w n ≡ true → place w n < w.width
place_below w n h = let a = inside_parts w n h in mod-lt n (omega arith)

module _ {T : Type 0} where
  nth_set_same : (xs : List T) (p : ℕ) (x : T) → p < length xs → slice_get (set xs p x) p ≡ Some x
  nth_set_same xs p x h = slice_get-get_or (set xs p x) p x (omega (arith, length-set xs p x)) ∙ ap (λ y. Some y) (get_or-set_same xs p x x h)

  nth_set_other : (xs : List T) (p q : ℕ) (x : T) → (q ≡ p → ⊥) → slice_get (set xs p x) q ≡ slice_get xs q
  nth_set_other [] p q x ne = refl
  nth_set_other (y ∷ xs) zero zero x ne = absurd (ne refl)
  nth_set_other (y ∷ xs) zero (suc q) x ne = refl
  nth_set_other (y ∷ xs) (suc p) zero x ne = refl
  nth_set_other (y ∷ xs) (suc p) (suc q) x ne = nth_set_other xs p q x (λ e. ne (ap suc e))

  -- a look-up, once it is known whether the number is held
  abbrev looked : (w : Numbers) (xs : List T) (n : ℕ) → Bool → Option T
  looked w xs n b = option_and_then (slice_get xs) (cond b (Some (place w n)) None)

  pub lookup_held : (w : Numbers) (xs : List T) (n : ℕ) → w.held n ≡ true → lookup w xs n ≡ slice_get xs (place w n)
  lookup_held w xs n h = ap (looked w xs n) h

  pub lookup_missing : (w : Numbers) (xs : List T) (n : ℕ) → w.held n ≡ false → lookup w xs n ≡ None
  lookup_missing w xs n h = ap (looked w xs n) h

  -- a store that is as long as the window is wide has an element under each number held
  pub lookup_some : (w : Numbers) (xs : List T) (n : ℕ) → Within w → fits w xs ≡ true → w.held n ≡ true → (x : T) × (slice_get xs (place w n) ≡ Some x) × (lookup w xs n ≡ Some x)
  lookup_some w xs n ok fit h =
      let i = ok n h in
      let room : place w n < length xs = omega (arith, place_below w n (inside_from w n i.0 i.1), eqb-true (length xs) w.width fit) in
      ⊎_elim (λ s. (s.0, s.2, lookup_held w xs n h ∙ s.2)) (λ past. absurd (omega (arith, past.0, room))) (slice_get_cases xs (place w n)).1

-- what a put and a raise leave, by cases
module _ (w : Numbers) where
  pub put_yes : (n : ℕ) → free w n ≡ true → put w n ≡ adding w n
  put_yes n f = cond-true (free w n) (adding w n) w f

  pub put_no : (n : ℕ) → free w n ≡ false → put w n ≡ w
  put_no n f = cond-false (free w n) (adding w n) w f

  pub raise_yes : (to : ℕ) → above w to ≡ true → raise w to ≡ starting_at w to
  raise_yes to up = cond-true (above w to) (starting_at w to) w up

  pub raise_no : (to : ℕ) → above w to ≡ false → raise w to ≡ w
  raise_no to up = cond-false (above w to) (starting_at w to) w up

  pub put_anchor : (n : ℕ) → (put w n).anchor ≡ w.anchor
  put_anchor n = ⊎_elim (λ f. ap (λ v. v.anchor) (put_yes n f)) (λ f. ap (λ v. v.anchor) (put_no n f)) (cases_Bool (free w n))

  pub put_width : (n : ℕ) → (put w n).width ≡ w.width
  put_width n = ⊎_elim (λ f. ap (λ v. v.width) (put_yes n f)) (λ f. ap (λ v. v.width) (put_no n f)) (cases_Bool (free w n))

  pub raise_width : (to : ℕ) → (raise w to).width ≡ w.width
  raise_width to = ⊎_elim (λ f. ap (λ v. v.width) (raise_yes to f)) (λ f. ap (λ v. v.width) (raise_no to f)) (cases_Bool (above w to))

  -- a put holds nothing else anew
  pub put_other : (n m : ℕ) → (m ≡ n → ⊥) → (put w n).held m ≡ w.held m
  put_other n m ne = ⊎_elim (λ f. ap (λ v. v.held m) (put_yes n f) ∙ ap (λ b. w.held m || b) (ne_eqb m n ne) ∙ or-false (w.held m)) (λ f. ap (λ v. v.held m) (put_no n f)) (cases_Bool (free w n))

  pub put_same : (n : ℕ) → free w n ≡ true → (put w n).held n ≡ true
  put_same n f = ap (λ v. v.held n) (put_yes n f) ∙ or_right (w.held n) (eqb n n) (eq-eqb n n refl)

  pub within_put : (n : ℕ) → Within w → Within (put w n)
  within_put n ok m h = ⊎_elim yes' (λ f. at (put_no n f) (ok m (ap (λ v. v.held m) (sym (put_no n f)) ∙ h))) (cases_Bool (free w n))
    where
      at : {v : Numbers} → put w n ≡ v → (v.anchor ≤ m) × (m < v.anchor + v.width) → ((put w n).anchor ≤ m) × (m < (put w n).anchor + (put w n).width)
      at e p = subst (λ v. (v.anchor ≤ m) × (m < v.anchor + v.width)) (sym e) p

      yes' : free w n ≡ true → ((put w n).anchor ≤ m) × (m < (put w n).anchor + (put w n).width)
      yes' f = at (put_yes n f) (⊎_elim (λ k. ok m k) (λ k. let e = eqb-true m n k in subst (λ x. (w.anchor ≤ x) × (x < w.anchor + w.width)) (sym e) (inside_parts w n (free_inside w n f))) (or_cases (w.held m) (eqb m n) (ap (λ v. v.held m) (sym (put_yes n f)) ∙ h)))

  pub within_raise : (to : ℕ) → Within w → Within (raise w to)
  within_raise to ok n h = ⊎_elim up' (λ f. at (raise_no to f) (ok n (ap (λ v. v.held n) (sym (raise_no to f)) ∙ h))) (cases_Bool (above w to))
    where
      at : {v : Numbers} → raise w to ≡ v → (v.anchor ≤ n) × (n < v.anchor + v.width) → ((raise w to).anchor ≤ n) × (n < (raise w to).anchor + (raise w to).width)
      at e p = subst (λ v. (v.anchor ≤ n) × (n < v.anchor + v.width)) (sym e) p

      up' : above w to ≡ true → ((raise w to).anchor ≤ n) × (n < (raise w to).anchor + (raise w to).width)
      up' f =
          let p = and_parts (leb to n) (w.held n) (ap (λ v. v.held n) (sym (raise_yes to f)) ∙ h) in
          let low = leb-true to n p.0 in
          let old = ok n p.1 in
          let up = leb-true w.anchor to f in
          at (raise_yes to f) (low, omega arith)

pub within_empty : (k : ℕ) → Within (empty k)
within_empty k n h = absurd (both_ways false refl h)

module _ {T : Type 0} (w : Numbers) (xs : List T) where
  pub stored_yes : (n : ℕ) (x : T) → free w n ≡ true → stored w xs n x ≡ set xs (place w n) x
  stored_yes n x f = cond-true (free w n) _ _ f

  pub stored_no : (n : ℕ) (x : T) → free w n ≡ false → stored w xs n x ≡ xs
  stored_no n x f = cond-false (free w n) _ _ f

  pub length_stored : (n : ℕ) (x : T) → length (stored w xs n x) ≡ length xs
  length_stored n x = ⊎_elim (λ f. ap length (stored_yes n x f) ∙ simp length-set) (λ f. ap length (stored_no n x f)) (cases_Bool (free w n))

  pub lookup_put_same : (n : ℕ) (x : T) → fits w xs ≡ true → free w n ≡ true → lookup (put w n) (stored w xs n x) n ≡ Some x
  lookup_put_same n x fit f =
      let room : place w n < length xs = omega (arith, place_below w n (free_inside w n f), eqb-true (length xs) w.width fit) in
      ap (λ v. lookup v (stored w xs n x) n) (put_yes w n f)
      ∙ ap (λ ys. lookup (adding w n) ys n) (stored_yes n x f)
      ∙ lookup_held (adding w n) (set xs (place w n) x) n (or_right (w.held n) (eqb n n) (eq-eqb n n refl))
      ∙ nth_set_same xs (place w n) x room

  pub lookup_put_other : (n : ℕ) (x : T) (m : ℕ) → Within w → (m ≡ n → ⊥) → lookup (put w n) (stored w xs n x) m ≡ lookup w xs m
  lookup_put_other n x m ok ne = ⊎_elim yes' (λ f. ap (λ v. lookup v (stored w xs n x) m) (put_no w n f) ∙ ap (λ ys. lookup w ys m) (stored_no n x f)) (cases_Bool (free w n))
    where
      yes' : free w n ≡ true → lookup (put w n) (stored w xs n x) m ≡ lookup w xs m
      yes' f =
          let e = ap (λ v. lookup v (stored w xs n x) m) (put_yes w n f) ∙ ap (λ ys. lookup (adding w n) ys m) (stored_yes n x f) in
          let same : (adding w n).held m ≡ w.held m = ap (λ v. v.held m) (sym (put_yes w n f)) ∙ put_other w n m ne in
          e ∙ ⊎_elim
          (λ h.
          let i = ok m h in
          lookup_held (adding w n) (set xs (place w n) x) m (same ∙ h)
          ∙ nth_set_other xs (place w n) (place w m) x (λ p. ne (places_apart w m n (inside_from w m i.0 i.1) (free_inside w n f) p))
          ∙ sym (lookup_held w xs m h))
          (λ h. lookup_missing (adding w n) (set xs (place w n) x) m (same ∙ h) ∙ sym (lookup_missing w xs m h))
          (cases_Bool (w.held m))

  pub lookup_raise : (to n : ℕ) → above w to ≡ true → lookup (raise w to) xs n ≡ cond (leb to n) (lookup w xs n) None
  lookup_raise to n up =
      let on : Bool → Option T = λ b. option_and_then (slice_get xs) (cond (b && w.held n) (Some (place w n)) None) in
      ap (λ v. lookup v xs n) (raise_yes w to up)
      ∙ ⊎_elim (λ h. ap on h ∙ sym (cond-true (leb to n) _ _ h)) (λ h. ap on h ∙ sym (cond-false (leb to n) _ _ h)) (cases_Bool (leb to n))

-- look-ups and puts in a store of readings of the elements
module _ {S T : Type 0} (f : S → T) where
  pub lookup_map : (w : Numbers) (xs : List S) (n : ℕ) → lookup w (map f xs) n ≡ option_map f (lookup w xs n)
  lookup_map w xs n =
      ⊎_elim
      (λ h. lookup_held w (map f xs) n h ∙ slice_get-map f xs (place w n) ∙ ap (option_map f) (sym (lookup_held w xs n h)))
      (λ h. lookup_missing w (map f xs) n h ∙ ap (option_map f) (sym (lookup_missing w xs n h)))
      (cases_Bool (w.held n))

  pub stored_map : (w : Numbers) (xs : List S) (n : ℕ) (x : S) → map f (stored w xs n x) ≡ stored w (map f xs) n (f x)
  stored_map w xs n x =
      ⊎_elim
      (λ h. ap (map f) (stored_yes w xs n x h) ∙ map-set f xs (place w n) x ∙ sym (stored_yes w (map f xs) n (f x) h))
      (λ h. ap (map f) (stored_no w xs n x h) ∙ sym (stored_no w (map f xs) n (f x) h))
      (cases_Bool (free w n))

pub all_lookups : (T : Type 0) → Lookups T
all_lookups T = record {
  apart = places_apart;
  same = lookup_put_same;
  other = lookup_put_other;
  onward = lookup_raise;
}
