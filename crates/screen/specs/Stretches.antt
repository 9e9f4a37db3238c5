-- Laws of runs: where one begins, how long it is, and what stands behind it.
use Rattle.std.specs.Prelude.{◌≡◌, ℕ, zero, suc, ◌+◌, ◌-◌, ◌*◌, ◌%◌, ◌<◌, ◌≤◌, Bool, true, false, not, ◌&&◌, List, [], ◌∷◌, ◌++◌, length, take, drop, ◌==◌, ◌≢◌, slice_index}
use Rattle.std.specs.List.{concat, sum_by}
use Rattle.std.proofs.Math.Path.{refl, sym, ap}
use Rattle.std.proofs.Common.{◌∙◌, append_assoc, ⊎_elim}
use native.Mathlib.Omega.{arith}
use Rattle.std.proofs.lemmas.List.{length-append, length-take}
use Rattle.std.proofs.lemmas.List.Concat.{concat_is, length-flat_map}
use Rattle.std.proofs.lemmas.Bool.{cond-true, cond-false, cond_both, cases_Bool, and_left, and_right, or_left, or_right, or_from, not_from_true, not_from_false, eq-eqb, ne_eqb, cases_eq, cases_lt}
use Rattle.screen.specs.Runs.{differ, begins, differing, run_length, run_bytes, run_at, runs_from, runs_listed}

module _ (b t : List ℕ) where
  pub differ_yes : (i : ℕ) → (slice_index b i ≢ slice_index t i) → differ b t i ≡ true
  differ_yes i h = not_from_false (slice_index b i == slice_index t i) (ne_eqb _ _ h)

  pub differ_no : (i : ℕ) → slice_index b i ≡ slice_index t i → differ b t i ≡ false
  differ_no i h = not_from_true (slice_index b i == slice_index t i) (eq-eqb _ _ h)

  -- a stretch of differing cells, by cases of its first cell
  pub differing_none : (i n : ℕ) → differ b t i ≡ false → differing b t i n ≡ 0
  differing_none i zero e = refl
  differing_none i (suc n) e = cond-false (differ b t i) _ _ e

  pub differing_some : (i n : ℕ) → differ b t i ≡ true → 0 < n → differing b t i n ≡ 1 + differing b t (i + 1) (n - 1)
  differing_some i zero e h = absurd (omega arith)
  differing_some i (suc n) e h = cond-true (differ b t i) _ _ e ∙ ap (λ m. 1 + differing b t (i + 1) m) (omega arith)

  -- a stretch of none begins with equal cells
  pub differing_zero : (i n : ℕ) → 0 < n → differing b t i n ≡ 0 → differ b t i ≡ false
  differing_zero i n h e = ⊎_elim (λ d. absurd (omega (arith, differing_some i n d h))) (λ d. d) (cases_Bool (differ b t i))

  pub differing_le : (i n : ℕ) → differing b t i n ≤ n
  differing_le i zero = omega arith
  differing_le i (suc n) =
      ⊎_elim
      (λ e. omega (arith, differing_some i (suc n) e (omega arith), ap (differing b t (i + 1)) (sub_1 n), differing_le (i + 1) n))
      (λ e. omega (arith, differing_none i (suc n) e))
      (cases_Bool (differ b t i))
    where
      sub_1 : (n : ℕ) → suc n - 1 ≡ n
      sub_1 n = omega arith

  -- every cell of a stretch differs
  pub differing_each : (i n x : ℕ) → i ≤ x → x < i + differing b t i n → differ b t x ≡ true
  differing_each i zero x h k = absurd (omega arith)
  differing_each i (suc n) x h k =
      ⊎_elim
      (λ e. ⊎_elim
      (λ (q : i ≡ x). ap (differ b t) (sym q) ∙ e)
      (λ q. differing_each (i + 1) n x (omega (arith, q)) (omega (arith, cond-true (differ b t i) (1 + differing b t (i + 1) n) 0 e)))
      (cases_eq i x))
      (λ e. absurd (omega (arith, differing_none i (suc n) e)))
      (cases_Bool (differ b t i))

  -- a stretch shorter than it might be ends before equal cells
  pub differing_end : (i n : ℕ) → differing b t i n < n → differ b t (i + differing b t i n) ≡ false
  differing_end i zero h = absurd (omega arith)
  differing_end i (suc n) h =
      ⊎_elim
      (λ e. let s : differing b t i (suc n) ≡ 1 + differing b t (i + 1) n = cond-true (differ b t i) (1 + differing b t (i + 1) n) 0 e in
      let at : i + differing b t i (suc n) ≡ i + 1 + differing b t (i + 1) n = omega (arith, s) in
      ap (differ b t) at ∙ differing_end (i + 1) n (omega (arith, s)))
      (λ e. let at : i + differing b t i (suc n) ≡ i = omega (arith, differing_none i (suc n) e) in ap (differ b t) at ∙ e)
      (cases_Bool (differ b t i))

  -- where cells are equal no run begins
  pub begins_none : (i : ℕ) → differ b t i ≡ false → begins b t i ≡ false
  begins_none i e = and_left (differ b t i) _ e

  -- nor inside a run
  pub begins_inside : (i : ℕ) → (i % 40 ≢ 0) → differ b t (i - 1) ≡ true → begins b t i ≡ false
  begins_inside i h e = and_right (differ b t i) _ (or_from (i % 40 == 0) (not (differ b t (i - 1))) (ne_eqb (i % 40) 0 h) (not_from_true (differ b t (i - 1)) e))

  and_true : (x y : Bool) → y ≡ true → (x && y) ≡ x
  and_true true true e = refl
  and_true false y e = refl
  and_true true false e = e

  -- at the first cell of a row, and behind equal cells, one begins just where cells differ
  pub begins_row : (i : ℕ) → i % 40 ≡ 0 → begins b t i ≡ differ b t i
  begins_row i h = and_true (differ b t i) _ (or_left (i % 40 == 0) (not (differ b t (i - 1))) (eq-eqb (i % 40) 0 h))

  pub begins_after : (i : ℕ) → differ b t i ≡ false → begins b t (i + 1) ≡ differ b t (i + 1)
  begins_after i e =
      let at : i + 1 - 1 ≡ i = omega arith in
      and_true (differ b t (i + 1)) _ (or_right ((i + 1) % 40 == 0) (not (differ b t (i + 1 - 1))) (not_from_false (differ b t (i + 1 - 1)) (ap (differ b t) at ∙ e)))

  pub runs_at : {i i' n n' : ℕ} → i ≡ i' → n ≡ n' → runs_from b t i n ≡ runs_from b t i' n'
  runs_at {i} {i'} {n} {n'} p q = ap (λ j. runs_from b t j n) p ∙ ap (runs_from b t i') q

  pub runs_none : (i : ℕ) → runs_from b t i 0 ≡ []
  unfolding runs_from
  runs_none i = refl

  -- positions at which none begins add nothing
  pub runs_quiet : (k i n : ℕ) → k ≤ n → ((x : ℕ) → i ≤ x → x < i + k → begins b t x ≡ false) → runs_from b t i n ≡ runs_from b t (i + k) (n - k)
  unfolding runs_from
  runs_quiet zero i n h q = runs_at (omega arith) (omega arith)
  runs_quiet (suc k) i zero h q = absurd (omega arith)
  runs_quiet (suc k) i (suc n) h q =
      ap (λ r. r ++ runs_from b t (i + 1) n) (cond-false (begins b t i) _ _ (q i (omega arith) (omega arith)))
      ∙ runs_quiet k (i + 1) n (omega arith) (λ x l m. q x (omega arith) (omega arith))
      ∙ runs_at (omega arith) (omega arith)

  -- the runs of the first n positions, and those behind
  pub runs_split : (i n m : ℕ) → runs_from b t i (n + m) ≡ runs_from b t i n ++ runs_from b t (i + n) m
  unfolding runs_from
  runs_split i zero m = runs_at (omega arith) (omega arith)
  runs_split i (suc n) m =
      runs_at {i = i} {i' = i} {n = suc n + m} {n' = suc (n + m)} refl (omega arith)
      ∙ ap (λ r. run_at b t i ++ r) (runs_split (i + 1) n m ∙ ap (λ r. runs_from b t (i + 1) n ++ r) (runs_at (omega arith) refl))
      ∙ sym (append_assoc (run_at b t i) (runs_from b t (i + 1) n) (runs_from b t (i + suc n) m))

  -- a run has at most 43 bytes
  pub run_bytes_lem : (i : ℕ) → length (run_at b t i) ≤ 43
  run_bytes_lem i =
      cond_both (begins b t i) (run_bytes i (take (run_length b t i) (drop i t))) [] (λ r. length r ≤ 43)
      (λ _. omega (arith, differing_le i (40 - i % 40), length-take (run_length b t i) (drop i t)))
      (λ _. omega arith)

  pub runs_bytes : (i n : ℕ) → length (runs_from b t i n) ≤ 43 * n
  unfolding runs_from
  runs_bytes i zero = omega arith
  runs_bytes i (suc n) = omega (arith, length-append (run_at b t i) (runs_from b t (i + 1) n), run_bytes_lem i, runs_bytes (i + 1) n)

  -- a run has a cell and stays in its row
  pub run_short : (i : ℕ) → i % 40 + run_length b t i ≤ 40
  run_short i = omega (arith, differing_le i (40 - i % 40))

  pub run_some : (i : ℕ) → differ b t i ≡ true → 1 ≤ run_length b t i
  run_some i e = omega (arith, differing_some i (40 - i % 40) e (omega arith))

  inside : (i x : ℕ) → differ b t i ≡ true → i + 1 ≤ x → x < i + 1 + (run_length b t i - 1) → begins b t x ≡ false
  inside i x e l h = begins_inside x (λ z. omega (arith, run_short i, run_some i e)) (differing_each i (40 - i % 40) (x - 1) (omega arith) (omega (arith, run_some i e)))

  -- the runs one by one, from an equal position and over as many
  listed_at : {i i' n n' : ℕ} → i ≡ i' → n ≡ n' → runs_listed b t i n ≡ runs_listed b t i' n'
  listed_at {i} {i'} {n} {n'} p q = ap (λ j. runs_listed b t j n) p ∙ ap (runs_listed b t i') q

  pub listed_none : (i n : ℕ) → n ≡ 0 → runs_listed b t i n ≡ []
  unfolding runs_listed
  listed_none i zero e = refl
  listed_none i (suc n) e = absurd (omega arith)

  -- positions at which none begins add none
  pub listed_quiet : (k i n : ℕ) → k ≤ n → ((x : ℕ) → i ≤ x → x < i + k → begins b t x ≡ false) → runs_listed b t i n ≡ runs_listed b t (i + k) (n - k)
  unfolding runs_listed
  listed_quiet zero i n h q = listed_at (omega arith) (omega arith)
  listed_quiet (suc k) i zero h q = absurd (omega arith)
  listed_quiet (suc k) i (suc n) h q =
      cond-false (begins b t i) _ _ (q i (omega arith) (omega arith))
      ∙ listed_quiet k (i + 1) n (omega arith) (λ x l m. q x (omega arith) (omega arith))
      ∙ listed_at (omega arith) (omega arith)

  -- a run, and those that begin behind it
  pub listed_run : (i n : ℕ) → 40 - i % 40 ≤ n → differ b t i ≡ true → begins b t i ≡ true → runs_listed b t i n ≡ run_bytes i (take (run_length b t i) (drop i t)) ∷ runs_listed b t (i + run_length b t i) (n - run_length b t i)
  unfolding runs_listed
  listed_run i zero room e here = absurd (omega arith)
  listed_run i (suc n) room e here =
      let some = run_some i e in
      let short = run_short i in
      cond-true (begins b t i) _ _ here
      ∙ ap (λ r. r ∷ runs_listed b t (i + 1) n) (cond-true (begins b t i) _ _ here)
      ∙ ap (λ r. run_bytes i (take (run_length b t i) (drop i t)) ∷ r)
      (listed_quiet (run_length b t i - 1) (i + 1) n (omega arith) (λ x. inside i x e) ∙ listed_at (omega arith) (omega arith))

  -- their bytes, joined
  pub listed_joined : (i n : ℕ) → concat (runs_listed b t i n) ≡ runs_from b t i n
  unfolding runs_from runs_listed
  listed_joined i zero = refl
  listed_joined i (suc n) =
      ⊎_elim
      (λ e. ap concat (cond-true (begins b t i) (run_at b t i ∷ runs_listed b t (i + 1) n) _ e) ∙ ap (λ r. run_at b t i ++ r) (listed_joined (i + 1) n))
      (λ e. ap concat (cond-false (begins b t i) _ (runs_listed b t (i + 1) n) e) ∙ listed_joined (i + 1) n ∙ ap (λ r. r ++ runs_from b t (i + 1) n) (sym (cond-false (begins b t i) _ _ e)))
      (cases_Bool (begins b t i))

  pub listed_length : (i n : ℕ) → sum_by (λ (xs : List ℕ). length xs) (runs_listed b t i n) ≡ length (runs_from b t i n)
  listed_length i n =
      sym (length-flat_map (λ (xs : List ℕ). xs) (runs_listed b t i n))
      ∙ ap length (sym (concat_is (runs_listed b t i n)) ∙ listed_joined i n)

  -- a run, and what begins behind it
  pub runs_run : (i n : ℕ) → 40 - i % 40 ≤ n → differ b t i ≡ true → begins b t i ≡ true → runs_from b t i n ≡ run_bytes i (take (run_length b t i) (drop i t)) ++ runs_from b t (i + run_length b t i) (n - run_length b t i)
  runs_run i n room e here =
      sym (listed_joined i n)
      ∙ ap concat (listed_run i n room e here)
      ∙ ap (λ r. run_bytes i (take (run_length b t i) (drop i t)) ++ r) (listed_joined (i + run_length b t i) (n - run_length b t i))

  -- a position with equal cells is passed over
  pub runs_equal : (i n : ℕ) → 0 < n → differ b t i ≡ false → runs_from b t i n ≡ runs_from b t (i + 1) (n - 1)
  runs_equal i n h e =
      let quiet = λ (x : ℕ) (l : i ≤ x) (k : x < i + 1). let q : x ≡ i = omega arith in begins_none x (ap (differ b t) q ∙ e) in
      sym (listed_joined i n) ∙ ap concat (listed_quiet 1 i n (omega arith) quiet) ∙ listed_joined (i + 1) (n - 1)

  -- behind a run one begins just where cells differ
  pub begins_behind : (i : ℕ) → differ b t i ≡ true → begins b t (i + run_length b t i) ≡ differ b t (i + run_length b t i)
  begins_behind i e =
      ⊎_elim
      (λ h. let d = differing_end i (40 - i % 40) h in begins_none (i + run_length b t i) d ∙ sym d)
      (λ h. begins_row (i + run_length b t i) (omega (arith, differing_le i (40 - i % 40))))
      (cases_lt (run_length b t i) (40 - i % 40))
