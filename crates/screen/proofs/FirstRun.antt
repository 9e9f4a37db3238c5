-- The first run from a position on, and those behind it.
use Rattle.std.proofs.Common.{◌≡◌, ℕ, zero, suc, ◌+◌, ◌-◌, ◌%◌, ◌<◌, ◌≤◌, Bool, true, not, cond, ◌==◌, List, [], ◌∷◌, length, get_or, take, drop, Some, None, refl, sym, ap, ◌∙◌, ⊎_elim, arith}
use Rattle.std.specs.List.{prefix_len, zip}
use Rattle.std.proofs.lemmas.List.{drop_more}
use Rattle.std.proofs.lemmas.Bool.{cases_eq}
use Rattle.screen.specs.declared.runs.Runs.{Runs}
use Rattle.screen.specs.Runs.{differ, begins, differing, run_length, run_bytes, runs_listed}
use Rattle.screen.specs.Steps.{FirstDiffering, runs_left}
use Rattle.screen.specs.Stretches.{begins_none, begins_after, begins_behind, listed_none, listed_quiet, listed_run, run_short}

-- what a run of n cells that begins at p tells of the runs that are left
pub record Found (s : Runs) (p n : ℕ) : Type 0 where
  pub low : p < 320
  pub inside : p % 40 + n ≤ 40
  pub fresh : begins s.difference.old.now s.difference.new.now (p + n) ≡ differ s.difference.old.now s.difference.new.now (p + n)
  pub runs : runs_left s ≡ run_bytes p (take (p + n - p) (drop p s.difference.new.now)) ∷ runs_listed s.difference.old.now s.difference.new.now (p + n) (320 - (p + n))

pub none_found : (s : Runs) → FirstDiffering s.difference.old.now s.difference.new.now s.from None → runs_left s ≡ []
none_found s f =
    let b = s.difference.old.now in
    let t = s.difference.new.now in
    let from = s.from in
    listed_quiet b t (320 - from) from (320 - from) (omega arith) (λ x l h. begins_none b t x (f x l (omega (arith, s.on_screen))))
    ∙ listed_none b t (from + (320 - from)) (320 - from - (320 - from)) (omega arith)

pub found : (s : Runs) (p n : ℕ) → FirstDiffering s.difference.old.now s.difference.new.now s.from (Some p) → n ≡ run_length s.difference.old.now s.difference.new.now p → Found s p n
found s p n f e =
    let b = s.difference.old.now in
    let t = s.difference.new.now in
    let from = s.from in
    let here = f.2 in
    let before = f.3 in
    let start : begins b t p ≡ true =
    ⊎_elim
    (λ (q : p ≡ from). ap (begins b t) q ∙ s.between_runs ∙ ap (differ b t) (sym q) ∙ here)
    (λ q. let k : p ≡ p - 1 + 1 = omega (arith, f) in
    ap (begins b t) k ∙ begins_after b t (p - 1) (before (p - 1) (omega (arith, f, q)) (omega (arith, f, q))) ∙ ap (differ b t) (sym k) ∙ here)
    (cases_eq p from) in
    let last : p - from ≤ 320 - from = omega (arith, f) in
    let there : from + (p - from) ≡ p = omega (arith, f) in
    let left : 320 - from - (p - from) ≡ 320 - p = omega (arith, f) in
    record {
      low = f.1;
      inside = omega (arith, e, run_short b t p);
      fresh = ap (λ m. begins b t (p + m)) e ∙ begins_behind b t p here ∙ ap (λ m. differ b t (p + m)) (sym e);
      runs =
          listed_quiet b t (p - from) from (320 - from) last (λ x l h. begins_none b t x (before x l (omega (arith, f))))
          ∙ ap (λ i. runs_listed b t i (320 - from - (p - from))) there
          ∙ ap (runs_listed b t p) left
          ∙ listed_run b t p (320 - p) (omega (arith, f)) here start
          ∙ ap (λ m. run_bytes p (take m (drop p t)) ∷ runs_listed b t (p + m) (320 - p - m)) (sym e)
          ∙ ap (λ m. run_bytes p (take n (drop p t)) ∷ runs_listed b t (p + n) m) {x = 320 - p - n} {y = 320 - (p + n)} (omega arith)
          ∙ ap (λ m. run_bytes p (take m (drop p t)) ∷ runs_listed b t (p + n) (320 - (p + n))) {x = n} {y = p + n - p} (omega arith);
    }

-- of the pairs of cells from a position on, those in front that differ
pub pairs_differing : (b t : List ℕ) (i n : ℕ) → i + n ≤ length b → i + n ≤ length t → prefix_len (λ (p : ℕ × ℕ). not (p.0 == p.1)) (zip (take n (drop i b)) (take n (drop i t))) ≡ differing b t i n
pairs_differing b t i zero h k = refl
pairs_differing b t i (suc n) h k =
    let P : ℕ × ℕ → Bool = λ p. not (p.0 == p.1) in
    ap (λ xs. prefix_len P (zip (take (suc n) xs) (take (suc n) (drop i t)))) (drop_more b i 0 (omega arith))
    ∙ ap (λ xs. prefix_len P (zip (get_or b i 0 ∷ take n (drop (i + 1) b)) (take (suc n) xs))) (drop_more t i 0 (omega arith))
    ∙ ap (λ m. cond (differ b t i) (1 + m) 0) (pairs_differing b t (i + 1) n (omega arith) (omega arith))
