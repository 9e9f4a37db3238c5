-- The diff from a base to a target, applied to the base, gives the target.
use Rattle.std.specs.Prelude.{◌≡◌, ℕ, zero, suc, ◌+◌, ◌-◌, ◌*◌, ◌/◌, ◌%◌, ◌<◌, ◌≤◌, true, false, List, [], ◌∷◌, ◌++◌, length, take, drop, Some, Ok, Err, Option, Result, ◌==◌, nat_le, nat_lt, slice_index, refl}
use Rattle.std.proofs.Common.{sym, ap, ◌∙◌, append_assoc, ⊎_elim, arith}
use Rattle.std.proofs.lemmas.List.{length-append, length-drop, take_at, drop_at, take_all, take_more, drop_more, drop_all, append-nil, length-take-le}
use Rattle.std.proofs.lemmas.Bool.{cond-true, cases_Bool, and_from, le-leb, lt-ltb, eqb-true, not-false}
use Rattle.state.specs.declared.fault.StateFault.{StateFault}
use Rattle.state.specs.declared.fault.StateFault.TheVariants.{BadRun}
use Rattle.state.specs.Kind.{Reaches}
use Rattle.state.specs.Parts.{parts}
use Rattle.state.proofs.Cuts.{parts_good}
use Rattle.screen.specs.Runs.{all_characters, put, differ, begins, run_length, run_bytes, runs_from, Drawing, text_of, fits, is_run, run_read}
use Rattle.screen.specs.Screen.{Contents, settled, diff, is_cursor, screen_kind}
use Rattle.screen.specs.Legal.{same_contents, settled_legal, bounds}
use Rattle.screen.specs.Placed.{halfway, halfway_more, characters_take, characters_drop}
use Rattle.screen.specs.Stretches.{runs_none, runs_equal, runs_run, run_short, run_some, begins_after, begins_behind, begins_row}

pub fits_yes : (free row column n : ℕ) → row < 8 → 1 ≤ n → column + n ≤ 40 → free ≤ 40 * row + column → fits free row column n ≡ true
fits_yes free row column n h k l m =
    and_from (nat_lt row 8) _ (lt-ltb row 8 h)
    (and_from (nat_le 1 n) _ (le-leb 1 n k)
    (and_from (nat_le (column + n) 40) _ (le-leb (column + n) 40 l) (le-leb free (40 * row + column) m)))

-- a run's bytes are read as the run
module _ (i free : ℕ) (text rest : List ℕ) (low : i < 320) (some : 1 ≤ length text) (short : i % 40 + length text ≤ 40) (behind : free ≤ i) (good : all_characters text ≡ true) where
  bytes : List ℕ
  bytes = run_bytes i text ++ rest

  read_text : text_of (run_bytes i text ++ rest) ≡ text
  read_text = take_at text rest (length text) refl

  place : 40 * (i / 40) + i % 40 ≡ i
  place = omega arith

  read_good : is_run free (run_bytes i text ++ rest) ≡ true
  read_good =
      and_from (fits free (i / 40) (i % 40) (length text)) _ (fits_yes free (i / 40) (i % 40) (length text) (omega arith) some short (omega arith))
      (and_from (nat_le (3 + length text) (length (run_bytes i text ++ rest))) _
      (le-leb _ _ (omega (arith, length-append text rest)))
      (ap all_characters read_text ∙ good))

  read_run : (cells : List ℕ) → run_read (record { cells = cells; free = free }) (run_bytes i text ++ rest) ≡ Some (record { cells = put cells i text; free = i + length text }, 3 + length text)
  read_run cells =
      let some' : ℕ → List ℕ → Option (Drawing × ℕ) = λ at ys. Some (record { cells = put cells at ys; free = at + length text }, 3 + length text) in
      cond-true (is_run free (run_bytes i text ++ rest)) _ _ read_good
      ∙ ap (some' (40 * (i / 40) + i % 40)) read_text
      ∙ ap (λ at. some' at text) place

  pub parts_run : (cells : List ℕ) (at : ℕ) → parts run_read (record { cells = cells; free = free }) at 0 (run_bytes i text ++ rest) ≡ parts run_read (record { cells = put cells i text; free = i + length text }) (at + (3 + length text)) 0 rest
  parts_run cells at =
      parts_good run_read (record { cells = cells; free = free }) (record { cells = put cells i text; free = i + length text }) at (3 + length text) (run_bytes i text ++ rest) (omega arith) (omega (arith, length-append text rest)) (read_run cells)
      ∙ ap (parts run_read (record { cells = put cells i text; free = i + length text }) (at + (3 + length text)) 0) (drop_at (run_bytes i text) rest (3 + length text) (omega arith))

-- all runs from a position on, read into the target up to there and the base behind
module _ (b t : List ℕ) (lb : length b ≡ 320) (lt : length t ≡ 320) (good : all_characters t ≡ true) where
  -- one position with equal cells, and one run
  halfway_equal : (i : ℕ) → i < 320 → differ b t i ≡ false → halfway b t i ≡ halfway b t (i + 1)
  halfway_equal i h d =
      ap (λ r. take i t ++ r) (drop_more b i 0 (omega arith))
      ∙ ap (λ x. take i t ++ (x ∷ drop (i + 1) b)) (eqb-true _ _ (not-false (slice_index b i == slice_index t i) d))
      ∙ sym (append_assoc (take i t) (slice_index t i ∷ []) (drop (i + 1) b))
      ∙ ap (λ r. r ++ drop (i + 1) b) (sym (take_more t i 0 (omega arith)))

  step_equal : (free at i n : ℕ) → i < 320 → 0 < n → differ b t i ≡ false → parts run_read (record { cells = halfway b t i; free = free }) at 0 (runs_from b t i n) ≡ parts run_read (record { cells = halfway b t (i + 1); free = free }) at 0 (runs_from b t (i + 1) (n - 1))
  step_equal free at i n h k d =
      ap (λ xs. parts run_read (record { cells = xs; free = free }) at 0 (runs_from b t i n)) (halfway_equal i h d)
      ∙ ap (parts run_read (record { cells = halfway b t (i + 1); free = free }) at 0) (runs_equal b t i n k d)

  step_run : (free at i n : ℕ) → i < 320 → 40 - i % 40 ≤ n → free ≤ i → differ b t i ≡ true → begins b t i ≡ true → parts run_read (record { cells = halfway b t i; free = free }) at 0 (runs_from b t i n) ≡ parts run_read (record { cells = halfway b t (i + run_length b t i); free = i + run_length b t i }) (at + (3 + run_length b t i)) 0 (runs_from b t (i + run_length b t i) (n - run_length b t i))
  step_run free at i n low room f d here =
      let m = run_length b t i in
      let some = run_some b t i d in
      let short = run_short b t i in
      let text = take m (drop i t) in
      let rest = runs_from b t (i + m) (n - m) in
      let k : length (take (run_length b t i) (drop i t)) ≡ run_length b t i = length-take-le (run_length b t i) (drop i t) (omega (arith, length-drop i t)) in
      ap (parts run_read (record { cells = halfway b t i; free = free }) at 0) (runs_run b t i n room d here)
      ∙ parts_run i free text rest low (omega arith) (omega arith) f (characters_take m (drop i t) (characters_drop i t good)) (halfway b t i) at
      ∙ ap (λ x. parts run_read (record { cells = put (halfway b t i) i text; free = i + x }) (at + (3 + x)) 0 rest) k
      ∙ ap (λ xs. parts run_read (record { cells = xs; free = i + m }) (at + (3 + m)) 0 rest) (halfway_more b t i m (omega arith) (omega arith))

  done : (i : ℕ) → i ≡ 320 → halfway b t i ≡ t
  done i e = ap (λ r. r ++ drop i b) (take_all i t (omega arith)) ∙ ap (λ r. t ++ r) (drop_all i b (omega arith)) ∙ append-nil t

  abbrev Arrives : ℕ → ℕ → ℕ → ℕ → Type 0
  Arrives free at i n = (last : ℕ) × (parts run_read (record { cells = halfway b t i; free = free }) at 0 (runs_from b t i n) ≡ Ok (record { cells = t; free = last }))

  arrives : (gas free at i n : ℕ) → n ≤ gas → i + n ≡ 320 → free ≤ i → begins b t i ≡ differ b t i → Arrives free at i n
  arrives gas free at i zero g e f h =
      let ok : List ℕ → Result Drawing ℕ = λ xs. Ok (record { cells = xs; free = free }) in
      (free, ap (parts run_read (record { cells = halfway b t i; free = free }) at 0) (runs_none b t i) ∙ ap ok (done i (omega arith)))
  arrives zero free at i (suc n) g e f h = absurd (omega arith)
  arrives (suc gas) free at i (suc n) g e f h =
      ⊎_elim
      (λ d.
      let m : ℕ = run_length b t i in
      let some : 1 ≤ m = run_some b t i d in
      let short : i % 40 + m ≤ 40 = run_short b t i in
      let on = arrives gas (i + m) (at + (3 + m)) (i + m) (suc n - m) (omega arith) (omega arith) (omega arith) (begins_behind b t i d) in
      (on.0, step_run free at i (suc n) (omega arith) (omega arith) f d (h ∙ d) ∙ on.1))
      (λ d.
      let on = arrives gas free at (i + 1) (suc n - 1) (omega arith) (omega arith) (omega arith) (begins_after b t i d) in
      (on.0, step_equal free at i (suc n) (omega arith) (omega arith) d ∙ on.1))
      (cases_Bool (differ b t i))

  pub arrived : (last : ℕ) × (parts run_read (record { cells = b; free = 0 }) 2 0 (runs_from b t 0 320) ≡ Ok (record { cells = t; free = last }))
  arrived = arrives 320 0 2 0 320 (omega arith) (omega arith) (omega arith) (begins_row b t 0 refl)

pub reaches : Reaches screen_kind
reaches b t p h =
    let B = bounds b.0 b.1 in
    let T = bounds t.0 t.1 in
    let on = arrived b.0.cells t.0.cells B.size T.size T.characters in
    let cursor : is_cursor (diff b t) ≡ true = and_from (nat_le 2 (length (diff b t))) _ (le-leb 2 _ (omega arith)) (and_from (nat_lt t.0.row 8) _ (lt-ltb _ 8 T.row) (lt-ltb _ 40 T.column)) in
    let told : Result Drawing ℕ → Result (List ℕ) StateFault = λ r. elim r [ Ok s ↦ Ok s.cells | Err at ↦ Err (BadRun at) ] in
    let whole : Result (List ℕ) StateFault → Result Contents StateFault = λ r. elim r [ Ok cells ↦ Ok (settled (record { cells = cells; row = t.0.row; column = t.0.column })) | Err f ↦ Err f ] in
    let ok : Contents → Result Contents StateFault = λ c. Ok c in
    cond-true (is_cursor (diff b t)) _ _ cursor ∙ ap whole (ap told on.1) ∙ ap ok (same_contents (settled t.0) t (settled_legal t.0 t.1))
