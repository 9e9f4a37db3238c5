-- One run of a diff, read from a place on.
use Rattle.std.proofs.Common.{◌≡◌, ℕ, ◌+◌, ◌*◌, ◌≤◌, true, ltb, leb, List, length, get_or, drop, Some, sym, ap, ◌∙◌, arith}
use Rattle.std.proofs.lemmas.List.{length-drop, length-take-le}
use Rattle.std.proofs.lemmas.Bool.{cond-true, and_parts, ltb-true, leb-true}
use Rattle.state.specs.Parts.{parts}
use Rattle.state.proofs.Cuts.{parts_good}
use denote.Ref.{Bor}
use Rattle.screen.specs.declared.runs.Run.{Run}
use Rattle.screen.specs.Runs.{all_characters, put, Drawing, position_of, text_of, fits, is_run, run_read}
use Rattle.screen.specs.Steps.{RunRead}

-- what a good run at the front of bytes tells
pub record Good (bs : List ℕ) : Type 0 where
  pub inside : position_of bs + get_or bs 2 0 ≤ 320
  pub ends : 3 + get_or bs 2 0 ≤ length bs
  pub count : length (text_of bs) ≡ get_or bs 2 0
  pub characters : all_characters (text_of bs) ≡ true

pub good : (free : ℕ) (bs : List ℕ) → is_run free bs ≡ true → Good bs
good free bs h =
    let row = get_or bs 0 0 in
    let column = get_or bs 1 0 in
    let n = get_or bs 2 0 in
    let a = and_parts (fits free row column n) _ h in
    let b = and_parts (leb (3 + n) (length bs)) (all_characters (text_of bs)) a.1 in
    let p = and_parts (ltb row 8) _ a.0 in
    let q = and_parts (leb 1 n) _ p.1 in
    let r = and_parts (leb (column + n) 40) (leb free (40 * row + column)) q.1 in
    let ends = leb-true (3 + n) (length bs) b.0 in
    record {
      inside = omega (arith, ltb-true row 8 p.0, leb-true (column + n) 40 r.0);
      ends = ends;
      count = length-take-le n (drop 3 bs) (omega (arith, length-drop 3 bs, ends));
      characters = b.1;
    }

module _ (cells bs : List ℕ) (free at : ℕ) where
  -- what a run that was read leaves to read
  pub record Read (r : Run) (rest : List ℕ) : Type 0 where
    pub inside : r.position + length r.characters.now ≤ 320
    pub shorter : length rest + (3 + length r.characters.now) ≡ length bs
    pub step : parts run_read (record { cells = cells; free = free }) at 0 bs ≡ parts run_read (record { cells = put cells r.position r.characters.now; free = r.position + length r.characters.now }) (at + (3 + length r.characters.now)) 0 rest

  pub read_good : (r : Run) (rest : Bor (List ℕ)) → RunRead free bs (Some (r, rest)) → Read r rest.now
  read_good r rest h =
      let g = good free bs h.0 in
      let n : get_or bs 2 0 ≡ length r.characters.now = sym g.count ∙ ap length (sym h.2) in
      let after : ℕ → ℕ → List ℕ → Drawing = λ p n xs. record { cells = put cells p xs; free = p + n } in
      record {
        inside = omega (arith, g.inside, h.1, n);
        shorter = omega (arith, ap length h.3, length-drop (3 + get_or bs 2 0) bs, g.ends, n);
        step =
            parts_good run_read (record { cells = cells; free = free }) (after (position_of bs) (get_or bs 2 0) (text_of bs)) at (3 + get_or bs 2 0) bs (omega arith) g.ends (cond-true (is_run free bs) _ _ h.0)
            ∙ ap (λ xs. parts run_read (after (position_of bs) (get_or bs 2 0) (text_of bs)) (at + (3 + get_or bs 2 0)) 0 xs) (sym h.3)
            ∙ ap (λ xs. parts run_read (after (position_of bs) (get_or bs 2 0) xs) (at + (3 + get_or bs 2 0)) 0 rest.now) (sym h.2)
            ∙ ap (λ p. parts run_read (after p (get_or bs 2 0) r.characters.now) (at + (3 + get_or bs 2 0)) 0 rest.now) (sym h.1)
            ∙ ap (λ n. parts run_read (after r.position n r.characters.now) (at + (3 + n)) 0 rest.now) n;
      }
