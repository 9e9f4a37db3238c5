-- What the single steps of finding, reading and taking a diff answer.
use Rattle.std.specs.Prelude.{◌≡◌, ℕ, ◌+◌, ◌-◌, ◌<◌, ◌≤◌, true, false, List, drop, Some, None, Ok, Err, Option, Result, slice_index}
use denote.Ref.{Bor}
use Rattle.state.specs.declared.fault.StateFault.{StateFault}
use Rattle.screen.specs.declared.runs.Run.{Run}
use Rattle.screen.specs.declared.runs.Runs.{Runs}
use Rattle.screen.specs.declared.screen.Cursor.{Cursor}
use Rattle.screen.specs.declared.screen.Screen.{Screen}
use Rattle.screen.specs.Runs.{differ, run_bytes, runs_listed, position_of, text_of, is_run}
use Rattle.screen.specs.Screen.{contents_of, is_cursor, apply}

-- the first position from `from` on at which two screens' cells differ, or none
abbrev pub FirstDiffering : List ℕ → List ℕ → ℕ → Option ℕ → Type 0
FirstDiffering b t from None = (x : ℕ) → from ≤ x → x < 320 → differ b t x ≡ false
FirstDiffering b t from (Some i) = (from ≤ i) × (i < 320) × (differ b t i ≡ true) × ((x : ℕ) → from ≤ x → x < i → differ b t x ≡ false)

-- the bytes that tell a run
abbrev pub bytes_of : Run → List ℕ
bytes_of r = run_bytes r.position r.characters.now

-- the bytes of each run that is still to come
abbrev pub runs_left : Runs → List (List ℕ)
runs_left s = runs_listed s.difference.old.now s.difference.new.now s.from (320 - s.from)

-- the run that bytes begin with and the bytes behind it, told where they begin with a good one
abbrev pub RunRead : ℕ → List ℕ → Option (Run × Bor (List ℕ)) → Type 0
RunRead free bs None = is_run free bs ≡ false
RunRead free bs (Some (r, rest)) = (is_run free bs ≡ true) × (r.position ≡ position_of bs) × (r.characters.now ≡ text_of bs) × (rest.now ≡ drop (3 + slice_index bs 2) bs)

-- a call that takes a diff into a screen and gives another
abbrev pub Taken : Screen → List ℕ → Result Screen StateFault → Type 0
Taken s d (Ok s') = apply (contents_of s) d ≡ Ok (contents_of s')
Taken s d (Err f) = apply (contents_of s) d ≡ Err f

-- the cursor that a diff tells, or none where it tells none
abbrev pub CursorTold : List ℕ → Option Cursor → Type 0
CursorTold d None = is_cursor d ≡ false
CursorTold d (Some c) = (is_cursor d ≡ true) × (c.row ≡ slice_index d 0) × (c.column ≡ slice_index d 1)
