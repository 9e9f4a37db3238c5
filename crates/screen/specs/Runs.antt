-- Runs of differing cells: which there are between two screens, their bytes, and what a reader makes of them.
use Rattle.std.specs.Prelude.{ℕ, zero, suc, ◌+◌, ◌-◌, ◌*◌, ◌/◌, ◌%◌, Bool, true, cond, not, ◌&&◌, ◌||◌, List, [], ◌∷◌, ◌++◌, length, take, drop, Some, None, Ok, Err, Option, Result, ◌==◌, nat_le, nat_lt, slice_index}
use Rattle.state.specs.declared.fault.StateFault.{StateFault}
use Rattle.state.specs.declared.fault.StateFault.TheVariants.{BadRun}
use Rattle.state.specs.Parts.{parts}

-- a cell is a character from 32 to 126
abbrev pub is_character : ℕ → Bool
is_character x = nat_le 32 x && nat_le x 126

abbrev pub all_characters : List ℕ → Bool
all_characters [] = true
all_characters (x ∷ xs) = is_character x && all_characters xs

-- a list with others in place of its elements from place i on
abbrev pub put : List ℕ → ℕ → List ℕ → List ℕ
put xs i ys = take i xs ++ (ys ++ drop (i + length ys) xs)

module _ (b t : List ℕ) where
  -- whether the cells at position i differ
  abbrev pub differ : ℕ → Bool
  differ i = not (slice_index b i == slice_index t i)

  -- a run begins where cells differ and, but for the first of a row, those before them do not
  abbrev pub begins : ℕ → Bool
  begins i = differ i && (i % 40 == 0 || not (differ (i - 1)))

  -- of n cells from position i on, how many differ before the first that do not
  abbrev pub differing : ℕ → ℕ → ℕ
  differing i zero = 0
  differing i (suc n) = cond (differ i) (1 + differing (i + 1) n) 0

  -- a run goes on while cells differ, within its row
  abbrev pub run_length : ℕ → ℕ
  run_length i = differing i (40 - i % 40)

-- the bytes of a run at position i: row, column, length, characters
abbrev pub run_bytes : ℕ → List ℕ → List ℕ
run_bytes i text = i / 40 ∷ i % 40 ∷ length text ∷ text

module _ (b t : List ℕ) where
  -- the bytes of the run that begins at position i, none where none begins
  abbrev pub run_at : ℕ → List ℕ
  run_at i = cond (begins b t i) (run_bytes i (take (run_length b t i) (drop i t))) []

  -- the bytes of each run that begins at one of the n positions from i on
  unfoldable pub runs_from : ℕ → ℕ → List ℕ
  runs_from i zero = []
  runs_from i (suc n) = run_at i ++ runs_from (i + 1) n

  -- the same bytes, each run's in a list of its own
  unfoldable pub runs_listed : ℕ → ℕ → List (List ℕ)
  runs_listed i zero = []
  runs_listed i (suc n) = cond (begins b t i) (run_at i ∷ runs_listed (i + 1) n) (runs_listed (i + 1) n)

-- what has been read: the cells, and the first position that the next run may have
pub record Drawing : Type 0 where
  pub cells : List ℕ
  pub free : ℕ

-- the position and the characters of the run that bytes begin with
abbrev pub position_of : List ℕ → ℕ
position_of bs = 40 * slice_index bs 0 + slice_index bs 1

abbrev pub text_of : List ℕ → List ℕ
text_of bs = take (slice_index bs 2) (drop 3 bs)

-- a run of n cells lies on a row, has a cell, stays in its row, and begins where it may
abbrev pub fits : ℕ → ℕ → ℕ → ℕ → Bool
fits free row column n = nat_lt row 8 && (nat_le 1 n && (nat_le (column + n) 40 && nat_le free (40 * row + column)))

-- whether bytes begin with a good run: it fits, and all its characters are there and are such
abbrev pub is_run : ℕ → List ℕ → Bool
is_run free bs = fits free (slice_index bs 0) (slice_index bs 1) (slice_index bs 2) && (nat_le (3 + slice_index bs 2) (length bs) && all_characters (text_of bs))

-- a run read: its characters are put in place, and the next may begin at its end
abbrev pub run_read : Drawing → List ℕ → Option (Drawing × ℕ)
run_read s bs = cond (is_run s.free bs) (Some (record { cells = put s.cells (position_of bs) (text_of bs); free = position_of bs + slice_index bs 2 }, 3 + slice_index bs 2)) None

-- cells with all runs of a diff read into them, or the place of the first bad one; a diff's runs begin at place 2
abbrev pub redrawn : List ℕ → List ℕ → Result (List ℕ) StateFault
redrawn cells d = elim (parts run_read (record { cells = cells; free = 0 }) 2 0 (drop 2 d)) [ Ok s ↦ Ok s.cells | Err at ↦ Err (BadRun at) ]
