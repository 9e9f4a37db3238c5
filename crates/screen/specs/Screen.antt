-- The kind of state Screen: what its contents are, and what the six things mean by them.
use Rattle.std.specs.Prelude.{◌≡◌, ℕ, ◌/◌, ◌%◌, Bool, true, false, cond, ◌&&◌, List, ◌∷◌, length, replicate, Ok, Err, Result, ◌==◌, nat_le, nat_lt, slice_index, slice_set, refl}
use Rattle.std.specs.Str.{bytes_eq}
use Rattle.state.specs.declared.fault.StateFault.{StateFault}
use Rattle.state.specs.declared.fault.StateFault.TheVariants.{BadRun}
use Rattle.state.specs.Kind.{Kind}
use Rattle.state.specs.declared.fault.EditRefusal.{EditRefusal}
use Rattle.state.specs.declared.fault.EditRefusal.TheVariants.{OutsideField}
use Rattle.screen.specs.declared.screen.Screen.{Screen}
use Rattle.screen.specs.Runs.{is_character, all_characters, runs_from, redrawn}

-- cells by rows, and the place of the cursor
pub record Picture : Type 0 where
  pub cells : List ℕ
  pub row : ℕ
  pub column : ℕ

-- the cursor is on one of eight rows of forty cells
abbrev pub on_screen : ℕ → ℕ → Bool
on_screen row column = nat_lt row 8 && nat_lt column 40

-- there are 320 cells, all of them characters, and the cursor is on the screen
abbrev pub legal : Picture → Bool
legal p = length p.cells == 320 && (all_characters p.cells && on_screen p.row p.column)

-- a screen's contents
abbrev pub Contents : Type 0
Contents = (p : Picture) × (legal p ≡ true)

-- spaces, the cursor at the first
abbrev pub blank : Picture
blank = record { cells = replicate 320 32; row = 0; column = 0 }

abbrev pub start : Contents
start = (blank, refl)

-- a legal picture as contents; any other counts as the start
abbrev pub settled_as : (p : Picture) (yes : Bool) → legal p ≡ yes → Contents
settled_as p true e = (p, e)
settled_as p false e = start

abbrev pub settled : Picture → Contents
settled p = settled_as p (legal p) refl

-- what a value holds
abbrev pub picture_of : Screen → Picture
picture_of s = record { cells = s.cells; row = s.cursor.row; column = s.cursor.column }

-- the contents of a value
abbrev pub contents_of : Screen → Contents
contents_of s = settled (picture_of s)

-- the same cells and the same cursor
abbrev pub same : Contents → Contents → Bool
same a b = (a.0.row == b.0.row && a.0.column == b.0.column) && bytes_eq a.0.cells b.0.cells

-- where the target has its cursor, then the runs of cells that differ, from the first position to the last
abbrev pub diff : Contents → Contents → List ℕ
diff b t = t.0.row ∷ t.0.column ∷ runs_from b.0.cells t.0.cells 0 320

-- a cursor is told by two bytes, and is on the screen
abbrev pub is_cursor : List ℕ → Bool
is_cursor d = nat_le 2 (length d) && on_screen (slice_index d 0) (slice_index d 1)

-- the cells that the runs leave with the cursor of the diff, or the place of the first bad part
abbrev pub apply : Contents → List ℕ → Result Contents StateFault
apply c d =
    cond (is_cursor d)
    (elim (redrawn c.0.cells d) [ Ok cells ↦ Ok (settled (record { cells = cells; row = slice_index d 0; column = slice_index d 1 })) | Err f ↦ Err f ])
    (Err (BadRun 0))

-- a diff that is taken leaves just the cells that its runs leave, and the cursor that it tells
abbrev pub AppliesAsTold : Type 0
AppliesAsTold = (c : Contents) (d : List ℕ) (c' : Contents) → apply c d ≡ Ok c' → (redrawn c.0.cells d ≡ Ok c'.0.cells) × (c'.0.row ≡ slice_index d 0) × (c'.0.column ≡ slice_index d 1)

-- any screen follows any screen
abbrev pub screen_kind : Kind
screen_kind = record {
  Contents = Contents;
  start = start;
  same = same;
  follows = λ b t. true;
  diff = diff;
  apply = apply;
}

-- a character put at a position by rows, and the cursor moved there
abbrev pub drawn_at : Picture → ℕ → ℕ → Picture
drawn_at p position character = record { cells = slice_set p.cells position character; row = position / 40; column = position % 40 }

-- refused where there is no such position or character
abbrev pub drawn : Picture → ℕ → ℕ → Result Picture EditRefusal
drawn p position character = cond (nat_lt position 320 && is_character character) (Ok (drawn_at p position character)) (Err OutsideField)

-- a call that draws on a screen and gives another answers as defined
abbrev pub Drawn : Screen → ℕ → ℕ → Result Screen EditRefusal → Type 0
Drawn s position character (Ok s') = drawn (contents_of s).0 position character ≡ Ok (contents_of s').0
Drawn s position character (Err e) = drawn (contents_of s).0 position character ≡ Err e
