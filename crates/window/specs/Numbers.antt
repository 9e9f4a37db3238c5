-- The numbers of a window, and what a put, a raise and a look-up make of them.
use Rattle.std.specs.Prelude.{◌≡◌, ℕ, ◌+◌, ◌-◌, ◌/◌, ◌%◌, ◌^◌, ◌<◌, ◌≤◌, Bool, true, false, cond, not, ◌&&◌, ◌||◌, List, Some, None, Option, ◌==◌, nat_le, nat_lt, option_and_then, slice_set}
use Rattle.std.specs.List.{slice_get}
use Rattle.window.specs.declared.table.NumberTable.{NumberTable}
use Rattle.window.specs.declared.window.Window.{Window}

-- where a window begins, how far it reaches, and which numbers it holds
pub record Numbers : Type 0 where
  pub anchor : ℕ
  pub width : ℕ
  pub held : ℕ → Bool

-- whether bit k of the marks is set
abbrev pub marked : ℕ → ℕ → Bool
marked marks k = marks / 2 ^ k % 2 == 1

-- the numbers that a table records: bit k is for the number anchor + k
abbrev pub recorded : NumberTable → Numbers
recorded t = record {
  anchor = t.anchor;
  width = t.width;
  held = λ n. nat_le t.anchor n && marked t.marks (n - t.anchor);
}

-- the numbers of a window
abbrev pub numbers : Window → Numbers
numbers w = recorded w.table

-- a window with nothing in it
abbrev pub empty : ℕ → Numbers
empty wide = record { anchor = 0; width = wide; held = λ n. false }

module _ (w : Numbers) where
  -- what is held lies from the anchor on and within the width
  abbrev pub Within : Type 0
  Within = (n : ℕ) → w.held n ≡ true → (w.anchor ≤ n) × (n < w.anchor + w.width)

  -- whether a number lies in the window
  abbrev pub inside : ℕ → Bool
  inside n = nat_le w.anchor n && nat_lt n (w.anchor + w.width)

  -- whether a number can be put: it lies in the window and isn't held
  abbrev pub free : ℕ → Bool
  free n = inside n && not (w.held n)

  -- the place of a number's element
  abbrev pub place : ℕ → ℕ
  place n = n % w.width

  -- the numbers with n held too
  abbrev pub adding : ℕ → Numbers
  adding n = record { anchor = w.anchor; width = w.width; held = λ m. w.held m || (m == n) }

  -- the numbers after a put of n: one that isn't free alters nothing
  abbrev pub put : ℕ → Numbers
  put n = cond (free n) (adding n) w

  -- the store after a put of x under n: one place is written, or none
  abbrev pub stored : {T : Type 0} → List T → ℕ → T → List T
  stored xs n x = cond (free n) (slice_set xs (place n) x) xs

  -- the numbers from another anchor on
  abbrev pub starting_at : ℕ → Numbers
  starting_at to = record { anchor = to; width = w.width; held = λ n. nat_le to n && w.held n }

  -- whether an anchor may be raised to: it isn't below the one there is
  abbrev pub above : ℕ → Bool
  above to = nat_le w.anchor to

  -- the numbers after a raise: what is below the new anchor is dropped, and a lower one alters nothing
  abbrev pub raise : ℕ → Numbers
  raise to = cond (above to) (starting_at to) w

  -- the place of a number that is held
  abbrev pub standing : ℕ → Option ℕ
  standing n = cond (w.held n) (Some (place n)) None

  -- what a store has under a number
  abbrev pub lookup : {T : Type 0} → List T → ℕ → Option T
  lookup xs n = option_and_then (slice_get xs) (standing n)
