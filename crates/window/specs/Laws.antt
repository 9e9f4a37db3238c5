-- What always holds of windows and of look-ups in them.
use Rattle.std.specs.Prelude.{◌≡◌, ℕ, true, cond, List, Some, None, ◌≢◌, nat_le}
use Rattle.window.specs.declared.window.Window.{Window}
use Rattle.window.specs.Numbers.{Numbers, numbers, Within, inside, free, place, put, stored, above, raise, lookup}
use Rattle.window.specs.Calls.{fits}

-- whatever a window holds lies from its anchor on and within its width
abbrev pub AllWithin : Type 0
AllWithin = (w : Window) → Within (numbers w)

-- look-ups in stores of elements of the type T
pub record Lookups (T : Type 0) : Type 0 where
  -- two numbers of one window that lie at one place are one
  pub apart : (w : Numbers) (m n : ℕ) → inside w m ≡ true → inside w n ≡ true → place w m ≡ place w n → m ≡ n
  -- after a put its element is found under its number
  pub same : (w : Numbers) (xs : List T) (n : ℕ) (x : T) → fits w xs ≡ true → free w n ≡ true → lookup (put w n) (stored w xs n x) n ≡ Some x
  -- and under every other number what was there
  pub other : (w : Numbers) (xs : List T) (n : ℕ) (x : T) (m : ℕ) → Within w → (m ≢ n) → lookup (put w n) (stored w xs n x) m ≡ lookup w xs m
  -- after a raise nothing is found below the new anchor, and elsewhere what was there
  pub onward : (w : Numbers) (xs : List T) (to n : ℕ) → above w to ≡ true → lookup (raise w to) xs n ≡ cond (nat_le to n) (lookup w xs n) None
