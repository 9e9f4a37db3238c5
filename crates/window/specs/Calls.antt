-- What the calls of a window answer and leave, over the store that they are lent.
use Rattle.std.specs.Prelude.{◌≡◌, ℕ, Bool, true, false, cond, ◌&&◌, List, length, Ok, Err, Option, Result, ◌==◌, nat_le, option_map}
use Rattle.window.specs.declared.answers.StoreRefusal.{StoreRefusal}
use Rattle.window.specs.declared.answers.StoreRefusal.TheVariants.{WrongLength}
use Rattle.window.specs.declared.window.Window.{Window}
use Rattle.window.specs.Numbers.{Numbers, numbers, empty, free, put, stored, lookup}

-- a new window: its store is 1 to 64 long, and it is as wide
abbrev pub opened : {T : Type 0} → List T → Result Numbers StoreRefusal
opened xs = cond (nat_le 1 (length xs) && nat_le (length xs) 64) (Ok (empty (length xs))) (Err WrongLength)

-- the numbers of a window that was made
abbrev pub numbers_of : Result Window StoreRefusal → Result Numbers StoreRefusal
numbers_of (Ok w) = Ok (numbers w)
numbers_of (Err e) = Err e

module _ (w : Numbers) {T : Type 0} (xs : List T) where
  -- whether a store is as long as the window is wide
  abbrev pub fits : Bool
  fits = length xs == w.width

  -- what is answered of a store alone
  abbrev pub checked : Result (Unit {0}) StoreRefusal
  checked = cond fits (Ok tt) (Err WrongLength)

  -- whether a put is done
  abbrev pub put_answer : ℕ → Result Bool StoreRefusal
  put_answer n = cond fits (Ok (free w n)) (Err WrongLength)

  -- the numbers that it leaves
  abbrev pub put_numbers : ℕ → Numbers
  put_numbers n = cond fits (put w n) w

  -- the store that it leaves
  abbrev pub put_store : ℕ → T → List T
  put_store n x = cond fits (stored w xs n x) xs

  -- the answer of a look-up
  abbrev pub found : ℕ → Result (Option T) StoreRefusal
  found n = cond fits (Ok (lookup w xs n)) (Err WrongLength)

-- a look-up's answer with what its reference points to
abbrev pub seen : {R T : Type 0} → (R → T) → Result (Option R) StoreRefusal → Result (Option T) StoreRefusal
seen f (Ok a) = Ok (option_map f a)
seen f (Err e) = Err e

-- a call that didn't do what it was asked to leaves the value as it was
abbrev pub KeptUnless : {V : Type 0} → Bool → V → V → Type 0
KeptUnless true v v' = Unit {0}
KeptUnless false v v' = v' ≡ v

-- whether a put was done
abbrev pub done : Result Bool StoreRefusal → Bool
done (Ok b) = b
done (Err e) = false
