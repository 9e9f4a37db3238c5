-- When a tick is due, by the facts that it is judged from.
use Rattle.std.specs.Prelude.{ℕ, ◌+◌, Bool, false, not, ◌&&◌, ◌||◌, Some, None, Option, nat_le}

-- what a tick is judged from: the time; the last sending's time, or the opening's before any; when the last number was last sent; since when an acknowledgement is pending; whether the current state differs from the last number's; whether the window is full; whether numbers are unacknowledged
pub record Facts : Type 0 where
  pub time : ℕ
  pub last : ℕ
  pub sent_at : ℕ
  pub pending : Option ℕ
  pub differs : Bool
  pub full : Bool
  pub unacknowledged : Bool

-- changes are gathered for 250, a number is sent again after 1,100, an acknowledgement waits 100, and silence lasts 3,000
abbrev pub gathering : ℕ
gathering = 250

abbrev pub patience : ℕ
patience = 1100

abbrev pub courtesy : ℕ
courtesy = 100

abbrev pub silence : ℕ
silence = 3000

-- whether something that began then is at least that old
abbrev pub since : ℕ → ℕ → ℕ → Bool
since start age time = nat_le (start + age) time

-- whether an acknowledgement has been pending long enough
abbrev pub owed : Option ℕ → ℕ → Bool
owed None time = false
owed (Some start) time = since start courtesy time

-- a new state may go out; an old one is sent again; an acknowledgement is owed; the silence is over
abbrev pub reasons : Facts → Bool
reasons f =
    (f.differs && (not f.full && since f.last gathering f.time))
    || ((f.unacknowledged && since f.sent_at patience f.time)
    || (owed f.pending f.time || since f.last silence f.time))

-- a tick is due when there is one of these reasons
unfoldable pub due : Facts → Bool
due f = reasons f
