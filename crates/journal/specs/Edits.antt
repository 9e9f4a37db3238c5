-- A journal's contents with one entry more.
use Rattle.std.specs.Prelude.{◌≡◌, ℕ, cond, ◌&&◌, [], ◌∷◌, ◌++◌, Ok, Err, Result, nat_lt}
use Rattle.state.specs.declared.fault.EditRefusal.{EditRefusal}
use Rattle.state.specs.declared.fault.EditRefusal.TheVariants.{OutsideField, Full}
use Rattle.journal.specs.declared.entry.Entry.{Entry}
use Rattle.journal.specs.declared.entry.Entry.TheVariants.{Key, Tap}
use Rattle.journal.specs.declared.journal.Journal.{Journal}
use Rattle.journal.specs.Journals.{Contents, if_few, reading}

-- one entry more, while there is room for it
abbrev pub pushed : Contents → Entry → Result Contents EditRefusal
pushed c e = if_few (c.0 ++ (e ∷ [])) (λ t. Ok t) (Err Full)

-- an entry put into a journal: its contents with the entry, or the refusal and the journal as it was
abbrev pub Pushed : Journal → Entry → Journal → Result (Unit {0}) EditRefusal → Type 0
Pushed j e j' (Ok u) = pushed (reading j) e ≡ Ok (reading j')
Pushed j e j' (Err f) = (pushed (reading j) e ≡ Err f) × (j' ≡ j)

-- a key more, whose code is a byte
abbrev pub keyed : Contents → ℕ → Result Contents EditRefusal
keyed c code = cond (nat_lt code 256) (pushed c (Key code)) (Err OutsideField)

-- a tap more, whose fare and balance are 16-bit numbers
abbrev pub tapped : Contents → ℕ → ℕ → ℕ → Result Contents EditRefusal
tapped c card fare balance = cond (nat_lt fare 65536 && nat_lt balance 65536) (pushed c (Tap card fare balance)) (Err OutsideField)

-- a call's answer, read: the new journal's contents, or the refusal
abbrev pub edited : Result Journal EditRefusal → Result Contents EditRefusal
edited (Ok j) = Ok (reading j)
edited (Err f) = Err f
