-- The journal as a kind of state: at most 64 entries, which only grow.
use Rattle.std.specs.Prelude.{◌≡◌, ℕ, ◌-◌, Bool, true, false, cond, ◌&&◌, List, [], ◌∷◌, ◌++◌, length, take, drop, Ok, Err, Result, ◌==◌, nat_le, refl}
use Rattle.state.specs.declared.fault.StateFault.{StateFault}
use Rattle.state.specs.declared.fault.StateFault.TheVariants.{BadEntry, TooManyEntries}
use Rattle.state.specs.Kind.{Kind}
use Rattle.journal.specs.declared.entry.Entry.{Entry}
use Rattle.journal.specs.declared.entry.Entry.TheVariants.{Key, Tap}
use Rattle.journal.specs.declared.journal.Journal.{Journal}
use Rattle.journal.specs.Entries.{entries_bytes, entries_in}

-- at most 64 entries
abbrev pub few : List Entry → Bool
few es = nat_le (length es) 64

-- a journal's contents
abbrev pub Contents : Type 0
Contents = (es : List Entry) × (few es ≡ true)

-- contents where entries are few enough, and else what else there is
abbrev pub within : {X : Type 0} → (es : List Entry) (b : Bool) → few es ≡ b → (Contents → X) → X → X
within es true e yes' no' = yes' (es, e)
within es false e yes' no' = no'

abbrev pub if_few : {X : Type 0} → List Entry → (Contents → X) → X → X
if_few es found other = within es (few es) refl found other

abbrev pub start : Contents
start = ([], refl)

-- the entries that a value shows: those below its count, none for a count above 64
abbrev pub rows : Journal → List Entry
rows j = cond (nat_le j.count 64) (take j.count j.entries) []

-- what a value reads as
abbrev pub reading : Journal → Contents
reading j = if_few (rows j) (λ c. c) start

abbrev pub same_entry : Entry → Entry → Bool
same_entry (Key a) (Key b) = a == b
same_entry (Key a) (Tap c f m) = false
same_entry (Tap c f m) (Key b) = false
same_entry (Tap c f m) (Tap c' f' m') = c == c' && (f == f' && m == m')

abbrev pub same_entries : List Entry → List Entry → Bool
same_entries [] [] = true
same_entries [] (y ∷ ys) = false
same_entries (x ∷ xs) [] = false
same_entries (x ∷ xs) (y ∷ ys) = same_entry x y && same_entries xs ys

-- whether entries begin with others
abbrev pub begins : List Entry → List Entry → Bool
begins old all = same_entries old (take (length old) all)

-- a target follows its prefixes
abbrev pub follows : Contents → Contents → Bool
follows b t = begins b.0 t.0

-- the entries added
abbrev pub added : Contents → Contents → List Entry
added b t = drop (length b.0) t.0

-- the entries joined to a journal's; the first too many is refused where its bytes begin
abbrev pub grown : Contents → List Entry → Result Contents StateFault
grown c es = if_few (c.0 ++ es) (λ t. Ok t) (Err (TooManyEntries (length (entries_bytes (take (64 - length c.0) es)))))

-- the entries of a diff taken in; one that is not whole is refused before any too many
abbrev pub applied : Contents → List ℕ → Result Contents StateFault
applied c d = elim (entries_in d) [ Ok es ↦ grown c es | Err at ↦ Err (BadEntry at) ]

abbrev pub journal_kind : Kind
journal_kind = record {
  Contents = Contents;
  start = start;
  same = λ a b. same_entries a.0 b.0;
  follows = follows;
  diff = λ b t. entries_bytes (added b t);
  apply = applied;
}

-- a diff's entries taken into a journal: its new contents, or the fault
abbrev pub Taken : Journal → List ℕ → Journal → Result (Unit {0}) StateFault → Type 0
Taken j d j' (Ok u) = applied (reading j) d ≡ Ok (reading j')
Taken j d j' (Err f) = applied (reading j) d ≡ Err f
