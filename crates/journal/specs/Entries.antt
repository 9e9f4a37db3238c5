-- The bytes of a journal's entries, written and read.
use Rattle.std.specs.Prelude.{ℕ, cond, ◌&&◌, List, [], ◌∷◌, ◌++◌, length, Some, None, Option, Result, ◌==◌, nat_le, slice_index}
use Rattle.std.specs.List.{flat_map}
use Rattle.state.specs.BigEndian.{two, four, of_two, of_four}
use Rattle.state.specs.Parts.{parts}
use Rattle.journal.specs.declared.entry.Entry.{Entry}
use Rattle.journal.specs.declared.entry.Entry.TheVariants.{Key, Tap}

-- a key is tag 1 and its code; a tap is tag 2, card, fare and balance
abbrev pub entry_bytes : Entry → List ℕ
entry_bytes (Key code) = 1 ∷ code ∷ []
entry_bytes (Tap card fare balance) = 2 ∷ (four card ++ (two fare ++ two balance))

-- entries one after the other
abbrev pub entries_bytes : List Entry → List ℕ
entries_bytes es = flat_map entry_bytes es

-- the entry at the front of bytes, if a whole one is there
abbrev pub entry_at : List ℕ → Option Entry
entry_at bs =
    cond (slice_index bs 0 == 1 && nat_le 2 (length bs)) (Some (Key (slice_index bs 1)))
    (cond (slice_index bs 0 == 2 && nat_le 9 (length bs)) (Some (Tap (of_four bs 1) (of_two bs 5) (of_two bs 7))) None)

-- the entries so far and the one at the front, with its bytes' count
abbrev pub one_more : List Entry → List ℕ → Option (List Entry × ℕ)
one_more es bs = elim (entry_at bs) [ None ↦ None | Some e ↦ Some (es ++ (e ∷ []), length (entry_bytes e)) ]

-- the entries that bytes hold, or the place of the first that is not whole
abbrev pub entries_in : List ℕ → Result (List Entry) ℕ
entries_in d = parts one_more [] 0 0 d
