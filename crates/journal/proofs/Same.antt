-- What the derived `==` answers of entries and of slices of them.
use Rattle.std.specs.Prelude.{Decides}
use Rattle.std.specs.Cmp.Lexicographic.{pointwise}
use Rattle.std.proofs.Common.{◌≡◌, Bool, List, length, take, sym, refl, subst}
use Rattle.std.proofs.lemmas.Slice.Eq.{slice_eq-Decides}
use Rattle.std.proofs.lemmas.Bool.Decides.{Decides-like, same_from_decides}
use Rattle.journal.specs.contracts.entry.EntryPartialEq.TheImpl.{eq-value}
use Rattle.journal.specs.declared.entry.Entry.{Entry}
use Rattle.journal.specs.declared.entry.Entry.TheVariants.{Key, Tap}
use Rattle.journal.specs.Journals.{same_entry, same_entries, begins}
use Rattle.journal.specs.Rows.{same_entry_decides, same_entries_decides}

-- it is the comparison of the definitions
pub derived : (a b : Entry) → eq-value.it a b ≡ same_entry a b
derived (Key a) (Key b) = refl
derived (Key a) (Tap c f m) = refl
derived (Tap c f m) (Key b) = refl
derived (Tap c f m) (Tap c' f' m') = refl

pub decides : (a b : Entry) → Decides (eq-value.it a b) (a ≡ b)
decides a b = let D : Bool → Type 0 = λ r. Decides r (a ≡ b) in subst D (sym (derived a b)) (same_entry_decides a b)

pub slices_same : (xs ys : List Entry) → pointwise eq-value.it xs ys ≡ same_entries xs ys
slices_same xs ys = same_from_decides _ _ (slice_eq-Decides decides xs ys _ refl) (same_entries_decides xs ys)

-- a front compared, as `strip_prefix` does
pub front_same : (old all : List Entry) → pointwise eq-value.it (take (length old) all) old ≡ begins old all
front_same old all =
    let front = take (length old) all in
    same_from_decides _ _ (slice_eq-Decides decides front old _ refl) (Decides-like _ sym sym (same_entries_decides old front))
