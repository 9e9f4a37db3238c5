-- When journals are the same, and when one follows another.
use Rattle.std.specs.Prelude.{◌≡◌, ◌<◌, ◌≤◌, Bool, true, false, ◌&&◌, List, [], ◌∷◌, ◌++◌, length, take, drop, Some, None, Decides, Option, MatchOption, ◌==◌, ◌≢◌, nat_le, refl}
use Rattle.std.proofs.Common.{sym, ap, ◌∙◌, arith, inl, inr}
use Rattle.std.proofs.Math.Bool.{Bool-set}
use mathlib.Core.HLevel.{Σ_prop_path}
use Rattle.std.proofs.lemmas.Slice.Eq.{slice_eq-Decides}
use Rattle.std.proofs.lemmas.List.{length-take, take_all, take_at, take-take, take-append-drop}
use Rattle.std.proofs.lemmas.Bool.{both_ways, cases_Bool, cond_both, false≢true, le-leb, lt-leb, leb-true}
use Rattle.std.proofs.lemmas.Bool.Decides.{Decides-and, Decides-eqb, Decides-like, same_from_decides}
use Rattle.std.proofs.lemmas.List.Prefix.{front_rest}
use Rattle.std.specs.Borrow.{Bor}
use Rattle.std.specs.Cmp.{IsEquivalence}
use Rattle.std.specs.Cmp.Lexicographic.{pointwise}
use Rattle.state.specs.Kind.{Exact, Itself, Onward}
use Rattle.journal.specs.declared.entry.Entry.{Entry}
use Rattle.journal.specs.declared.entry.Entry.TheVariants.{Key, Tap}
use Rattle.journal.specs.declared.journal.Journal.{Journal}
use Rattle.journal.specs.Journals.{few, Contents, within, if_few, start, rows, reading, same_entry, same_entries, begins, follows, journal_kind}

pub same_contents : (a b : Contents) → a.0 ≡ b.0 → a ≡ b
same_contents a b e = Σ_prop_path (λ es. Bool-set (few es) true) e

within_yes : {X : Type 0} (es : List Entry) (b : Bool) (e : few es ≡ b) (found : Contents → X) (other : X) (t : Contents) → es ≡ t.0 → within es b e found other ≡ found t
within_yes es true e found other t is = ap found (same_contents (es, e) t is)
within_yes es false e found other t is = absurd (both_ways (few es) e (ap few is ∙ t.1))

within_no : {X : Type 0} (es : List Entry) (b : Bool) (e : few es ≡ b) (found : Contents → X) (other : X) → 64 < length es → within es b e found other ≡ other
within_no es true e found other many = absurd (both_ways (few es) (lt-leb _ 64 many) e)
within_no es false e found other many = refl

-- entries that are contents, and too many
pub few_yes : {X : Type 0} (es : List Entry) (found : Contents → X) (other : X) (t : Contents) → es ≡ t.0 → if_few es found other ≡ found t
few_yes es = within_yes es (few es) refl

pub few_no : {X : Type 0} (es : List Entry) (found : Contents → X) (other : X) → 64 < length es → if_few es found other ≡ other
few_no es = within_no es (few es) refl

pub rows_few : (j : Journal) → length (rows j) ≤ 64
rows_few j =
    cond_both (nat_le j.count 64) (take j.count j.entries) [] (λ es. length es ≤ 64)
    (λ e. omega (arith, leb-true j.count 64 e, length-take j.count j.entries))
    (λ _. omega arith)

pub reading_is : (j : Journal) → (reading j).0 ≡ rows j
reading_is j =
    let c : Contents = (rows j, le-leb _ 64 (rows_few j)) in
    ap (λ (t : Contents). t.0) (few_yes (rows j) (λ t. t) start c refl)

-- a value reads as its entries
pub reads_as : (j : Journal) (c : Contents) → rows j ≡ c.0 → reading j ≡ c
reads_as j c e = same_contents (reading j) c (reading_is j ∙ e)

pub same_entry_decides : (a b : Entry) → Decides (same_entry a b) (a ≡ b)
same_entry_decides (Key a) (Key b) = Decides-like (a == b) (λ e. cc) (λ e. cc) (Decides-eqb a b)
same_entry_decides (Key a) (Tap c f m) = (λ e. absurd (false≢true e), λ e. cc)
same_entry_decides (Tap c f m) (Key b) = (λ e. absurd (false≢true e), λ e. cc)
same_entry_decides (Tap c f m) (Tap c' f' m') =
    Decides-like (c == c' && (f == f' && m == m')) (λ e. cc) (λ e. (cc, (cc, cc)))
    (Decides-and _ _ (Decides-eqb c c') (Decides-and _ _ (Decides-eqb f f') (Decides-eqb m m')))

-- so `==` on entries is an equivalence
pub same_entry_equiv : IsEquivalence same_entry
same_entry_equiv = record {
  refl = λ a. (same_entry_decides a a).1 refl;
  symm = λ a b. same_from_decides (same_entry a b) (same_entry b a) (same_entry_decides a b) (λ e. sym ((same_entry_decides b a).0 e), λ e. (same_entry_decides b a).1 (sym e));
  congr = λ a b c e. ap (λ x. same_entry x c) ((same_entry_decides a b).0 e);
}

pub same_entries_decides : (xs ys : List Entry) → Decides (same_entries xs ys) (xs ≡ ys)
same_entries_decides [] [] = (λ _. refl, λ _. refl)
same_entries_decides [] (y ∷ ys) = (λ e. absurd (false≢true e), λ e. cc)
same_entries_decides (x ∷ xs) [] = (λ e. absurd (false≢true e), λ e. cc)
same_entries_decides (x ∷ xs) (y ∷ ys) =
    Decides-like (same_entry x y && same_entries xs ys) (λ e. cc) (λ e. (cc, cc))
    (Decides-and _ _ (same_entry_decides x y) (same_entries_decides xs ys))

-- what `==` on slices of entries answers
pub compared : {E : Entry → Entry → Bool} → ((a b : Entry) → Decides (E a b) (a ≡ b)) → (xs ys : List Entry) (r : Bool) → r ≡ pointwise E xs ys → r ≡ same_entries xs ys
compared d xs ys r m = same_from_decides r (same_entries xs ys) (slice_eq-Decides d xs ys r m) (same_entries_decides xs ys)

pub journal_exact : Exact journal_kind
journal_exact a b =
    Decides-like (same_entries a.0 b.0) (same_contents a b) (λ e. ap (λ (c : Contents). c.0) e) (same_entries_decides a.0 b.0)

-- a base is its follower's front
pub front : (b t : Contents) → follows b t ≡ true → b.0 ≡ take (length b.0) t.0
front b t f = (same_entries_decides b.0 (take (length b.0) t.0)).0 f

pub journal_itself : Itself journal_kind
journal_itself a = (same_entries_decides a.0 (take (length a.0) a.0)).1 (sym (take_all (length a.0) a.0 (omega arith)))

pub journal_onward : Onward journal_kind
journal_onward a b c f g =
    let n = length a.0 in
    let m = length b.0 in
    let short : n ≤ m = omega (arith, ap length (front a b f), length-take n b.0) in
    (same_entries_decides a.0 (take n c.0)).1
    (front a b f ∙ ap (take n) (front b c g) ∙ take-take n m c.0 short)

-- what `strip_prefix` on slices of entries answers
pub stripped : (all old : List Entry) (r : Option (Bor (List Entry))) → MatchOption r ((rest : List Entry) → all ≢ old ++ rest) (λ x. all ≡ old ++ x.now) → MatchOption r (begins old all ≡ false) (λ x. (begins old all ≡ true) × (x.now ≡ drop (length old) all))
stripped all old None none =
    let no' : begins old all ≡ true → ⊥ = λ e. none (drop (length old) all) (sym (ap (λ x. x ++ drop (length old) all) ((same_entries_decides old (take (length old) all)).0 e) ∙ take-append-drop (length old) all)) in
    elim (cases_Bool (begins old all)) [ inl t ↦ absurd (no' t) | inr f ↦ f ]
stripped all old (Some x) e =
    ((same_entries_decides old (take (length old) all)).1 (sym (ap (take (length old)) e ∙ take_at old x.now (length old) refl)), sym (front_rest all old x.now e))
