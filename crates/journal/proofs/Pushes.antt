-- One entry more, in a journal's array and in its contents.
use Rattle.std.proofs.Common.{◌≡◌, ℕ, ◌+◌, ◌<◌, ◌≤◌, Bool, true, false, ◌&&◌, ltb, List, [], ◌∷◌, ◌++◌, length, take, set, Ok, Err, Result, sym, refl, ap, ◌∙◌, arith}
use Rattle.std.specs.Prelude.{nat_le}
use Rattle.std.proofs.lemmas.List.{length_push, length-take-le, take_more_set}
use Rattle.std.proofs.lemmas.Bool.{and_from, cond_both, cond-true, le-leb, leb-false, leb-true, lt-ltb}
use Rattle.state.specs.declared.fault.EditRefusal.{EditRefusal}
use Rattle.state.specs.declared.fault.EditRefusal.TheVariants.{Full}
use Rattle.journal.specs.declared.entry.Entry.{Entry}
use Rattle.journal.specs.declared.entry.Entry.TheVariants.{Key, Tap}
use Rattle.journal.specs.declared.journal.Journal.{Journal}
use Rattle.journal.specs.Edits.{keyed, pushed, tapped}
use Rattle.journal.specs.Journals.{Contents, few, reading, rows, within}
use Rattle.journal.specs.Rows.{few_yes, reading_is}

-- the entries shown are the first of the array, as many as they are
rows_first : (j : Journal) → length j.entries ≡ 64 → take (length (rows j)) j.entries ≡ rows j
rows_first j whole =
    cond_both (nat_le j.count 64) (take j.count j.entries) [] (λ es. take (length es) j.entries ≡ es)
    (λ t. ap (λ n. take n j.entries) (length-take-le j.count j.entries (omega (arith, leb-true j.count 64 t))))
    (λ _. refl)

pub push_ok : (j : Journal) (e : Entry) (at : ℕ) → length j.entries ≡ 64 → at ≡ length (reading j).0 → at < 64 → pushed (reading j) e ≡ Ok (reading (record { entries = set j.entries at e; count = at + 1 }))
push_ok j e at whole at-is room =
    let j' : Journal = record { entries = set j.entries at e; count = at + 1 } in
    let ok : Contents → Result Contents EditRefusal = λ t. Ok t in
    let first : take at j.entries ≡ (reading j).0 = ap (λ n. take n j.entries) (at-is ∙ ap length (reading_is j)) ∙ rows_first j whole ∙ sym (reading_is j) in
    few_yes ((reading j).0 ++ (e ∷ [])) ok (Err Full) (reading j')
    (ap (λ es. es ++ (e ∷ [])) (sym first)
    ∙ sym (reading_is j' ∙ cond-true _ _ [] (le-leb _ 64 (omega arith)) ∙ take_more_set j.entries at e (omega arith)))

within_ok : (es : List Entry) (b : Bool) (few-is : few es ≡ b) (t : Contents) → ◌≡◌ {A = Result Contents EditRefusal} (within es b few-is (λ c. Ok c) (Err Full)) (Ok t) → t.0 ≡ es
within_ok es true few-is t is = let same : t ≡ (es, few-is) = cc in ap (λ (c : Contents). c.0) same
within_ok es false few-is t is = let z : ◌≡◌ {A = ℕ} 0 1 = cc in absurd (omega arith)

within_err : (es : List Entry) (b : Bool) (few-is : few es ≡ b) (f : EditRefusal) → ◌≡◌ {A = Result Contents EditRefusal} (within es b few-is (λ c. Ok c) (Err Full)) (Err f) → few es ≡ false
within_err es true few-is f is = let z : ◌≡◌ {A = ℕ} 0 1 = cc in absurd (omega arith)
within_err es false few-is f is = few-is

-- the contents that one entry more gives
pub push_more : (c : Contents) (e : Entry) (t : Contents) → pushed c e ≡ Ok t → t.0 ≡ c.0 ++ (e ∷ [])
push_more c e t is = within_ok (c.0 ++ (e ∷ [])) _ refl t is

-- contents that have no room for one
pub push_full : (c : Contents) (e : Entry) (f : EditRefusal) → pushed c e ≡ Err f → 64 ≤ length c.0
push_full c e f is =
    let es = c.0 ++ (e ∷ []) in
    omega (arith, leb-false (length es) 64 (within_err es _ refl f is), length_push c.0 e)

pub key_fits : (c : Contents) (code : ℕ) → code < 256 → keyed c code ≡ pushed c (Key code)
key_fits c code small = cond-true (ltb code 256) _ _ (lt-ltb code 256 small)

pub tap_fits : (c : Contents) (card fare balance : ℕ) → fare < 65536 → balance < 65536 → tapped c card fare balance ≡ pushed c (Tap card fare balance)
tap_fits c card fare balance fs bs =
    cond-true (ltb fare 65536 && ltb balance 65536) _ _ (and_from _ _ (lt-ltb fare 65536 fs) (lt-ltb balance 65536 bs))
