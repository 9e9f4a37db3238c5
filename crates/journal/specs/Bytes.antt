-- Entries written are the entries read.
use Rattle.std.specs.Prelude.{◌≡◌, ℕ, ◌+◌, ◌-◌, ◌*◌, ◌<◌, ◌≤◌, Bool, true, false, cond, ◌&&◌, List, [], ◌∷◌, ◌++◌, length, take, drop, Some, None, Ok, Err, Option, Result, ◌==◌, nat_le, slice_index, slice_index_or, refl}
use Rattle.std.proofs.Common.{sym, ap, subst, ◌∙◌, arith}
use Rattle.std.proofs.lemmas.List.{append_assoc, append-nil, drop_all, drop_at, drop-drop, flat_map_more, length-append, length-drop, take-append-drop, take_at, take_more, take_rest}
use borrow.Rule.Slice.PartMut.{put_mid}
use Rattle.std.proofs.lemmas.Bool.{and_parts, cond-true, le-leb, leb-true}
use Rattle.state.specs.declared.fault.StateFault.{StateFault}
use Rattle.state.specs.declared.fault.StateFault.TheVariants.{BadEntry}
use Rattle.state.specs.BigEndian.{of_four, of_two}
use Rattle.state.specs.Kind.{Reaches}
use Rattle.state.specs.Parts.{parts}
use Rattle.state.proofs.Cuts.{parts_good}
use Rattle.journal.specs.declared.entry.Entry.{Entry}
use Rattle.journal.specs.declared.entry.Entry.TheVariants.{Key, Tap}
use Rattle.journal.specs.Entries.{entry_bytes, entries_bytes, entry_at, one_more, entries_in}
use Rattle.journal.specs.Journals.{Contents, added, applied, grown, journal_kind}
use Rattle.journal.specs.Rows.{few_yes, front}

some_tap : (c c' f f' m m' : ℕ) → c ≡ c' → f ≡ f' → m ≡ m' → ◌≡◌ {A = Option Entry} (Some (Tap c f m)) (Some (Tap c' f' m'))
some_tap c c' f f' m m' p q r = cc

pub entry_back : (e : Entry) (rest : List ℕ) → entry_at (entry_bytes e ++ rest) ≡ Some e
entry_back (Key code) rest = cond-true (nat_le 2 (length (entry_bytes (Key code) ++ rest))) _ _ (le-leb 2 _ (omega arith))
entry_back (Tap card fare balance) rest =
    cond-true (nat_le 9 (length (entry_bytes (Tap card fare balance) ++ rest))) _ _ (le-leb 9 _ (omega arith))
    ∙ some_tap _ card _ fare _ balance (omega arith) (omega arith) (omega arith)

pub width_pos : (e : Entry) → 0 < length (entry_bytes e)
width_pos (Key code) = omega arith
width_pos (Tap card fare balance) = omega arith

pub width_le : (e : Entry) → length (entry_bytes e) ≤ 9
width_le (Key code) = omega arith
width_le (Tap card fare balance) = omega arith

-- one entry read
pub more : (es : List Entry) (bs : List ℕ) (e : Entry) → entry_at bs ≡ Some e → one_more es bs ≡ Some (es ++ (e ∷ []), length (entry_bytes e))
more es bs e is =
    let on : Option Entry → Option (List Entry × ℕ) = λ o. elim o [ None ↦ None | Some x ↦ Some (es ++ (x ∷ []), length (entry_bytes x)) ] in
    ap on is

read_all : (es acc : List Entry) (at : ℕ) → parts one_more acc at 0 (entries_bytes es) ≡ Ok (acc ++ es)
read_all [] acc at = let ok : List Entry → Result (List Entry) ℕ = λ x. Ok x in ap ok (sym (append-nil acc))
read_all (e ∷ es) acc at =
    let ok : List Entry → Result (List Entry) ℕ = λ x. Ok x in
    let bs = entry_bytes e ++ entries_bytes es in
    let n = length (entry_bytes e) in
    parts_good one_more acc (acc ++ (e ∷ [])) at n bs (width_pos e) (omega (arith, length-append (entry_bytes e) (entries_bytes es))) (more acc bs e (entry_back e (entries_bytes es)))
    ∙ ap (parts one_more (acc ++ (e ∷ [])) (at + n) 0) (drop_at (entry_bytes e) (entries_bytes es) n refl)
    ∙ read_all es (acc ++ (e ∷ [])) (at + n)
    ∙ ap ok (append_assoc acc (e ∷ []) es)

pub applied_good : (c : Contents) (d : List ℕ) (es : List Entry) → entries_in d ≡ Ok es → applied c d ≡ grown c es
applied_good c d es is =
    let on : Result (List Entry) ℕ → Result Contents StateFault = λ o. elim o [ Ok x ↦ grown c x | Err at ↦ Err (BadEntry at) ] in
    ap on is

pub applied_bad : (c : Contents) (d : List ℕ) (at : ℕ) → entries_in d ≡ Err at → applied c d ≡ Err (BadEntry at)
applied_bad c d at is =
    let on : Result (List Entry) ℕ → Result Contents StateFault = λ o. elim o [ Ok x ↦ grown c x | Err at ↦ Err (BadEntry at) ] in
    ap on is

pub journal_reaches : Reaches journal_kind
journal_reaches b t f short =
    applied_good b (entries_bytes (added b t)) (added b t) (read_all (added b t) [] 0)
    ∙ few_yes (b.0 ++ added b t) (λ c. Ok c) _ t (ap (λ x. x ++ added b t) (front b t f) ∙ take-append-drop (length b.0) t.0)

-- one entry more, as a loop over entries meets it
pub bytes_more : (es : List Entry) (i : ℕ) (d : Entry) → i < length es → entries_bytes (take (i + 1) es) ≡ entries_bytes (take i es) ++ entry_bytes (slice_index_or es i d)
bytes_more es i d here = ap entries_bytes (take_more es i d here) ∙ sym (flat_map_more entry_bytes [] (take i es) (slice_index_or es i d))

pub length_more : (es : List Entry) (i : ℕ) (d : Entry) → i < length es → length (entries_bytes (take (i + 1) es)) ≡ length (entries_bytes (take i es)) + length (entry_bytes (slice_index_or es i d))
length_more es i d here = ap length (bytes_more es i d here) ∙ length-append (entries_bytes (take i es)) (entry_bytes (slice_index_or es i d))

pub bytes_append : (xs ys : List Entry) → entries_bytes (xs ++ ys) ≡ entries_bytes xs ++ entries_bytes ys
bytes_append [] ys = refl
bytes_append (x ∷ xs) ys = ap (λ z. entry_bytes x ++ z) (bytes_append xs ys) ∙ sym (append_assoc (entry_bytes x) (entries_bytes xs) (entries_bytes ys))

-- a front has no more bytes than the whole
pub length_front : (es : List Entry) (i : ℕ) → length (entries_bytes (take i es)) ≤ length (entries_bytes es)
length_front es i =
    omega (arith, ap length (ap entries_bytes (take-append-drop i es)), ap length (bytes_append (take i es) (drop i es)), length-append (entries_bytes (take i es)) (entries_bytes (drop i es)))

pub length_few : (es : List Entry) → length (entries_bytes es) ≤ 9 * length es
length_few [] = omega arith
length_few (e ∷ es) = omega (arith, length-append (entry_bytes e) (entries_bytes es), width_le e, length_few es)

-- an entry written behind others
pub put_more : (es : List Entry) (i : ℕ) (d : Entry) (out out' part : List ℕ) (at n : ℕ)
    → i < length es → at ≡ length (entries_bytes (take i es)) → out' ≡ entries_bytes (take i es) ++ drop at out → n ≡ length (entry_bytes (slice_index_or es i d))
    → part ≡ entry_bytes (slice_index_or es i d) ++ drop (length (entry_bytes (slice_index_or es i d))) (take (length out' - at) (drop at out'))
    → put_mid at (length out' - at) out' part ≡ entries_bytes (take (i + 1) es) ++ drop (at + n) out
put_more es i d out out' part at n here at-is was n-is wrote =
    let done = entries_bytes (take i es) in
    let e = entry_bytes (slice_index_or es i d) in
    let front' : take at out' ≡ done = ap (take at) was ∙ take_at done (drop at out) at (sym at-is) in
    let rest : drop at out' ≡ drop at out = ap (drop at) was ∙ drop_at done (drop at out) at (sym at-is) in
    let all' : take (length out' - at) (drop at out') ≡ drop at out = take_rest out' at ∙ rest in
    let past : drop (length out' - at) (drop at out') ≡ [] = drop_all (length out' - at) (drop at out') (omega (arith, length-drop at out')) in
    ap (λ z. z ++ (part ++ drop (length out' - at) (drop at out'))) front'
    ∙ ap (λ z. done ++ (part ++ z)) past
    ∙ ap (λ z. done ++ z) (append-nil part ∙ wrote ∙ ap (λ z. e ++ drop (length e) z) all' ∙ ap (λ k. e ++ drop k (drop at out)) (sym n-is) ∙ ap (λ z. e ++ z) (drop-drop n at out))
    ∙ sym (append_assoc done e (drop (at + n) out))
    ∙ ap (λ z. z ++ drop (at + n) out) (sym (bytes_more es i d here))

cond_some : {X : Type 0} (b : Bool) (x : X) (o : Option X) (y : X) (P : X → Type 0) → cond b (Some x) o ≡ Some y → (b ≡ true → P x) → (o ≡ Some y → P y) → P y
cond_some true x o y P e p q = let same : x ≡ y = cc in subst P same (p refl)
cond_some false x o y P e p q = q e

-- a whole entry lies within its bytes
pub entry_fits : (bs : List ℕ) (e : Entry) → entry_at bs ≡ Some e → length (entry_bytes e) ≤ length bs
entry_fits bs e is =
    let P : Entry → Type 0 = λ x. length (entry_bytes x) ≤ length bs in
    cond_some (slice_index bs 0 == 1 && nat_le 2 (length bs)) (Key (slice_index bs 1)) _ e P is (λ t. leb-true 2 (length bs) (and_parts _ _ t).1)
    (λ is'. cond_some (slice_index bs 0 == 2 && nat_le 9 (length bs)) (Tap (of_four bs 1) (of_two bs 5) (of_two bs 7)) None e P is' (λ t. leb-true 9 (length bs) (and_parts _ _ t).1) (λ n. never n))
  where
    never : {P : Type 0} → ◌≡◌ {A = Option Entry} None (Some e) → P
    never n = let z : ◌≡◌ {A = ℕ} 0 1 = cc in absurd (omega arith)

-- no entry read
pub no_more : (es : List Entry) (bs : List ℕ) → entry_at bs ≡ None → one_more es bs ≡ None
no_more es bs is =
    let on : Option Entry → Option (List Entry × ℕ) = λ o. elim o [ None ↦ None | Some x ↦ Some (es ++ (x ∷ []), length (entry_bytes x)) ] in
    ap on is
