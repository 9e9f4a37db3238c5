-- Lemmas on the lines of a text.
use Rattle.std.proofs.Common.{◌≡◌, ℕ, suc, ◌+◌, ◌-◌, ◌<◌, ◌≤◌, min, not, eqb, ltb, List, [], ◌∷◌, ◌++◌, length, take, drop, unwrap_or, sym, refl, ap, ◌∙◌, subst, ⊎_elim, one-add, arith}
use Rattle.std.specs.List.{AllByRecursion, position}
use Rattle.std.proofs.lemmas.Bool.{cases_eq, cases_lt, cond_both, cond-true, cond-false, eq-eqb, le-ltb, lt-ltb, ne_eqb}
use Rattle.std.proofs.lemmas.List.Sums.{prefix_len-le-length}
use Rattle.std.proofs.Math.Nat.{min_comm}
use Rattle.std.proofs.lemmas.List.{drop-drop, drop_all, length-drop, length-take-le, take_rest}
use Rattle.trace.specs.Lines.{onto, lines_of, joined, lacking, Unbroken, Rejoins, line_length, next_place, next_count, numbered_on, LineAt}

-- a byte that ends a line, and one that doesn't
lines_end : (b : ℕ) (text : List ℕ) → b ≡ 10 → lines_of (b ∷ text) ≡ [] ∷ lines_of text
lines_end b text e = rw (eq-eqb b 10 e)

lines_on : (b : ℕ) (text : List ℕ) → (b ≡ 10 → ⊥) → lines_of (b ∷ text) ≡ onto b (lines_of text)
lines_on b text ne = rw (ne_eqb b 10 ne)

length_end : (b : ℕ) (text : List ℕ) → b ≡ 10 → line_length (b ∷ text) ≡ 0
length_end b text e = rw (eq-eqb b 10 e)

length_on : (b : ℕ) (text : List ℕ) → (b ≡ 10 → ⊥) → line_length (b ∷ text) ≡ 1 + line_length text
length_on b text ne = rw (ne_eqb b 10 ne)

-- the first line of a text has k bytes
abbrev First : List ℕ → ℕ → Type 0
First text k = lines_of text ≡ take k text ∷ lines_of (drop (suc k) text)

first_on : (b : ℕ) (text : List ℕ) (k : ℕ) → (b ≡ 10 → ⊥) → First text k → First (b ∷ text) (suc k)
first_on b text k ne first = lines_on b text ne ∙ ap (onto b) first

lines_first : (text : List ℕ) → 0 < length text → First text (line_length text)
lines_first [] some = absurd (omega arith)
lines_first (b ∷ []) some =
    ⊎_elim
    (λ e. subst (First (b ∷ [])) (sym (length_end b [] e)) (lines_end b [] e))
    (λ ne. subst (First (b ∷ [])) (sym (length_on b [] ne)) (lines_on b [] ne))
    (cases_eq b 10)
lines_first (b ∷ (next ∷ text)) some =
    ⊎_elim
    (λ e. subst (First (b ∷ (next ∷ text))) (sym (length_end b (next ∷ text) e)) (lines_end b (next ∷ text) e))
    (λ ne. subst (First (b ∷ (next ∷ text))) (sym (length_on b (next ∷ text) ne ∙ one-add (line_length (next ∷ text)))) (first_on b (next ∷ text) (line_length (next ∷ text)) ne (lines_first (next ∷ text) (omega arith))))
    (cases_eq b 10)

-- where the first 0A stands, or the text's length
pub first_or_all : (text : List ℕ) → unwrap_or (position (λ b. eqb b 10) text) (length text) ≡ line_length text
first_or_all text =
    ⊎_elim
    (λ (inside : line_length text < length text). rw (lt-ltb (line_length text) (length text) inside))
    (λ past. rw (le-ltb (line_length text) (length text) past) (omega (arith, prefix_len-le-length (λ b. not (eqb b 10)) text)))
    (cases_lt (line_length text) (length text))

-- past the end of a text is its end
drop_min : (n : ℕ) (text : List ℕ) → drop (min n (length text)) text ≡ drop n text
drop_min n text =
    ⊎_elim
    (λ inside. ap (λ k. drop k text) (omega arith))
    (λ past. drop_all (min n (length text)) text (omega arith) ∙ sym (drop_all n text past))
    (cases_lt n (length text))

-- the line at a place of a text, and the lines behind it
line_at : (text : List ℕ) (at : ℕ) → at < length text → lines_of (drop at text) ≡ take (line_length (drop at text)) (drop at text) ∷ lines_of (drop (min (at + line_length (drop at text) + 1) (length text)) text)
line_at text at inside =
    let rest = drop at text in
    let k = line_length rest in
    let place : at + suc k ≡ at + k + 1 = omega arith in
    lines_first rest (omega (arith, length-drop at text))
    ∙ ap (λ s. take k rest ∷ lines_of s) (drop-drop (suc k) at text ∙ ap (λ n. drop n text) place ∙ sym (drop_min (at + k + 1) text))

-- what the code finds, where k is the length of the line
pub found : (text : List ℕ) (at k next : ℕ) → at < length text → k ≡ line_length (take (length text - at) (drop at text)) → k ≤ length (take (length text - at) (drop at text)) → next ≡ min (length text) (at + length (take k (take (length text - at) (drop at text))) + 1) → LineAt text at (take k (take (length text - at) (drop at text))) next
found text at k next inside e bound is =
    let rest = take_rest text at in
    let len : k ≡ line_length (drop at text) = e ∙ ap line_length rest in
    let place : next ≡ min (at + line_length (drop at text) + 1) (length text) = is ∙ ap (λ n. min (length text) (at + n + 1)) (length-take-le k (take (length text - at) (drop at text)) bound ∙ len) ∙ min_comm (length text) (at + line_length (drop at text) + 1) in
    let line : take k (take (length text - at) (drop at text)) ≡ take (line_length (drop at text)) (drop at text) = ap (λ n. take n (take (length text - at) (drop at text))) len ∙ ap (take (line_length (drop at text))) rest in (
      inside,
      place ∙ sym (cond-true (ltb at (length text)) _ at (lt-ltb at (length text) inside)),
      line_at text at inside ∙ ap (λ l. l ∷ lines_of (drop (min (at + line_length (drop at text) + 1) (length text)) text)) (sym line) ∙ ap (λ n. take k (take (length text - at) (drop at text)) ∷ lines_of (drop n text)) (sym place),
    )

-- at the end of a text nothing is left, before it and after a call
pub none_left : (text : List ℕ) (at next count number : ℕ) → lines_of (drop at text) ≡ [] → next ≡ next_place text at → (numbered_on count (lines_of (drop at text)) ≡ []) × (numbered_on number (lines_of (drop next text)) ≡ [])
none_left text at next count number none is =
    ⊎_elim
    (λ inside. absurd (let never : [] ≡ take (line_length (drop at text)) (drop at text) ∷ lines_of (drop (min (at + line_length (drop at text) + 1) (length text)) text) = sym none ∙ line_at text at inside in grind arith))
    (λ past.
    let stays : next ≡ at = is ∙ cond-false (ltb at (length text)) _ at (le-ltb at (length text) past) in
    (ap (numbered_on count) none, ap (λ n. numbered_on number (lines_of (drop n text))) stays ∙ ap (numbered_on number) none))
    (cases_lt at (length text))

-- before it a call gives the first of the numbered lines and leaves the others
pub next_left : (text line : List ℕ) (at next count number : ℕ) → length text ≤ 18446744073709551615 → count ≤ at → lines_of (drop at text) ≡ line ∷ lines_of (drop next text) → number ≡ next_count text at count → numbered_on count (lines_of (drop at text)) ≡ (number, line) ∷ numbered_on number (lines_of (drop next text))
next_left text line at next count number room behind lines is =
    ⊎_elim
    (λ inside.
    let on : number ≡ count + 1 = is ∙ cond-true (ltb at (length text)) _ count (lt-ltb at (length text) inside) ∙ omega arith in
    ap (numbered_on count) lines ∙ ap (λ n. (n, line) ∷ numbered_on n (lines_of (drop next text))) (sym on))
    (λ past. absurd (let never : [] ≡ line ∷ lines_of (drop next text) = sym (ap lines_of (drop_all at text past)) ∙ lines in grind arith))
    (cases_lt at (length text))

-- the lines of a text have no 0A
onto_unbroken : (b : ℕ) (lines : List (List ℕ)) → (b ≡ 10 → ⊥) → AllByRecursion Unbroken lines → AllByRecursion Unbroken (onto b lines)
onto_unbroken b [] ne all = ((ne, tt), tt)
onto_unbroken b (line ∷ lines) ne all = ((ne, all.0), all.1)

unbroken : (text : List ℕ) → AllByRecursion Unbroken (lines_of text)
unbroken [] = tt
unbroken (b ∷ text) =
    ⊎_elim
    (λ e. subst (AllByRecursion Unbroken) (sym (lines_end b text e)) (tt, unbroken text))
    (λ ne. subst (AllByRecursion Unbroken) (sym (lines_on b text ne)) (onto_unbroken b (lines_of text) ne (unbroken text)))
    (cases_eq b 10)

-- joined, they are the text again
onto_some : (b : ℕ) (lines : List (List ℕ)) → 0 < length (onto b lines)
onto_some b [] = omega arith
onto_some b (line ∷ lines) = omega arith

lines_some : (b : ℕ) (text : List ℕ) → 0 < length (lines_of (b ∷ text))
lines_some b text = cond_both (eqb b 10) ([] ∷ lines_of text) (onto b (lines_of text)) (λ lines. 0 < length lines) (λ _. omega arith) (λ _. onto_some b (lines_of text))

joined_onto : (b : ℕ) (lines : List (List ℕ)) → 0 < length lines → joined (onto b lines) ≡ b ∷ joined lines
joined_onto b [] some = absurd (omega arith)
joined_onto b (line ∷ lines) some = refl

whole : (text : List ℕ) → joined (lines_of text) ≡ text ++ lacking text
whole [] = refl
whole (b ∷ []) =
    ⊎_elim
    (λ e. rw (eq-eqb b 10 e) (ap (λ k. k ∷ []) (sym e)))
    (λ ne. rw (ne_eqb b 10 ne))
    (cases_eq b 10)
whole (b ∷ (next ∷ text)) =
    ⊎_elim
    (λ e. ap joined (lines_end b (next ∷ text) e) ∙ ap (λ k. k ∷ joined (lines_of (next ∷ text))) (sym e) ∙ ap (λ s. b ∷ s) (whole (next ∷ text)))
    (λ ne. ap joined (lines_on b (next ∷ text) ne) ∙ joined_onto b (lines_of (next ∷ text)) (lines_some next text) ∙ ap (λ s. b ∷ s) (whole (next ∷ text)))
    (cases_eq b 10)

-- and the lines of joined lines are those
joined_first : (line text : List ℕ) → Unbroken line → lines_of (line ++ (10 ∷ text)) ≡ line ∷ lines_of text
joined_first [] text all = refl
joined_first (b ∷ line) text all = lines_on b (line ++ (10 ∷ text)) all.0 ∙ ap (onto b) (joined_first line text all.1)

same : (lines : List (List ℕ)) → AllByRecursion Unbroken lines → lines_of (joined lines) ≡ lines
same [] all = refl
same (line ∷ lines) all = joined_first line (joined lines) all.0 ∙ ap (λ ls. line ∷ ls) (same lines all.1)

pub rejoins : Rejoins
rejoins = record { unbroken = unbroken; whole = whole; same = same }
