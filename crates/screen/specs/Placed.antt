-- Laws of lists with others put in place of some elements.
use Rattle.std.specs.Prelude.{◌≡◌, ℕ, zero, suc, ◌+◌, ◌<◌, ◌≤◌, true, List, [], ◌∷◌, ◌++◌, length, take, drop, set, slice_set, refl}
use Rattle.std.proofs.Common.{sym, ap, ◌∙◌, append_assoc, arith, drop-drop}
use borrow.Rule.Slice.PartMut.{put_mid}
use Rattle.std.proofs.lemmas.List.{append-nil, drop_all, length-append, length-drop, take_at, drop_at, take-append-drop, take-take, drop-take, set_split, length-set, length-take-le}
use Rattle.std.proofs.lemmas.Bool.{and_parts, and_from}
use Rattle.std.proofs.lemmas.List.Recursion.{and_set}
use Rattle.screen.specs.Runs.{is_character, all_characters, put}

-- a front in two parts
pub take_plus : (i m : ℕ) (xs : List ℕ) → take (i + m) xs ≡ take i xs ++ take m (drop i xs)
take_plus i m xs =
    sym (take-append-drop i (take (i + m) xs))
    ∙ ap (λ r. r ++ drop i (take (i + m) xs)) (take-take i (i + m) xs (omega arith))
    ∙ ap (λ r. take i xs ++ r) (drop-take i m xs)

pub length_put : (xs : List ℕ) (i : ℕ) (ys : List ℕ) → i + length ys ≤ length xs → length (put xs i ys) ≡ length xs
length_put xs i ys h = omega (arith, length-append (take i xs) (ys ++ drop (i + length ys) xs), length-append ys (drop (i + length ys) xs), length-take-le i xs (omega arith), length-drop (i + length ys) xs)

-- a list put behind another
pub put_put : (xs : List ℕ) (i : ℕ) (ys zs : List ℕ) (j : ℕ) → j ≡ i + length ys → j + length zs ≤ length xs → put (put xs i ys) j zs ≡ put xs i (ys ++ zs)
put_put xs i ys zs j e h =
    let n : length (take i xs) ≡ i = length-take-le i xs (omega arith) in
    let l : length (take i xs ++ ys) ≡ j = omega (arith, length-append (take i xs) ys) in
    let shape : put xs i ys ≡ (take i xs ++ ys) ++ drop j xs = sym (append_assoc (take i xs) ys (drop (i + length ys) xs)) ∙ ap (λ k. (take i xs ++ ys) ++ drop k xs) (sym e) in
    let behind : drop (j + length zs) (put xs i ys) ≡ drop (j + length zs) xs =
    sym (drop-drop (length zs) j (put xs i ys)) ∙ ap (drop (length zs)) (ap (drop j) shape ∙ drop_at (take i xs ++ ys) (drop j xs) j l) ∙ drop-drop (length zs) j xs in
    let before : take j (put xs i ys) ≡ take i xs ++ ys = ap (take j) shape ∙ take_at (take i xs ++ ys) (drop j xs) j l in
    ap (λ r. take j (put xs i ys) ++ (zs ++ r)) behind
    ∙ ap (λ r. r ++ (zs ++ drop (j + length zs) xs)) before
    ∙ append_assoc (take i xs) ys (zs ++ drop (j + length zs) xs)
    ∙ ap (λ r. take i xs ++ r) (sym (append_assoc ys zs (drop (j + length zs) xs)))
    ∙ ap (λ k. take i xs ++ ((ys ++ zs) ++ drop k xs)) (omega (arith, length-append ys zs))

-- nothing put
pub put_none : (xs : List ℕ) (i : ℕ) → put xs i [] ≡ xs
put_none xs i = ap (λ k. take i xs ++ drop k xs) (omega arith) ∙ take-append-drop i xs

-- all elements replaced
pub put_whole : (xs ys : List ℕ) → length xs ≡ length ys → put xs 0 ys ≡ ys
put_whole xs ys h = ap (λ r. ys ++ r) (drop_all (0 + length ys) xs (omega arith)) ∙ append-nil ys

-- one element put
pub put_one : (xs : List ℕ) (i x : ℕ) → i < length xs → slice_set xs i x ≡ put xs i (x ∷ [])
put_one xs i x h = set_split xs i x h ∙ ap (λ k. take i xs ++ (x ∷ drop k xs)) {x = suc i} {y = i + 1} (omega arith)

-- a part of a buffer, written whole
pub put_part : (xs ys : List ℕ) (i k : ℕ) → k ≡ length ys → put_mid i k xs ys ≡ put xs i ys
put_part xs ys i k e = ap (λ r. take i xs ++ (ys ++ r)) (drop-drop k i xs ∙ ap (λ n. drop (i + n) xs) e)

-- a target up to position i, and the base from there on
abbrev pub halfway : List ℕ → List ℕ → ℕ → List ℕ
halfway b t i = take i t ++ drop i b

pub halfway_more : (b t : List ℕ) (i m : ℕ) → length b ≡ length t → i + m ≤ length t → put (halfway b t i) i (take m (drop i t)) ≡ halfway b t (i + m)
halfway_more b t i m e h =
    let n : length (take i t) ≡ i = length-take-le i t (omega arith) in
    let k : length (take m (drop i t)) ≡ m = length-take-le m (drop i t) (omega (arith, length-drop i t)) in
    let before : take i (halfway b t i) ≡ take i t = take_at (take i t) (drop i b) i n in
    let behind : drop (i + length (take m (drop i t))) (halfway b t i) ≡ drop (i + m) b =
    ap (λ x. drop (i + x) (halfway b t i)) k ∙ sym (drop-drop m i (halfway b t i)) ∙ ap (drop m) (drop_at (take i t) (drop i b) i n) ∙ drop-drop m i b in
    ap (λ r. r ++ (take m (drop i t) ++ drop (i + length (take m (drop i t))) (halfway b t i))) before
    ∙ ap (λ r. take i t ++ (take m (drop i t) ++ r)) behind
    ∙ sym (append_assoc (take i t) (take m (drop i t)) (drop (i + m) b))
    ∙ ap (λ r. r ++ drop (i + m) b) (sym (take_plus i m t))

-- characters, in a part of a list
pub characters_drop : (i : ℕ) (xs : List ℕ) → all_characters xs ≡ true → all_characters (drop i xs) ≡ true
characters_drop zero xs h = h
characters_drop (suc i) [] h = refl
characters_drop (suc i) (x ∷ xs) h = characters_drop i xs (and_parts (is_character x) (all_characters xs) h).1

pub characters_take : (i : ℕ) (xs : List ℕ) → all_characters xs ≡ true → all_characters (take i xs) ≡ true
characters_take zero xs h = refl
characters_take (suc i) [] h = refl
characters_take (suc i) (x ∷ xs) h =
    let p = and_parts (is_character x) (all_characters xs) h in
    and_from (is_character x) (all_characters (take i xs)) p.0 (characters_take i xs p.1)

pub characters_set : (xs : List ℕ) (i a : ℕ) → is_character a ≡ true → all_characters xs ≡ true → all_characters (slice_set xs i a) ≡ true
characters_set xs i a e h = and_set all_characters is_character refl (λ _ _. refl) xs i a e h

-- three elements and a list behind them, written one after another
pub put_three : (xs : List ℕ) (i a b c : ℕ) (ys : List ℕ) → i + (3 + length ys) ≤ length xs → put (slice_set (slice_set (slice_set xs i a) (i + 1) b) (i + 2) c) (i + 3) ys ≡ put xs i (a ∷ b ∷ c ∷ ys)
put_three xs i a b c ys h =
    let one : set xs i a ≡ put xs i (a ∷ []) = put_one xs i a (omega arith) in
    let two : set (slice_set xs i a) (i + 1) b ≡ put xs i (a ∷ b ∷ []) =
    put_one (slice_set xs i a) (i + 1) b (omega (arith, length-set xs i a))
    ∙ ap (λ zs. put zs (i + 1) (b ∷ [])) one
    ∙ put_put xs i (a ∷ []) (b ∷ []) (i + 1) refl (omega arith) in
    let three : set (slice_set (slice_set xs i a) (i + 1) b) (i + 2) c ≡ put xs i (a ∷ b ∷ c ∷ []) =
    put_one (slice_set (slice_set xs i a) (i + 1) b) (i + 2) c (omega (arith, length-set xs i a, length-set (slice_set xs i a) (i + 1) b))
    ∙ ap (λ zs. put zs (i + 2) (c ∷ [])) two
    ∙ put_put xs i (a ∷ b ∷ []) (c ∷ []) (i + 2) refl (omega arith) in
    ap (λ zs. put zs (i + 3) ys) three ∙ put_put xs i (a ∷ b ∷ c ∷ []) ys (i + 3) refl (omega arith)
