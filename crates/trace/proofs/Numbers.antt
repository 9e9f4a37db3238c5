-- A number read from the front of a text is written there in decimal.
use Rattle.std.proofs.Common.{◌≡◌, ℕ, ◌+◌, ◌-◌, ◌*◌, ◌/◌, ◌%◌, ◌<◌, ◌≤◌, ◌⊎◌, List, [], ◌∷◌, ◌++◌, Some, None, decimal, Option, sym, ap, ◌∙◌, subst, inl, inr, ⊎_elim, append_assoc, arith}
use Rattle.std.proofs.lemmas.Fmt.{decimal_digit, decimal_step, decimal_by_steps}
use Rattle.std.proofs.lemmas.Bool.{cases_lt}
use Rattle.std.proofs.lemmas.Bool.Decides.{nat_tests}
use Rattle.trace.specs.Format.{Fits}
use Rattle.trace.specs.Fronts.{digit_front, digits_front, number_front}
use Rattle.trace.proofs.Digits.{digits_end, digits_more, digits_over, number_none, number_first}

-- the digit of a number below ten, at the front
pub digit_of_lem : (d : ℕ) (rest : List ℕ) → d < 10 → digit_front ((48 + d) ∷ rest) ≡ Some (d, rest)
digit_of_lem d rest small = grind (arith, nat_tests)

-- a number above 0 in decimal, read up to what stands behind it
abbrev ReadOn : ℕ → List ℕ → Type 0
ReadOn n ds = 0 < n → Fits n → (rest : List ℕ) → number_front (ds ++ rest) ≡ digits_front n rest

one_digit : (n : ℕ) → n < 10 → ReadOn n ((48 + n) ∷ [])
one_digit n small some fits rest = number_first ((48 + n) ∷ rest) rest n (digit_of_lem n rest small) some

one_more : (n : ℕ) (ds : List ℕ) → 10 ≤ n → ReadOn (n / 10) ds → ReadOn n (ds ++ ((48 + n % 10) ∷ []))
one_more n ds large before some fits rest =
    let last = (48 + n % 10) ∷ rest in
    let d : n % 10 < 10 = omega arith in
    let e : n / 10 * 10 + n % 10 ≡ n = omega arith in
    ap number_front (append_assoc ds ((48 + n % 10) ∷ []) rest)
    ∙ before (omega arith) (omega arith) last
    ∙ digits_more (n / 10) (n % 10) last rest (digit_of_lem (n % 10) rest d) (omega arith)
    ∙ ap (λ m. digits_front m rest) e

pub read_on : (n : ℕ) → ReadOn n (decimal n)
read_on n some fits rest = decimal_by_steps ReadOn one_digit one_more n (omega arith) some fits rest

zero_reads : (rest : List ℕ) → number_front (decimal 0 ++ rest) ≡ Some (0, rest)
zero_reads rest = ap (λ ds. number_front (ds ++ rest)) (decimal_digit 0 (omega arith))

-- what is written in decimal is read, if no digit stands behind it
pub number_reads : (n : ℕ) (rest : List ℕ) → Fits n → digit_front rest ≡ None → number_front (decimal n ++ rest) ≡ Some (n, rest)
number_reads n rest fits end =
    let P : ℕ → Type 0 = λ m. number_front (decimal m ++ rest) ≡ Some (m, rest) in
    ⊎_elim
    (λ none. let e : 0 ≡ n = omega arith in subst P e (zero_reads rest))
    (λ some. read_on n some fits rest ∙ digits_end n rest end)
    (cases_lt n 1)

-- one digit more
decimal_more : (m b : ℕ) → 0 < m → 48 ≤ b → b ≤ 57 → Fits (m * 10 + (b - 48)) → decimal (m * 10 + (b - 48)) ≡ decimal m ++ (b ∷ [])
decimal_more m b some lo hi fits =
    let n = m * 10 + (b - 48) in
    let q : n / 10 ≡ m = omega arith in
    let d : 48 + n % 10 ≡ b = omega arith in
    decimal_step n (omega arith) (omega arith) ∙ ap (λ k. decimal k ++ ((48 + n % 10) ∷ [])) q ∙ ap (λ k. decimal m ++ (k ∷ [])) d

cases_digit : (b : ℕ) (xs : List ℕ) → (digit_front (b ∷ xs) ≡ None) ⊎ ((48 ≤ b) × (b ≤ 57))
cases_digit b xs =
    ⊎_elim
    (λ low. inl (grind (arith, nat_tests)))
    (λ lo. ⊎_elim (λ high. inl (grind (arith, nat_tests))) (λ hi. inr (lo, hi)) (cases_lt 57 b))
    (cases_lt b 48)

digit_at : (b : ℕ) (xs : List ℕ) → 48 ≤ b → b ≤ 57 → digit_front (b ∷ xs) ≡ Some (b - 48, xs)
digit_at b xs lo hi = grind (arith, nat_tests)

-- where reading stopped, the number and the text are as they were
stopped : (m n : ℕ) (xs rest : List ℕ) → Fits m → ◌≡◌ {A = Option (ℕ × List ℕ)} (Some (m, xs)) (Some (n, rest)) → Fits n × (decimal m ++ xs ≡ decimal n ++ rest)
stopped m n xs rest fits e =
    let number : m ≡ n = grind arith in
    let left : xs ≡ rest = grind arith in
    (omega arith, ap (λ k. decimal k ++ xs) number ∙ ap (λ s. decimal n ++ s) left)

-- the digits that are read on are those of the number that comes out
digits_back : (m n : ℕ) (xs rest : List ℕ) → 0 < m → Fits m → digits_front m xs ≡ Some (n, rest) → Fits n × (decimal m ++ xs ≡ decimal n ++ rest)
digits_back m n [] rest some fits e = stopped m n [] rest fits e
digits_back m n (b ∷ xs) rest some fits e =
    let next = m * 10 + (b - 48) in
    ⊎_elim
    (λ none. stopped m n (b ∷ xs) rest fits (sym (digits_end m (b ∷ xs) none) ∙ e))
    (λ h. ⊎_elim
    (λ over. absurd (let none : None ≡ Some (n, rest) = sym (digits_over m (b - 48) (b ∷ xs) xs (digit_at b xs h.0 h.1) over) ∙ e in grind arith))
    (λ room.
    let back = digits_back next n xs rest (omega arith) room (sym (digits_more m (b - 48) (b ∷ xs) xs (digit_at b xs h.0 h.1) (omega arith)) ∙ e) in
    (back.0, sym (append_assoc (decimal m) (b ∷ []) xs) ∙ ap (λ ds. ds ++ xs) (sym (decimal_more m b some h.0 h.1 room)) ∙ back.1))
    (cases_lt 4294967295 next))
    (cases_digit b xs)

zero_at : (b : ℕ) (xs : List ℕ) → 48 ≤ b → b < 49 → number_front (b ∷ xs) ≡ Some (b - 48, xs)
zero_at b xs lo hi = grind (arith, nat_tests)

-- behind the first digit
first_back : (b n : ℕ) (xs rest : List ℕ) → 48 ≤ b → b ≤ 57 → Fits n × (decimal (b - 48) ++ xs ≡ decimal n ++ rest) → Fits n × (b ∷ xs ≡ decimal n ++ rest)
first_back b n xs rest lo hi back =
    let first : 48 + (b - 48) ≡ b = omega arith in
    (back.0, ap (λ k. k ∷ xs) (sym first) ∙ ap (λ ds. ds ++ xs) (sym (decimal_digit (b - 48) (omega arith))) ∙ back.1)

-- what is read is written in decimal
pub number_back : (n : ℕ) (xs rest : List ℕ) → number_front xs ≡ Some (n, rest) → Fits n × (xs ≡ decimal n ++ rest)
number_back n [] rest e = absurd (grind arith)
number_back n (b ∷ xs) rest e =
    ⊎_elim
    (λ none. absurd (let never : None ≡ Some (n, rest) = sym (number_none (b ∷ xs) none) ∙ e in grind arith))
    (λ h. first_back b n xs rest h.0 h.1 (⊎_elim
    (λ zero. stopped (b - 48) n xs rest (omega arith) (sym (zero_at b xs h.0 zero) ∙ e))
    (λ some. digits_back (b - 48) n xs rest (omega arith) (omega arith) (sym (number_first (b ∷ xs) xs (b - 48) (digit_at b xs h.0 h.1) (omega arith)) ∙ e))
    (cases_lt b 49)))
    (cases_digit b xs)
