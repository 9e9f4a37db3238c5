-- Proof that an instruction's pieces make it whole again.
use Rattle.std.proofs.Common.{◌≡◌, ℕ, zero, suc, ◌+◌, ◌-◌, ◌*◌, ◌<◌, ◌≤◌, min, Bool, true, false, cond, not, ◌&&◌, ◌||◌, eqb, ltb, List, [], ◌∷◌, ◌++◌, map, length, take, drop, Some, None, Option, sym, refl, ap, ◌∙◌, ⊎_elim, arith}
use mathlib.Core.Path.{fun_ext}
use Rattle.std.proofs.lemmas.Slice.Eq.{bytes_eq-Decides}
use Rattle.std.proofs.lemmas.List.{length-take, length-drop, take_all, drop-drop, take-append-drop}
use Rattle.std.proofs.lemmas.Bool.{and_parts, and_from, and_right, and_cases, or_left, or_right, cases_eq, cases_Bool, eqb-true, eqb-false, lt-ltb, eq-eqb, ne_eqb, ltb-true, cond-true, cond-false, true≢false, both_ways}
use Rattle.std.proofs.lemmas.Bool.Decides.{nat_tests}
use Rattle.packet.specs.Pieces.{piece, piece_count}
use Rattle.assembler.specs.Contents.{Held, Contents, collecting, collects, held_of, held_as, adding, before, onward, from, joined}
use Rattle.assembler.specs.Offers.{Outcome, refused, partly, wholly, same_mark, repeats, against, clash, contradicts, settled, judged}
use Rattle.assembler.specs.Assembling.{every, occurs, gathered, also, offered_all, JoinsOn, StartsAnew, AnyOrder, RepeatsAddNothing, Assembles}
use Rattle.assembler.proofs.Offering.{judged_free, held_other, held_own}
use Rattle.assembler.proofs.Tests.{Formed, none_some, formed_is}
use Rattle.assembler.proofs.Bits.{every_at}
use Rattle.assembler.proofs.Agreeing.{mark_same}

every_from : (n : ℕ) (f : ℕ → Bool) → ((k : ℕ) → k < n → f k ≡ true) → every n f ≡ true
every_from zero f h = refl
every_from (suc n) f h = and_from (f n) (every n f) (h n (omega arith)) (every_from n f (λ k lt. h k (omega arith)))

every_lacks : (n : ℕ) (f : ℕ → Bool) → every n f ≡ false → (k : ℕ) × (k < n) × (f k ≡ false)
every_lacks zero f h = absurd (true≢false h)
every_lacks (suc n) f h =
    ⊎_elim (λ e. (n, omega arith, e)) (λ e. let r = every_lacks n f e in (r.0, omega (arith, r.1), r.2)) (and_cases (f n) (every n f) h)

module _ (s : ℕ) (bs : List ℕ) (least : 1 ≤ length bs) (most : length bs ≤ 2048) where
  abbrev count : ℕ
  count = piece_count bs

  counts : count ≤ 8
  counts = omega arith

  piece_length : (k : ℕ) → length (piece s bs k).contents ≡ min 256 (length bs - 256 * k)
  piece_length k = length-take 256 (drop (256 * k) bs) ∙ ap (min 256) (length-drop (256 * k) bs)

  shaped : (k : ℕ) → k < count → Formed (piece s bs k)
  shaped k lt =
      record {
        number = omega arith;
        least = omega (arith, piece_length k);
        most = omega (arith, piece_length k);
        middle = λ l. omega (arith, piece_length k, eqb-false (k + 1) count l);
        below = λ l. omega (arith, eqb-false (k + 1) count l);
      }

  -- two pieces of one instruction don't contradict each other
  apart : (j k m : ℕ) → j < m → k < m → (j ≡ k → ⊥) → ((eqb (j + 1) m && (eqb (k + 1) m || ltb j k)) || (eqb (k + 1) m && ltb k j)) ≡ false
  apart j k m hj hk ne = grind (arith, nat_tests)

  free : (has : ℕ → Bool) (k : ℕ) → k < count → contradicts (gathered s bs has) (piece s bs k) ≡ false
  unfolding contradicts
  free has k lt = none_some 8 (λ j. clash j (gathered s bs has j) (piece s bs k)) each
    where
      own : repeats (held_as (piece s bs k)) (piece s bs k) ≡ true
      own = and_from (same_mark (eqb (k + 1) count) (eqb (k + 1) count)) _ (mark_same (eqb (k + 1) count)) ((bytes_eq-Decides (piece s bs k).contents (piece s bs k).contents).1 refl)

      against_own : against k (held_as (piece s bs k)) (piece s bs k) ≡ false
      against_own = cond-true (eqb k k) _ _ (eq-eqb k k refl) ∙ ap not own

      one : (j : ℕ) → j < count → against j (held_as (piece s bs j)) (piece s bs k) ≡ false
      one j lj = ⊎_elim (λ e. rw e against_own) (λ ne. cond-false (eqb j k) _ _ (ne_eqb j k ne) ∙ apart j k count lj lt ne) (cases_eq j k)

      each : (j : ℕ) → j < 8 → clash j (gathered s bs has j) (piece s bs k) ≡ false
      each j l8 =
          ⊎_elim (λ t. ap (λ b. clash j (cond b (Some (held_as (piece s bs j))) None) (piece s bs k)) t ∙ one j (ltb-true j count (and_parts (ltb j count) (has j) t).0))
          (λ t. ap (λ b. clash j (cond b (Some (held_as (piece s bs j))) None) (piece s bs k)) t) (cases_Bool (ltb j count && has j))

  -- one piece more
  more : (has : ℕ → Bool) (k : ℕ) → k < count → adding (gathered s bs has) (piece s bs k) ≡ gathered s bs (also has k)
  more has k lt = fun_ext each
    where
      own : adding (gathered s bs has) (piece s bs k) k ≡ gathered s bs (also has k) k
      own =
          cond-true (eqb k k) _ _ (eq-eqb k k refl)
          ∙ sym (cond-true (ltb k count && also has k k) _ _ (and_from (ltb k count) (also has k k) (lt-ltb k count lt) (or_left (eqb k k) (has k) (eq-eqb k k refl))))

      other : (n : ℕ) → (n ≡ k → ⊥) → adding (gathered s bs has) (piece s bs k) n ≡ gathered s bs (also has k) n
      other n ne =
          cond-false (eqb n k) _ _ (ne_eqb n k ne) ∙ ap (λ b. cond (ltb n count && (b || has n)) (Some (held_as (piece s bs n))) None) (sym (ne_eqb n k ne))

      each : (n : ℕ) → adding (gathered s bs has) (piece s bs k) n ≡ gathered s bs (also has k) n
      each n = ⊎_elim (λ e. rw e own) (λ ne. other n ne) (cases_eq n k)

  -- what is read from the piece k on
  module _ (has : ℕ → Bool) where
    abbrev at : ℕ → Option Held
    at = gathered s bs has

    there : (k : ℕ) → k < count → has k ≡ true → at k ≡ Some (held_as (piece s bs k))
    there k lt h = cond-true (ltb k count && has k) _ _ (and_from (ltb k count) (has k) (lt-ltb k count lt) h)

    missing : (k : ℕ) → has k ≡ false → at k ≡ None
    missing k h = cond-false (ltb k count && has k) _ _ (and_right (ltb k count) (has k) h)

    full : ((k : ℕ) → k < count → has k ≡ true) → (n k : ℕ) → k < count → count ≤ k + n → from n k at ≡ Some (drop (256 * k) bs)
    full all zero k lt le = absurd (omega arith)
    full all (suc n) k lt le =
        let rest : Option (List ℕ) = from n (k + 1) at in
        ap (λ o. onward o rest) (there k lt (all k lt)) ∙ ⊎_elim (λ e. at_end_lem e) (λ ne. onwards ne (full all n (k + 1) (omega arith) (omega arith))) (cases_eq (k + 1) count)
      where
        at_end_lem : k + 1 ≡ count → onward (Some (held_as (piece s bs k))) (from n (k + 1) at) ≡ Some (drop (256 * k) bs)
        at_end_lem e =
            let some : List ℕ → Option (List ℕ) = λ xs. Some xs in
            cond-true (eqb (k + 1) count) _ _ (eq-eqb (k + 1) count e) ∙ ap some (take_all 256 (drop (256 * k) bs) (omega (arith, length-drop (256 * k) bs)))

        onwards : (k + 1 ≡ count → ⊥) → from n (k + 1) at ≡ Some (drop (256 * (k + 1)) bs) → onward (Some (held_as (piece s bs k))) (from n (k + 1) at) ≡ Some (drop (256 * k) bs)
        onwards ne ih =
            let some : List ℕ → Option (List ℕ) = λ xs. Some xs in
            let on : drop (256 * (k + 1)) bs ≡ drop 256 (drop (256 * k) bs) = ap (λ m. drop m bs) (omega arith) ∙ sym (drop-drop 256 (256 * k) bs) in
            cond-false (eqb (k + 1) count) _ _ (ne_eqb (k + 1) count ne) ∙ ap (before (take 256 (drop (256 * k) bs))) ih
            ∙ ap some (ap (λ xs. take 256 (drop (256 * k) bs) ++ xs) on ∙ take-append-drop 256 (drop (256 * k) bs))

    lacks : (j : ℕ) → j < count → has j ≡ false → (n k : ℕ) → k ≤ j → from n k at ≡ None
    lacks j lt h zero k le = refl
    lacks j lt h (suc n) k le = ⊎_elim (λ t. held t (λ up. lacks j lt h n (k + 1) up)) (λ t. ap (λ o. onward o (from n (k + 1) at)) (missing k t)) (cases_Bool (has k))
      where
        held : has k ≡ true → (k + 1 ≤ j → from n (k + 1) at ≡ None) → onward (at k) (from n (k + 1) at) ≡ None
        held t ih =
            let ne : k ≡ j → ⊥ = λ e. both_ways (has j) h (ap has (sym e) ∙ t) in
            let up : k + 1 ≤ j = omega (arith, ne) in
            ap (λ o. onward o (from n (k + 1) at)) (there k (omega arith) t)
            ∙ cond-false (eqb (k + 1) count) _ _ (ne_eqb (k + 1) count (λ e. omega arith)) ∙ ap (before (take 256 (drop (256 * k) bs))) (ih up)

  joined_gathered : (has : ℕ → Bool) → joined (gathered s bs has) ≡ cond (every count has) (Some bs) None
  unfolding joined
  joined_gathered has =
      ⊎_elim (λ t. full has (every_at count has t) 8 0 (omega arith) counts ∙ sym (cond-true (every count has) _ _ t))
      (λ t. let r = every_lacks count has t in lacks has r.0 r.1 r.2 8 0 (omega arith) ∙ sym (cond-false (every count has) _ _ t)) (cases_Bool (every count has))

  settles : (b : Bool) (held : ℕ → Option Held) → settled s held (cond b (Some bs) None) ≡ cond b (wholly bs) (partly (collecting s held))
  settles true held = refl
  settles false held = refl

  joins_on : JoinsOn s bs
  joins_on c has is k lt =
      ap (λ m. judged m (piece s bs k)) is
      ∙ judged_free (gathered s bs has) (piece s bs k) (formed_is (piece s bs k) (shaped k lt)) (free has k lt)
      ∙ ap (λ m. settled s m (joined m)) (more has k lt)
      ∙ ap (settled s (gathered s bs (also has k))) (joined_gathered (also has k))
      ∙ settles (every count (also has k)) (gathered s bs (also has k))

  abbrev no : ℕ → Bool
  no n = false

  or_no : (b : Bool) → (b || false) ≡ b
  or_no true = refl
  or_no false = refl

  only : (k : ℕ) → also no k ≡ (λ n. eqb n k)
  only k = fun_ext (λ n. or_no (eqb n k))

  empty : (c : Contents) → collects c s ≡ false → held_of c s ≡ gathered s bs no
  empty c other = held_other c s other ∙ fun_ext (λ k. sym (missing no k refl))

  alone : (k : ℕ) → k < count → every count (λ n. eqb n k) ≡ eqb count 1
  alone k lt = ⊎_elim single several (cases_eq count 1)
    where
      single : count ≡ 1 → every count (λ n. eqb n k) ≡ eqb count 1
      single e = every_from count (λ n. eqb n k) (λ n l. eq-eqb n k (omega arith)) ∙ sym (eq-eqb count 1 e)

      several : (count ≡ 1 → ⊥) → every count (λ n. eqb n k) ≡ eqb count 1
      several ne =
          ⊎_elim (λ t. absurd (omega (arith, ne, eqb-true 0 k (every_at count (λ n. eqb n k) t 0 (omega arith)), eqb-true 1 k (every_at count (λ n. eqb n k) t 1 (omega (arith, ne))))))
          (λ t. t) (cases_Bool (every count (λ n. eqb n k)))
          ∙ sym (ne_eqb count 1 ne)

  starts_anew : StartsAnew s bs
  starts_anew c other k lt =
      joins_on c no (empty c other) k lt
      ∙ ap (λ f. cond (every count f) (wholly bs) (partly (collecting s (gathered s bs f)))) (only k)
      ∙ ap (λ b. cond b (wholly bs) (partly (collecting s (gathered s bs (λ n. eqb n k))))) (alone k lt)

  -- numbers added one after the other
  abbrev with_all : (ℕ → Bool) → List ℕ → ℕ → Bool
  with_all has [] = has
  with_all has (k ∷ ks) = with_all (also has k) ks

  swap : (a b c : Bool) → ((a || b) || c) ≡ (b || (a || c))
  swap true true c = refl
  swap true false c = refl
  swap false true c = refl
  swap false false c = refl

  with_occurs : (ks : List ℕ) (has : ℕ → Bool) (n : ℕ) → with_all has ks n ≡ (has n || occurs n ks)
  with_occurs [] has n = sym (or_no (has n))
  with_occurs (k ∷ ks) has n = with_occurs ks (also has k) n ∙ swap (eqb n k) (has n) (occurs n ks)

  abbrev outcome : (ℕ → Bool) → Outcome
  outcome f = cond (every count f) (wholly bs) (partly (collecting s (gathered s bs f)))

  stays : (has : ℕ → Bool) (ks : List ℕ) → every count has ≡ true → every count (with_all has ks) ≡ true
  stays has ks h = every_from count (with_all has ks) (λ n l. with_occurs ks has n ∙ or_left (has n) (occurs n ks) (every_at count has h n l))

  abbrev then : List ℕ → Outcome → Outcome
  then ks o = elim o [ refused f ↦ refused f | partly d ↦ offered_all d (map (piece s bs) ks) | wholly xs ↦ wholly xs ]

  runs : (ks : List ℕ) (k : ℕ) (c : Contents) (has : ℕ → Bool) → held_of c s ≡ gathered s bs has → ((n : ℕ) → occurs n (k ∷ ks) ≡ true → n < count) → offered_all c (map (piece s bs) (k ∷ ks)) ≡ outcome (with_all (also has k) ks)
  runs [] k c has is within =
      ap (then []) (joins_on c has is k (within k (or_left (eqb k k) false (eq-eqb k k refl)))) ∙ settle (every count (also has k))
    where
      settle : (b : Bool) → then [] (cond b (wholly bs) (partly (collecting s (gathered s bs (also has k))))) ≡ cond b (wholly bs) (partly (collecting s (gathered s bs (also has k))))
      settle true = refl
      settle false = refl
  runs (j ∷ ks) k c has is within =
      let on = runs ks j (collecting s (gathered s bs (also has k))) (also has k) (held_own s (gathered s bs (also has k))) (λ n o. within n (or_right (eqb n k) (occurs n (j ∷ ks)) o)) in
      let step : Bool → Outcome = λ b. then (j ∷ ks) (cond b (wholly bs) (partly (collecting s (gathered s bs (also has k))))) in
      ap (then (j ∷ ks)) (joins_on c has is k (within k (or_left (eqb k k) (occurs k (j ∷ ks)) (eq-eqb k k refl))))
      ∙ ⊎_elim (λ t. ap step t ∙ sym (cond-true (every count (with_all (also has k) (j ∷ ks))) _ _ (stays (also has k) (j ∷ ks) t))) (λ t. ap step t ∙ on) (cases_Bool (every count (also has k)))

  any_order : AnyOrder s bs
  any_order c other [] within =
      sym (cond-false (every count (λ n. false)) (wholly bs) (partly c) (⊎_elim (λ t. absurd (true≢false (sym (every_at count (λ n. false) t 0 (omega arith))))) (λ t. t) (cases_Bool (every count (λ n. false)))))
  any_order c other (k ∷ ks) within =
      runs ks k c no (empty c other) within
      ∙ ap outcome (fun_ext (λ n. with_occurs ks (also no k) n ∙ ap (λ b. b || occurs n ks) (or_no (eqb n k))))

repeats_add_nothing : RepeatsAddNothing
repeats_add_nothing held p fine free there missing =
    let same : adding held p ≡ held = fun_ext (λ k. ⊎_elim (λ e. cond-true (eqb k p.number) _ _ (eq-eqb k p.number e) ∙ sym there ∙ ap held (sym e)) (λ ne. cond-false (eqb k p.number) _ _ (ne_eqb k p.number ne)) (cases_eq k p.number)) in
    ap (λ m. judged m p) (held_own p.sending held) ∙ judged_free held p fine free ∙ ap (λ m. settled p.sending m (joined m)) same ∙ ap (settled p.sending held) missing

pub assembles : Assembles
assembles = (λ s bs least most. (joins_on s bs least most, starts_anew s bs least most, any_order s bs least most), repeats_add_nothing)
