-- Every call keeps what an end keeps of itself.
use Rattle.std.proofs.Common.{◌≡◌, ℕ, zero, suc, ◌+◌, ◌-◌, ◌%◌, ◌<◌, ◌≤◌, max, Bool, true, false, cond, not, ◌&&◌, ◌||◌, eqb, leb, List, [], ◌∷◌, length, get_or, set, IfOk, Some, None, Ok, Option, sym, refl, ap, ◌∙◌, subst, ⊎_elim, arith, length-set}
use native.Mathlib.Nat.{max-eq_left, max-eq_right}
use Rattle.std.proofs.lemmas.Bool.{cases_lt, cases_eq, cases_Bool, cond-true, cond_both, and_parts, and_from, and_right, or_cases, or_left, or_right, eq-eqb, ne_eqb, eqb-true, leb-true, leb-false, le-leb, lt-leb, both_ways, not-true, not_from_false}
use Rattle.std.proofs.lemmas.List.{get_or-set_same}
use Rattle.std.proofs.lemmas.Result.{IfOk-at_ok}
use Rattle.state.specs.Kind.{Kind}
use Rattle.window.specs.Numbers.{lookup, Numbers, Within, inside, free, put, starting_at, raise}
use Rattle.window.proofs.Laws.{put_yes, raise_yes, put_width, put_anchor, put_other, put_same, raise_width, within_put, within_raise, inside_from, lookup_missing}
use Rattle.packet.specs.declared.datagram.Direction.{Direction}
use Rattle.packet.specs.Pieces.{piece_count}
use Rattle.packet.specs.Instructions.{Update, together, instruction_bytes}
use Rattle.assembler.specs.Contents.{Contents}
use Rattle.packet.proofs.Layouts.{instruction_length}
use Rattle.endpoint.specs.End.{End, Holding, latest, both_fit, fresh, opened, changed, with_current}
use Rattle.endpoint.specs.Due.{patience, since}
use Rattle.endpoint.specs.Ticking.{reached, full, differs, fixes, new_number, assumed, sent_at, update, idled, sent_end, ticked}
use Rattle.endpoint.specs.Taking.{pending_from, collected, settled, kept, landed, taken}
use Rattle.endpoint.specs.Own.{Own, PendingBy, Stays}
use Rattle.endpoint.proofs.Ways.{Called, tick_ways, take_ways}

-- two tests are one where each holds if the other does
pub same_tests : (a b : Bool) → (a ≡ true → b ≡ true) → (b ≡ true → a ≡ true) → a ≡ b
same_tests true b f g = sym (f refl)
same_tests false true f g = g refl
same_tests false false f g = refl

-- a write leaves every time at or before one that the written time and the others are at or before
pub set_before : (l : List ℕ) (i a k b : ℕ) → a ≤ b → get_or l k 0 ≤ b → get_or (set l i a) k 0 ≤ b
set_before [] i a k b p q = q
set_before (x ∷ l) zero a zero b p q = p
set_before (x ∷ l) zero a (suc k) b p q = q
set_before (x ∷ l) (suc i) a zero b p q = q
set_before (x ∷ l) (suc i) a (suc k) b p q = set_before l i a k b p q

-- numbers that are reached in some steps
pub reached_from : (steps : ℕ) (such : ℕ → Bool) (n : ℕ) → (n ≤ reached steps such n) × (reached steps such n ≤ n + steps)
reached_from zero such n = (omega arith, omega arith)
reached_from (suc steps) such n =
    cond_both (such (n + 1)) (reached steps such (n + 1)) n (λ m. (n ≤ m) × (m ≤ n + suc steps))
    (λ _. let r = reached_from steps such (n + 1) in (omega arith, omega arith))
    (λ _. (omega arith, omega arith))

-- one number more at the end of those between two
pub one_more : (a b n : ℕ) → a ≤ b + 1 → ((leb a n && leb n b) || eqb n (b + 1)) ≡ (leb a n && leb n (b + 1))
one_more a b n le =
    same_tests ((leb a n && leb n b) || eqb n (b + 1)) (leb a n && leb n (b + 1))
    (λ h. ⊎_elim (λ k. let p = and_parts (leb a n) (leb n b) k in let q = leb-true n b p.1 in and_from (leb a n) (leb n (b + 1)) p.0 (le-leb n (b + 1) (omega arith))) (λ k. let q = eqb-true n (b + 1) k in and_from (leb a n) (leb n (b + 1)) (le-leb a n (omega arith)) (le-leb n (b + 1) (omega arith))) (or_cases (leb a n && leb n b) (eqb n (b + 1)) h))
    (λ h. let p = and_parts (leb a n) (leb n (b + 1)) h in let q = leb-true n (b + 1) p.1 in ⊎_elim (λ (k : n < b + 1). or_left (leb a n && leb n b) (eqb n (b + 1)) (and_from (leb a n) (leb n b) p.0 (le-leb n b (omega arith)))) (λ (k : b + 1 ≤ n). or_right (leb a n && leb n b) (eqb n (b + 1)) (eq-eqb n (b + 1) (omega arith))) (cases_lt n (b + 1)))

-- fewer numbers at the front of those between two
pub fewer : (a to b n : ℕ) → a ≤ to → (leb to n && (leb a n && leb n b)) ≡ (leb to n && leb n b)
fewer a to b n le =
    same_tests (leb to n && (leb a n && leb n b)) (leb to n && leb n b)
    (λ h. let p = and_parts (leb to n) (leb a n && leb n b) h in and_from (leb to n) (leb n b) p.0 (and_parts (leb a n) (leb n b) p.1).1)
    (λ h. let p = and_parts (leb to n) (leb n b) h in let q = leb-true to n p.0 in and_from (leb to n) (leb a n && leb n b) p.0 (and_from (leb a n) (leb n b) (le-leb a n (omega arith)) p.1))

-- a number under which a state is found is held
pub found_held : {T : Type 0} (w : Numbers) (xs : List T) (n : ℕ) (x : T) → lookup w xs n ≡ Some x → w.held n ≡ true
found_held w xs n x e = ⊎_elim (λ t. t) (λ f. absurd (apart (lookup_missing w xs n f) e)) (cases_Bool (w.held n))
  where
    apart : lookup w xs n ≡ None → lookup w xs n ≡ Some x → ⊥
    apart p q = let z : ◌≡◌ {A = ℕ} 0 1 = cc in omega arith

-- an instruction's numbers, in order
pub in_order : (u : Update) → together u ≡ true → (u.throwaway ≤ u.old) × ((u.old ≤ u.new) × (u.new ≤ u.throwaway + 15))
in_order u numbers =
    let p = and_parts (leb u.throwaway u.old) (leb u.old u.new && leb u.new (u.throwaway + 15)) numbers in
    let q = and_parts (leb u.old u.new) (leb u.new (u.throwaway + 15)) p.1 in
    (leb-true u.throwaway u.old p.0, (leb-true u.old u.new q.0, leb-true u.new (u.throwaway + 15) q.1))

module _ (K L : Kind) where
  pub own_fresh : (d : Direction) (time : ℕ) → time ≤ latest → Own K L (fresh K L d time)
  own_fresh d time le = record {
    sent_width = refl;
    sent_held = λ n. same_tests (eqb n 0) (leb 0 n && leb n 0) (λ h. let e = eqb-true n 0 h in and_from (leb 0 n) (leb n 0) (le-leb 0 n (omega arith)) (le-leb n 0 (omega arith))) (λ h. let p = leb-true n 0 (and_parts (leb 0 n) (leb n 0) h).1 in eq-eqb n 0 (omega arith));
    acknowledged = omega arith;
    unacknowledged = omega arith;
    received_width = refl;
    received_within = λ n h. let e = eqb-true n 0 h in (omega arith, omega arith);
    newest_held = refl;
    newest_largest = λ n h. let e = eqb-true n 0 h in omega arith;
    times_length = refl;
    times_past = λ n a b. absurd (omega arith);
    last_past = omega arith;
    clock_latest = le;
    pending_past = tt;
    sendings_most = omega arith;
    numbers_most = omega arith;
    datagrams_most = omega arith;
  }

  pub own_opened : (d : Direction) (time : ℕ) (ks : List K.Contents) (ls : List L.Contents) (h : Holding K L) → opened K L d time ks ls ≡ Ok h → Own K L h.end
  own_opened d time ks ls h eq = IfOk-at_ok (λ (x : Holding K L). Own K L x.end) eq (cond_both (leb time latest) _ _ (λ r. IfOk r (λ x. Own K L x.end)) (λ t. cond_both (both_fit ks ls) _ _ (λ r. IfOk r (λ x. Own K L x.end)) (λ _. own_fresh d time (leb-true time latest t)) (λ _. tt)) (λ _. tt))

  own_with : (e : End K L) (target : K.Contents) → Own K L e → Own K L (with_current K L e target)
  own_with e target o = record {
    sent_width = o.sent_width;
    sent_held = o.sent_held;
    acknowledged = o.acknowledged;
    unacknowledged = o.unacknowledged;
    received_width = o.received_width;
    received_within = o.received_within;
    newest_held = o.newest_held;
    newest_largest = o.newest_largest;
    times_length = o.times_length;
    times_past = o.times_past;
    last_past = o.last_past;
    clock_latest = o.clock_latest;
    pending_past = o.pending_past;
    sendings_most = o.sendings_most;
    numbers_most = o.numbers_most;
    datagrams_most = o.datagrams_most;
  }

  pub own_changed : (e e' : End K L) (target : K.Contents) → changed K L e target ≡ Ok e' → Own K L e → Own K L e'
  own_changed e e' target eq o = IfOk-at_ok (λ (x : End K L). Own K L x) eq (cond_both (K.follows e.current target) _ _ (λ r. IfOk r (λ x. Own K L x)) (λ _. own_with e target o) (λ _. tt))

  -- a pending acknowledgement at a later time
  pub pending_later : (p : Option ℕ) (clock now : ℕ) → clock ≤ now → PendingBy p clock → PendingBy p now
  pending_later None clock now le q = tt
  pending_later (Some start) clock now le q = omega arith

  module _ (e : End K L) (ks : List K.Contents) (now : ℕ) (o : Own K L e) where
    -- the next number is free
    pub next_free : e.top < e.sent.anchor + 15 → free e.sent (e.top + 1) ≡ true
    next_free room =
        and_from (inside e.sent (e.top + 1)) (not (e.sent.held (e.top + 1)))
        (inside_from e.sent (e.top + 1) (omega arith) (omega arith))
        (not_from_false (e.sent.held (e.top + 1)) (o.sent_held (e.top + 1) ∙ and_right (leb e.sent.anchor (e.top + 1)) (leb (e.top + 1) e.top) (lt-leb (e.top + 1) e.top (omega arith))))

    -- the assumed number lies between the acknowledged and the last
    pub assumed_between : (e.sent.anchor ≤ assumed K L e ks now) × (assumed K L e ks now ≤ e.top)
    assumed_between = let r = reached_from (e.top - e.sent.anchor) (λ n. not (since (sent_at K L e ks now n) patience now)) e.sent.anchor in (r.0, omega arith)

    -- where a number is fixed, there is room for it
    pub fixes_room : fixes K L e ks now ≡ true → e.top < e.sent.anchor + 15
    fixes_room f = let k = leb-false 15 (e.top - e.sent.anchor) (not-true (full K L e ks now) (and_parts (differs K L e ks now) (not (full K L e ks now)) f).1) in omega arith

    pub few_pieces : length (update K L e ks now).diff ≤ 2031 → piece_count (instruction_bytes (update K L e ks now)) ≤ 8
    few_pieces short = omega (arith, instruction_length (update K L e ks now))

  module _ (e : End K L) (ks : List K.Contents) (now : ℕ) (o : Own K L e) (on : e.clock ≤ now) (most : now ≤ latest) where
    pub own_idled : Own K L (idled K L e ks now)
    own_idled = record {
      sent_width = o.sent_width;
      sent_held = o.sent_held;
      acknowledged = o.acknowledged;
      unacknowledged = o.unacknowledged;
      received_width = o.received_width;
      received_within = o.received_within;
      newest_held = o.newest_held;
      newest_largest = o.newest_largest;
      times_length = o.times_length;
      times_past = λ n a b. omega (arith, o.times_past n a b);
      last_past = omega arith;
      clock_latest = most;
      pending_past = pending_later e.pending e.clock now on o.pending_past;
      sendings_most = o.sendings_most;
      numbers_most = o.numbers_most;
      datagrams_most = o.datagrams_most;
    }

    -- the number that a sending leads to, by whether it fixes
    abbrev number_by : Bool → ℕ
    number_by fix = cond fix (e.top + 1) e.top

    -- an end after a sending, by whether it fixes, whether it leads nowhere, and how many datagrams it has
    abbrev sent_by : Bool → Bool → ℕ → End K L
    sent_by fix nowhere count = record {
      direction = e.direction;
      current = e.current;
      sent = cond fix (put e.sent (number_by fix)) e.sent;
      top = number_by fix;
      times = cond nowhere e.times (set e.times (number_by fix % 16) now);
      received = e.received;
      newest = e.newest;
      pending = None;
      half = e.half;
      last = now;
      clock = now;
      sendings = e.sendings + 1;
      datagrams = e.datagrams + count;
    }

    own_sent_more : (count : ℕ) → e.top < e.sent.anchor + 15 → count ≤ 8 → e.sendings < 1000000 → Own K L (sent_by true false count)
    own_sent_more count room few left = record {
      sent_width = put_width e.sent (e.top + 1) ∙ o.sent_width;
      sent_held = λ n. subst (λ (w : Numbers). w.held n ≡ (leb w.anchor n && leb n (e.top + 1))) (sym (put_yes e.sent (e.top + 1) (next_free e ks now o room))) (ap (λ b. b || eqb n (e.top + 1)) (o.sent_held n) ∙ one_more e.sent.anchor e.top n (omega arith));
      acknowledged = omega (arith, put_anchor e.sent (e.top + 1));
      unacknowledged = omega (arith, put_anchor e.sent (e.top + 1));
      received_width = o.received_width;
      received_within = o.received_within;
      newest_held = o.newest_held;
      newest_largest = o.newest_largest;
      times_length = simp length-set o.times_length;
      times_past = λ n a b. ⊎_elim
          (λ (k : n < e.top + 1). set_before e.times ((e.top + 1) % 16) now (n % 16) now (omega arith) (omega (arith, o.times_past n (omega (arith, put_anchor e.sent (e.top + 1))) (omega arith))))
          (λ (k : e.top + 1 ≤ n). let same : n ≡ e.top + 1 = omega arith in subst (λ m. get_or (set e.times ((e.top + 1) % 16) now) (m % 16) 0 ≤ now) (sym same) (omega (arith, get_or-set_same e.times ((e.top + 1) % 16) now 0 (omega (arith, o.times_length)))))
          (cases_lt n (e.top + 1));
      last_past = omega arith;
      clock_latest = most;
      pending_past = tt;
      sendings_most = omega arith;
      numbers_most = omega arith;
      datagrams_most = omega arith;
    }

    own_sent_same : (nowhere : Bool) (count : ℕ) → count ≤ 8 → e.sendings < 1000000 → Own K L (sent_by false nowhere count)
    own_sent_same nowhere count few left = record {
      sent_width = o.sent_width;
      sent_held = o.sent_held;
      acknowledged = o.acknowledged;
      unacknowledged = o.unacknowledged;
      received_width = o.received_width;
      received_within = o.received_within;
      newest_held = o.newest_held;
      newest_largest = o.newest_largest;
      times_length = cond_both nowhere e.times (set e.times (e.top % 16) now) (λ l. length l ≡ 16) (λ _. o.times_length) (λ _. simp length-set o.times_length);
      times_past = λ n a b. let was : get_or e.times (n % 16) 0 ≤ now = omega (arith, o.times_past n a b) in cond_both nowhere e.times (set e.times (e.top % 16) now) (λ l. get_or l (n % 16) 0 ≤ now) (λ _. was) (λ _. set_before e.times (e.top % 16) now (n % 16) now (omega arith) was);
      last_past = omega arith;
      clock_latest = most;
      pending_past = tt;
      sendings_most = omega arith;
      numbers_most = omega arith;
      datagrams_most = omega arith;
    }

    own_sent_by : (fix nowhere : Bool) (count : ℕ) → (fix ≡ true → (e.top < e.sent.anchor + 15) × (nowhere ≡ false)) → count ≤ 8 → e.sendings < 1000000 → Own K L (sent_by fix nowhere count)
    own_sent_by true true count f few left = absurd (both_ways true (f refl).1 refl)
    own_sent_by true false count f few left = own_sent_more count (f refl).0 few left
    own_sent_by false nowhere count f few left = own_sent_same nowhere count few left

    pub own_sent : length (update K L e ks now).diff ≤ 2031 → e.sendings < 1000000 → Own K L (sent_end K L e ks now)
    own_sent short left = own_sent_by (fixes K L e ks now) (eqb (assumed K L e ks now) (new_number K L e ks now)) (piece_count (instruction_bytes (update K L e ks now))) (λ f. let m = fixes_room e ks now o f in let a = assumed_between e ks now o in (m, ne_eqb (assumed K L e ks now) (new_number K L e ks now) (λ q. let z = cond-true (fixes K L e ks now) (e.top + 1) e.top f in omega (arith, q, z, a.1)))) (few_pieces e ks now o short) left

  module _ (h : Holding K L) (o : Own K L h.end) where
    -- the time that a call uses
    now_latest : (time : ℕ) → Called K L h time → max h.end.clock time ≤ latest
    now_latest time k = omega (arith, k.in_time, o.clock_latest)

    pub own_ticked : (time : ℕ) (out : List ℕ) → Own K L (ticked K L h time out).end
    own_ticked time out =
        tick_ways K L h time out (λ r. Own K L r.end)
        (λ _. o)
        (λ k _. own_idled h.end h.sent_store (max h.end.clock time) o (omega arith) (now_latest time k))
        (λ s. own_sent h.end h.sent_store (max h.end.clock time) o (omega arith) (now_latest time s.called) s.short s.left)

  module _ (h : Holding K L) (now : ℕ) where
    -- the sent window after an acknowledgement
    pub raised : (ack : ℕ) → raise h.end.sent (max h.end.sent.anchor ack) ≡ starting_at h.end.sent (max h.end.sent.anchor ack)
    raised ack = raise_yes h.end.sent (max h.end.sent.anchor ack) (le-leb h.end.sent.anchor (max h.end.sent.anchor ack) (omega arith))

    -- the received window from the larger of its anchor and throwaway on
    pub kept_is : (u : Update) → kept K L h now u ≡ starting_at h.end.received (max h.end.received.anchor u.throwaway)
    kept_is u = raise_yes h.end.received (max h.end.received.anchor u.throwaway) (le-leb h.end.received.anchor (max h.end.received.anchor u.throwaway) (omega arith))

    -- where the new number isn't held and the old one is, the new one has room there
    pub new_free : Own K L h.end → (u : Update) → together u ≡ true → h.end.received.held u.old ≡ true → h.end.received.held u.new ≡ false → free (kept K L h now u) u.new ≡ true
    new_free o u numbers old new =
        let ord = in_order u numbers in
        let base = o.received_within u.old old in
        let wide = o.received_width in
        subst (λ w. free w u.new ≡ true) (sym (kept_is u))
        (and_from (inside (starting_at h.end.received (max h.end.received.anchor u.throwaway)) u.new) (not (leb (max h.end.received.anchor u.throwaway) u.new && h.end.received.held u.new))
        (inside_from (starting_at h.end.received (max h.end.received.anchor u.throwaway)) u.new (omega arith) (omega arith))
        (not_from_false (leb (max h.end.received.anchor u.throwaway) u.new && h.end.received.held u.new) (and_right (leb (max h.end.received.anchor u.throwaway) u.new) (h.end.received.held u.new) new)))

  module _ (h : Holding K L) (now : ℕ) (o : Own K L h.end) (on : h.end.clock ≤ now) (most : now ≤ latest) where
    pub own_collected : (half : Contents) → Own K L (collected K L h now half)
    own_collected half = record {
      sent_width = o.sent_width;
      sent_held = o.sent_held;
      acknowledged = o.acknowledged;
      unacknowledged = o.unacknowledged;
      received_width = o.received_width;
      received_within = o.received_within;
      newest_held = o.newest_held;
      newest_largest = o.newest_largest;
      times_length = o.times_length;
      times_past = λ n a b. omega (arith, o.times_past n a b);
      last_past = omega arith;
      clock_latest = most;
      pending_past = pending_later h.end.pending h.end.clock now on o.pending_past;
      sendings_most = o.sendings_most;
      numbers_most = o.numbers_most;
      datagrams_most = o.datagrams_most;
    }

    own_settled :
        (ack : ℕ) (received : Numbers) (newest : ℕ) (pending : Option ℕ) →
        ack ≤ h.end.top →
        received.width ≡ 16 → Within received → received.held newest ≡ true → ((n : ℕ) → received.held n ≡ true → n ≤ newest) →
        PendingBy pending now →
        Own K L (settled K L h now ack received newest pending)
    own_settled ack received newest pending sent wide within top largest past = record {
      sent_width = raise_width h.end.sent (max h.end.sent.anchor ack) ∙ o.sent_width;
      sent_held = λ n. subst (λ (w : Numbers). w.held n ≡ (leb w.anchor n && leb n h.end.top)) (sym (raised h now ack)) (ap (λ b. leb (max h.end.sent.anchor ack) n && b) (o.sent_held n) ∙ fewer h.end.sent.anchor (max h.end.sent.anchor ack) h.end.top n (omega arith));
      acknowledged = omega (arith, ap (λ (w : Numbers). w.anchor) (raised h now ack));
      unacknowledged = omega (arith, ap (λ (w : Numbers). w.anchor) (raised h now ack));
      received_width = wide;
      received_within = within;
      newest_held = top;
      newest_largest = largest;
      times_length = o.times_length;
      times_past = λ n a b. omega (arith, o.times_past n (omega (arith, ap (λ (w : Numbers). w.anchor) (raised h now ack))) b);
      last_past = omega arith;
      clock_latest = most;
      pending_past = past;
      sendings_most = o.sendings_most;
      numbers_most = o.numbers_most;
      datagrams_most = o.datagrams_most;
    }

    own_passed : (u : Update) → u.ack ≤ h.end.top → Own K L (settled K L h now u.ack h.end.received h.end.newest h.end.pending)
    own_passed u sent = own_settled u.ack h.end.received h.end.newest h.end.pending sent o.received_width o.received_within o.newest_held o.newest_largest (pending_later h.end.pending h.end.clock now on o.pending_past)

    pending_from_lem : (p : Option ℕ) → PendingBy p h.end.clock → PendingBy (pending_from p now) now
    pending_from_lem None q = omega arith
    pending_from_lem (Some start) q = omega arith

    -- an instruction whose new number isn't held and whose old number is
    module _ (u : Update) (numbers : together u ≡ true) (old : h.end.received.held u.old ≡ true) (new : h.end.received.held u.new ≡ false) where
      -- the newest number after it
      largest_held : (put (kept K L h now u) u.new).held (max h.end.newest u.new) ≡ true
      largest_held =
          ⊎_elim
          (λ (lt : h.end.newest < u.new). subst (λ m. after.held m ≡ true) (sym (max-eq_right (omega arith))) (put_same (kept K L h now u) u.new (new_free h now o u numbers old new)))
          (λ (le : u.new ≤ h.end.newest). subst (λ m. after.held m ≡ true) (sym (max-eq_left le)) (put_other (kept K L h now u) u.new h.end.newest (λ e. both_ways (h.end.received.held u.new) new (subst (λ m. h.end.received.held m ≡ true) e o.newest_held)) ∙ still le))
          (cases_lt h.end.newest u.new)
        where
          after : Numbers
          after = put (kept K L h now u) u.new

          still : u.new ≤ h.end.newest → (kept K L h now u).held h.end.newest ≡ true
          still le =
              let ord = in_order u numbers in
              let low = o.received_within h.end.newest o.newest_held in
              ap (λ (w : Numbers). w.held h.end.newest) (kept_is h now u) ∙ and_from (leb (max h.end.received.anchor u.throwaway) h.end.newest) (h.end.received.held h.end.newest) (le-leb (max h.end.received.anchor u.throwaway) h.end.newest (omega arith)) o.newest_held

      largest_after : (n : ℕ) → (put (kept K L h now u) u.new).held n ≡ true → n ≤ max h.end.newest u.new
      largest_after n k =
          ⊎_elim
          (λ (e : n ≡ u.new). omega arith)
          (λ (ne : n ≡ u.new → ⊥).
          let was = sym (ap (λ (w : Numbers). w.held n) (kept_is h now u)) ∙ sym (put_other (kept K L h now u) u.new n ne) ∙ k in
          let le = o.newest_largest n (and_parts (leb (max h.end.received.anchor u.throwaway) n) (h.end.received.held n) was).1 in
          omega arith)
          (cases_eq n u.new)

      pub own_landed : (c : L.Contents) → u.ack ≤ h.end.top → Own K L (landed K L h now u c).end
      own_landed c sent =
          own_settled u.ack (put (kept K L h now u) u.new) (max h.end.newest u.new) (pending_from h.end.pending now) sent
          (put_width (kept K L h now u) u.new ∙ raise_width h.end.received (max h.end.received.anchor u.throwaway) ∙ o.received_width)
          (within_put (kept K L h now u) u.new (within_raise h.end.received (max h.end.received.anchor u.throwaway) o.received_within))
          largest_held largest_after (pending_from_lem h.end.pending o.pending_past)

  pub own_taken : (h : Holding K L) (o : Own K L h.end) (time : ℕ) (bytes : List ℕ) → Own K L (taken K L h time bytes).end
  own_taken h o time bytes =
      take_ways K L h time bytes (λ r. Own K L r.end)
      (λ _. o)
      (λ g half k e. own_collected h (max h.end.clock time) o (omega arith) (now_latest h o time k.called) half)
      (λ g bs u r y. own_passed h (max h.end.clock time) o (omega arith) (now_latest h o time r.carries.called) u r.ack_sent)
      (λ g bs u r n m. own_passed h (max h.end.clock time) o (omega arith) (now_latest h o time r.carries.called) u r.ack_sent)
      (λ g bs u base c r n l a. own_landed h (max h.end.clock time) o (omega arith) (now_latest h o time r.carries.called) u r.numbers (found_held h.end.received h.received_store u.old base l) n c r.ack_sent)

  pub all_stay : Stays K L
  all_stay = record {
    opening = own_opened;
    changing = own_changed;
    ticking = λ h time out o. own_ticked h o time out;
    taking = λ h time bytes o. own_taken h o time bytes;
  }
