-- Every call keeps what an end keeps of itself.
use Rattle.std.proofs.Common.{◌≡◌, ℕ, zero, suc, ◌+◌, ◌-◌, ◌%◌, ◌<◌, ◌≤◌, max, Bool, true, false, not, ◌&&◌, ◌||◌, eqb, leb, List, [], ◌∷◌, length, get_or, set, IfOk, Some, None, Ok, Option, sym, refl, ap, ◌∙◌, subst, ⊎_elim, arith, length-set}
use native.Mathlib.Nat.{max-eq_left, max-eq_right}
use Rattle.std.proofs.lemmas.Bool.{cases_lt, cases_eq, cases_Bool, cond-false, cond_both, and_parts, and_from, and_right, or_cases, or_left, or_right, eq-eqb, ne_eqb, eqb-true, leb-true, leb-false, le-leb, lt-leb, both_ways, not-true, not_from_false}
use Rattle.std.proofs.lemmas.List.{get_or-set_same}
use Rattle.std.proofs.lemmas.Result.{IfOk-at_ok}
use Rattle.state.specs.Kind.{Kind}
use Rattle.window.specs.Numbers.{lookup, Numbers, inside, free, put, starting_at, raise}
use Rattle.window.proofs.Laws.{put_yes, raise_yes, put_width, put_anchor, put_other, put_same, raise_width, within_put, within_raise, inside_from, lookup_missing}
use Rattle.packet.specs.declared.datagram.Direction.{Direction}
use Rattle.packet.specs.Pieces.{piece_count}
use Rattle.packet.specs.Instructions.{Update, together, instruction_bytes}
use Rattle.assembler.specs.Contents.{Contents, nothing}
use Rattle.packet.proofs.Layouts.{instruction_length}
use Rattle.protocol.specs.End.{Outgoing, Incoming, Tally, End, Holding, latest, both_fit, fresh, opened, changed}
use Rattle.protocol.specs.Due.{patience, since}
use Rattle.protocol.specs.Ticking.{reached, sent_at, full, assumed, sent_out, answered, timed, counted, differs, fixes, update, sent_end, ticked}
use Rattle.protocol.specs.Taking.{acknowledging, pending_from, with_half, kept, holding_new, informed, taken}
use Rattle.protocol.specs.Own.{PendingBy, Sound, Own, Stays}
use Rattle.protocol.proofs.Ways.{Called, tick_ways, take_ways}

-- two tests are one where each holds if the other does
pub same_tests : (a b : Bool) → (a ≡ true → b ≡ true) → (b ≡ true → a ≡ true) → a ≡ b
same_tests true b f g = sym (f refl)
same_tests false true f g = g refl
same_tests false false f g = refl

-- a write leaves every time at or before one that the written time and the others are at or before
pub set_before : (l : List ℕ) (i a k b : ℕ) → a ≤ b → get_or l k 0 ≤ b → get_or (set l i a) k 0 ≤ b
set_before [] i a k b p q = q
set_before (x ∷ l) zero a zero b p q = p
set_before (x ∷ l) zero a (suc k) b p q = q
set_before (x ∷ l) (suc i) a zero b p q = q
set_before (x ∷ l) (suc i) a (suc k) b p q = set_before l i a k b p q

-- numbers that are reached in some steps
pub reached_from : (steps : ℕ) (such : ℕ → Bool) (n : ℕ) → (n ≤ reached steps such n) × (reached steps such n ≤ n + steps)
reached_from zero such n = (omega arith, omega arith)
reached_from (suc steps) such n =
    cond_both (such (n + 1)) (reached steps such (n + 1)) n (λ m. (n ≤ m) × (m ≤ n + suc steps))
    (λ _. let r = reached_from steps such (n + 1) in (omega arith, omega arith))
    (λ _. (omega arith, omega arith))

-- one number more at the end of those between two
pub one_more : (a b n : ℕ) → a ≤ b + 1 → ((leb a n && leb n b) || eqb n (b + 1)) ≡ (leb a n && leb n (b + 1))
one_more a b n le =
    same_tests ((leb a n && leb n b) || eqb n (b + 1)) (leb a n && leb n (b + 1))
    (λ h. ⊎_elim (λ k. let p = and_parts (leb a n) (leb n b) k in let q = leb-true n b p.1 in and_from (leb a n) (leb n (b + 1)) p.0 (le-leb n (b + 1) (omega arith))) (λ k. let q = eqb-true n (b + 1) k in and_from (leb a n) (leb n (b + 1)) (le-leb a n (omega arith)) (le-leb n (b + 1) (omega arith))) (or_cases (leb a n && leb n b) (eqb n (b + 1)) h))
    (λ h. let p = and_parts (leb a n) (leb n (b + 1)) h in let q = leb-true n (b + 1) p.1 in ⊎_elim (λ (k : n < b + 1). or_left (leb a n && leb n b) (eqb n (b + 1)) (and_from (leb a n) (leb n b) p.0 (le-leb n b (omega arith)))) (λ (k : b + 1 ≤ n). or_right (leb a n && leb n b) (eqb n (b + 1)) (eq-eqb n (b + 1) (omega arith))) (cases_lt n (b + 1)))

-- fewer numbers at the front of those between two
pub fewer : (a to b n : ℕ) → a ≤ to → (leb to n && (leb a n && leb n b)) ≡ (leb to n && leb n b)
fewer a to b n le =
    same_tests (leb to n && (leb a n && leb n b)) (leb to n && leb n b)
    (λ h. let p = and_parts (leb to n) (leb a n && leb n b) h in and_from (leb to n) (leb n b) p.0 (and_parts (leb a n) (leb n b) p.1).1)
    (λ h. let p = and_parts (leb to n) (leb n b) h in let q = leb-true to n p.0 in and_from (leb to n) (leb a n && leb n b) p.0 (and_from (leb a n) (leb n b) (le-leb a n (omega arith)) p.1))

-- a number under which a state is found is held
pub found_held : {T : Type 0} (w : Numbers) (xs : List T) (n : ℕ) (x : T) → lookup w xs n ≡ Some x → w.held n ≡ true
found_held w xs n x e = ⊎_elim (λ t. t) (λ f. absurd (apart (lookup_missing w xs n f) e)) (cases_Bool (w.held n))
  where
    apart : lookup w xs n ≡ None → lookup w xs n ≡ Some x → ⊥
    apart p q = let z : ◌≡◌ {A = ℕ} 0 1 = cc in omega arith

-- an instruction's numbers, in order
pub in_order : (u : Update) → together u ≡ true → (u.throwaway ≤ u.old) × ((u.old ≤ u.new) × (u.new ≤ u.throwaway + 15))
in_order u numbers =
    let p = and_parts (leb u.throwaway u.old) (leb u.old u.new && leb u.new (u.throwaway + 15)) numbers in
    let q = and_parts (leb u.old u.new) (leb u.new (u.throwaway + 15)) p.1 in
    (leb-true u.throwaway u.old p.0, (leb-true u.old u.new q.0, leb-true u.new (u.throwaway + 15) q.1))

-- numbers that are raised to no less than where they begin
pub raised : (w : Numbers) (n : ℕ) → raise w (max w.anchor n) ≡ starting_at w (max w.anchor n)
raised w n = raise_yes w (max w.anchor n) (le-leb w.anchor (max w.anchor n) (omega arith))

pub raised_anchor : (w : Numbers) (n : ℕ) → (raise w (max w.anchor n)).anchor ≡ max w.anchor n
raised_anchor w n = ap (λ (v : Numbers). v.anchor) (raised w n)

-- a pending acknowledgement at a later time
pending_later : (p : Option ℕ) (clock now : ℕ) → clock ≤ now → PendingBy p clock → PendingBy p now
pending_later None clock now le q = tt
pending_later (Some start) clock now le q = omega arith

-- and one that is pending from now on, if none was
pending_from_lem : (p : Option ℕ) (clock now : ℕ) → clock ≤ now → PendingBy p clock → PendingBy (pending_from p now) now
pending_from_lem None clock now le q = omega arith
pending_from_lem (Some start) clock now le q = omega arith

module _ {o : Outgoing} {i : Incoming} {t : Tally} (s : Sound o i t) where
  -- the next number is free
  pub next_free : o.top < o.numbers.anchor + 15 → free o.numbers (o.top + 1) ≡ true
  next_free room =
      and_from (inside o.numbers (o.top + 1)) (not (o.numbers.held (o.top + 1)))
      (inside_from o.numbers (o.top + 1) (omega arith) (omega arith))
      (not_from_false (o.numbers.held (o.top + 1)) (s.sent_held (o.top + 1) ∙ and_right (leb o.numbers.anchor (o.top + 1)) (leb (o.top + 1) o.top) (lt-leb (o.top + 1) o.top (omega arith))))

  -- the assumed number lies between the acknowledged and the last
  pub assumed_between : (now : ℕ) → (o.numbers.anchor ≤ assumed o now) × (assumed o now ≤ o.top)
  assumed_between now = let r = reached_from (o.top - o.numbers.anchor) (λ n. not (since (sent_at o n) patience now)) o.numbers.anchor in (r.0, omega arith)

  -- the ack of a number sent is taken
  pub sound_acknowledging : (ack : ℕ) → ack ≤ o.top → Sound (acknowledging o ack) i t
  sound_acknowledging ack sent =
      let is = raised_anchor o.numbers ack in
      record {
        sent_width = raise_width o.numbers (max o.numbers.anchor ack) ∙ s.sent_width;
        sent_held = λ n. subst (λ (w : Numbers). w.held n ≡ (leb w.anchor n && leb n o.top)) (sym (raised o.numbers ack)) (ap (λ b. leb (max o.numbers.anchor ack) n && b) (s.sent_held n) ∙ fewer o.numbers.anchor (max o.numbers.anchor ack) o.top n (omega arith));
        acknowledged = omega arith;
        unacknowledged = omega arith;
        received_width = s.received_width;
        received_within = s.received_within;
        newest_held = s.newest_held;
        newest_largest = s.newest_largest;
        times_length = s.times_length;
        times_past = λ n a b. s.times_past n (omega arith) b;
        last_past = s.last_past;
        clock_latest = s.clock_latest;
        pending_past = s.pending_past;
        sendings_most = s.sendings_most;
        numbers_most = s.numbers_most;
        datagrams_most = s.datagrams_most;
      }

  -- where the new number isn't held and the old one is, the new one has room among those that are kept
  pub new_free : (u : Update) → together u ≡ true → i.numbers.held u.old ≡ true → i.numbers.held u.new ≡ false → free (kept i u.throwaway) u.new ≡ true
  new_free u numbers old new =
      let ord = in_order u numbers in
      let base = s.received_within u.old old in
      let from : ℕ = max i.numbers.anchor u.throwaway in
      subst (λ w. free w u.new ≡ true) (sym (raised i.numbers u.throwaway))
      (and_from (inside (starting_at i.numbers from) u.new) (not (leb from u.new && i.numbers.held u.new))
      (inside_from (starting_at i.numbers from) u.new (omega arith) (omega arith))
      (not_from_false (leb from u.new && i.numbers.held u.new) (and_right (leb from u.new) (i.numbers.held u.new) new)))

  -- a call at a later time
  module _ (now : ℕ) (on : t.clock ≤ now) (most : now ≤ latest) where
    -- that alters no more than the half-made instruction
    pub sound_later : (half : Contents) → Sound o (with_half i half) (timed t now)
    sound_later half = record {
      sent_width = s.sent_width;
      sent_held = s.sent_held;
      acknowledged = s.acknowledged;
      unacknowledged = s.unacknowledged;
      received_width = s.received_width;
      received_within = s.received_within;
      newest_held = s.newest_held;
      newest_largest = s.newest_largest;
      times_length = s.times_length;
      times_past = λ n a b. omega (arith, s.times_past n a b);
      last_past = omega arith;
      clock_latest = most;
      pending_past = pending_later i.pending t.clock now on s.pending_past;
      sendings_most = s.sendings_most;
      numbers_most = s.numbers_most;
      datagrams_most = s.datagrams_most;
    }

    -- that sends, and fixes a number more or not
    pub sound_sent : (fix : Bool) (count : ℕ) → (fix ≡ true → o.top < o.numbers.anchor + 15) → count ≤ 8 → t.sendings < 1000000 → Sound (sent_out o fix now) (answered i) (counted t now count)
    sound_sent true count space few left =
        let next : ℕ = o.top + 1 in
        let room : o.top < o.numbers.anchor + 15 = space refl in
        let same = put_anchor o.numbers next in
        let most-assumed = (assumed_between now).1 in
        let renewed : (sent_out o true now).times ≡ set o.times (next % 16) now = cond-false (eqb (assumed o now) next) _ _ (ne_eqb (assumed o now) next (λ q. omega arith)) in
        record {
          sent_width = put_width o.numbers next ∙ s.sent_width;
          sent_held = λ n. subst (λ (w : Numbers). w.held n ≡ (leb w.anchor n && leb n next)) (sym (put_yes o.numbers next (next_free room))) (ap (λ b. b || eqb n next) (s.sent_held n) ∙ one_more o.numbers.anchor o.top n (omega arith));
          acknowledged = omega arith;
          unacknowledged = omega arith;
          received_width = s.received_width;
          received_within = s.received_within;
          newest_held = s.newest_held;
          newest_largest = s.newest_largest;
          times_length = ap length renewed ∙ length-set o.times (next % 16) now ∙ s.times_length;
          times_past = λ n a b. subst (λ (ts : List ℕ). get_or ts (n % 16) 0 ≤ now) (sym renewed) (⊎_elim
              (λ (k : n < next). let past = s.times_past n (omega arith) (omega arith) in set_before o.times (next % 16) now (n % 16) now (omega arith) (omega arith))
              (λ (k : next ≤ n). let is : n ≡ next = omega arith in subst (λ m. get_or (set o.times (next % 16) now) (m % 16) 0 ≤ now) (sym is) (omega (arith, get_or-set_same o.times (next % 16) now 0 (omega (arith, s.times_length)))))
              (cases_lt n next));
          last_past = omega arith;
          clock_latest = most;
          pending_past = tt;
          sendings_most = omega arith;
          numbers_most = omega arith;
          datagrams_most = omega arith;
        }
    sound_sent false count space few left = record {
      sent_width = s.sent_width;
      sent_held = s.sent_held;
      acknowledged = s.acknowledged;
      unacknowledged = s.unacknowledged;
      received_width = s.received_width;
      received_within = s.received_within;
      newest_held = s.newest_held;
      newest_largest = s.newest_largest;
      times_length = cond_both (eqb (assumed o now) o.top) o.times (set o.times (o.top % 16) now) (λ ts. length ts ≡ 16) (λ _. s.times_length) (λ _. length-set o.times (o.top % 16) now ∙ s.times_length);
      times_past = λ n a b.
          let past = s.times_past n a b in
          cond_both (eqb (assumed o now) o.top) o.times (set o.times (o.top % 16) now) (λ ts. get_or ts (n % 16) 0 ≤ now)
          (λ _. omega arith)
          (λ _. set_before o.times (o.top % 16) now (n % 16) now (omega arith) (omega arith));
      last_past = omega arith;
      clock_latest = most;
      pending_past = tt;
      sendings_most = omega arith;
      numbers_most = omega arith;
      datagrams_most = omega arith;
    }

    -- that holds a state as new, whose number isn't held and whose base is
    module _ (u : Update) (numbers : together u ≡ true) (old : i.numbers.held u.old ≡ true) (new : i.numbers.held u.new ≡ false) where
      abbrev keeps : Numbers
      keeps = kept i u.throwaway

      abbrev from : ℕ
      from = max i.numbers.anchor u.throwaway

      -- the newest number after it
      largest_held : (put keeps u.new).held (max i.newest u.new) ≡ true
      largest_held =
          ⊎_elim
          (λ (lt : i.newest < u.new). subst (λ m. (put keeps u.new).held m ≡ true) (sym (max-eq_right (omega arith))) (put_same keeps u.new (new_free u numbers old new)))
          (λ (le : u.new ≤ i.newest). subst (λ m. (put keeps u.new).held m ≡ true) (sym (max-eq_left le)) (put_other keeps u.new i.newest (λ e. both_ways (i.numbers.held u.new) new (subst (λ m. i.numbers.held m ≡ true) e s.newest_held)) ∙ still le))
          (cases_lt i.newest u.new)
        where
          still : u.new ≤ i.newest → keeps.held i.newest ≡ true
          still le =
              let ord = in_order u numbers in
              let low = s.received_within i.newest s.newest_held in
              ap (λ (w : Numbers). w.held i.newest) (raised i.numbers u.throwaway) ∙ and_from (leb from i.newest) (i.numbers.held i.newest) (le-leb from i.newest (omega arith)) s.newest_held

      largest_after : (n : ℕ) → (put keeps u.new).held n ≡ true → n ≤ max i.newest u.new
      largest_after n k =
          ⊎_elim
          (λ (e : n ≡ u.new). omega arith)
          (λ (ne : n ≡ u.new → ⊥).
          let was = sym (ap (λ (w : Numbers). w.held n) (raised i.numbers u.throwaway)) ∙ sym (put_other keeps u.new n ne) ∙ k in
          let le = s.newest_largest n (and_parts (leb from n) (i.numbers.held n) was).1 in
          omega arith)
          (cases_eq n u.new)

      pub sound_new : Sound o (holding_new i u.throwaway u.new now) (timed t now)
      sound_new = record {
        sent_width = s.sent_width;
        sent_held = s.sent_held;
        acknowledged = s.acknowledged;
        unacknowledged = s.unacknowledged;
        received_width = put_width keeps u.new ∙ raise_width i.numbers from ∙ s.received_width;
        received_within = within_put keeps u.new (within_raise i.numbers from s.received_within);
        newest_held = largest_held;
        newest_largest = largest_after;
        times_length = s.times_length;
        times_past = λ n a b. omega (arith, s.times_past n a b);
        last_past = omega arith;
        clock_latest = most;
        pending_past = pending_from_lem i.pending t.clock now on s.pending_past;
        sendings_most = s.sendings_most;
        numbers_most = s.numbers_most;
        datagrams_most = s.datagrams_most;
      }

module _ (K : Kind) where
  -- an end that has just been opened
  pub own_fresh : (d : Direction) (time : ℕ) → time ≤ latest → Own (fresh K d time)
  own_fresh d time le = record {
    sent_width = refl;
    sent_held = λ n. same_tests (eqb n 0) (leb 0 n && leb n 0) (λ h. let e = eqb-true n 0 h in and_from (leb 0 n) (leb n 0) (le-leb 0 n (omega arith)) (le-leb n 0 (omega arith))) (λ h. let p = leb-true n 0 (and_parts (leb 0 n) (leb n 0) h).1 in eq-eqb n 0 (omega arith));
    acknowledged = omega arith;
    unacknowledged = omega arith;
    received_width = refl;
    received_within = λ n h. let e = eqb-true n 0 h in (omega arith, omega arith);
    newest_held = refl;
    newest_largest = λ n h. let e = eqb-true n 0 h in omega arith;
    times_length = refl;
    times_past = λ n a b. absurd (omega arith);
    last_past = omega arith;
    clock_latest = le;
    pending_past = tt;
    sendings_most = omega arith;
    numbers_most = omega arith;
    datagrams_most = omega arith;
  }

  -- a change alters none of the three parts
  pub own_changed : (e e' : End K) (target : K.Contents) → changed K e target ≡ Ok e' → Own e → Own e'
  own_changed e e' target eq o = IfOk-at_ok (λ (x : End K). Own x) eq (cond_both (K.follows e.current target) _ _ (λ r. IfOk r (λ x. Own x)) (λ _. o) (λ _. tt))

  module _ (e : End K) (ks : List K.Contents) where
    -- where a number is fixed, there is room for it
    pub fixes_room : fixes K e ks ≡ true → e.outgoing.top < e.outgoing.numbers.anchor + 15
    fixes_room f = let k = leb-false 15 (e.outgoing.top - e.outgoing.numbers.anchor) (not-true (full e.outgoing) (and_parts (differs K e ks) (not (full e.outgoing)) f).1) in omega arith

    -- an end after a sending, which has at most 8 pieces
    pub own_sent : (now : ℕ) → Own e → e.tally.clock ≤ now → now ≤ latest → length (update K e ks now).diff ≤ 2031 → e.tally.sendings < 1000000 → Own (sent_end K e ks now)
    own_sent now o on most short left = sound_sent o now on most (fixes K e ks) (piece_count (instruction_bytes (update K e ks now))) fixes_room (omega (arith, instruction_length (update K e ks now))) left

module _ (K L : Kind) where
  pub own_opened : (d : Direction) (time : ℕ) (ks : List K.Contents) (ls : List L.Contents) (h : Holding K L) → opened K L d time ks ls ≡ Ok h → Own h.end
  own_opened d time ks ls h eq = IfOk-at_ok (λ (x : Holding K L). Own x.end) eq (cond_both (leb time latest) _ _ (λ r. IfOk r (λ x. Own x.end)) (λ t. cond_both (both_fit ks ls) _ _ (λ r. IfOk r (λ x. Own x.end)) (λ _. own_fresh K d time (leb-true time latest t)) (λ _. tt)) (λ _. tt))

  module _ (h : Holding K L) (o : Own h.end) (time : ℕ) where
    -- the time that a call uses
    abbrev now : ℕ
    now = max h.end.tally.clock time

    now_latest : Called K L h time → now ≤ latest
    now_latest k = omega (arith, k.in_time, o.clock_latest)

    pub own_ticked : (out : List ℕ) → Own (ticked K L h time out).end
    own_ticked out =
        tick_ways K L h time out (λ r. Own r.end)
        (λ _. o)
        (λ k _. sound_later o now (omega arith) (now_latest k) h.end.incoming.half)
        (λ s. own_sent K h.end h.sent_store now o (omega arith) (now_latest s.called) s.short s.left)

    pub own_taken : (bytes : List ℕ) → Own (taken K L h time bytes).end
    own_taken bytes =
        take_ways K L h time bytes (λ r. Own r.end)
        (λ _. o)
        (λ g half k e. sound_later o now (omega arith) (now_latest k.called) half)
        (λ g bs u r y. passed r.carries.called r.ack_sent)
        (λ g bs u r n m. passed r.carries.called r.ack_sent)
        (λ g bs u base c r n l a. sound_acknowledging (sound_new o now (omega arith) (now_latest r.carries.called) u r.numbers (found_held h.end.incoming.numbers h.received_store u.old base l) n) u.ack r.ack_sent)
      where
        -- an instruction that alters no received state
        passed : {ack : ℕ} → Called K L h time → ack ≤ h.end.outgoing.top → Own (informed K L h.end h.received_store now ack (with_half h.end.incoming nothing))
        passed {ack} k sent = sound_acknowledging (sound_later o now (omega arith) (now_latest k) nothing) ack sent

  pub all_stay : Stays K L
  all_stay = record {
    opening = own_opened;
    changing = own_changed K;
    ticking = λ h time out o. own_ticked h o time out;
    taking = λ h time bytes o. own_taken h o time bytes;
  }
