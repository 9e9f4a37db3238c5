-- What a tick leaves alone, what it sends, and what it keeps under its numbers.
use Rattle.std.proofs.Common.{◌≡◌, ℕ, ◌+◌, ◌≤◌, max, Bool, true, false, cond, ◌&&◌, leb, List, length, Ok, Err, Result, sym, refl, ap, ◌∙◌, ⊎_elim, arith, Some, None, Option}
use Rattle.std.proofs.lemmas.Bool.{cases_Bool, cond-true, cond-false, cond_both, and_parts, and_from, leb-true, le-leb, eq-eqb}
use Rattle.state.specs.Kind.{Kind}
use Rattle.window.specs.Numbers.{Within, free, put, stored, lookup}
use Rattle.window.specs.Calls.{fits}
use Rattle.window.proofs.Laws.{put_anchor, lookup_some, length_stored, lookup_put_same, lookup_put_other}
use Rattle.packet.specs.declared.sending.Sent.{Sent as Count}
use Rattle.packet.specs.Pieces.{piece_count}
use Rattle.packet.specs.Instructions.{together, instruction_bytes, read_instruction}
use Rattle.packet.proofs.Layouts.{instruction_length, instruction_back}
use Rattle.protocol.specs.declared.answer.Ticked.{Ticked}
use Rattle.protocol.specs.declared.answer.Ticked.TheVariants.{Idle, Sent}
use Rattle.protocol.specs.declared.fault.TickRefusal.{TickRefusal}
use Rattle.endpoint.specs.End.{End, Holding, state_at}
use Rattle.endpoint.specs.Due.{due}
use Rattle.endpoint.specs.Ticking as tick
use Rattle.endpoint.specs.Ticking.{AfterTick, facts, fixes, new_number, new_state, top_state, assumed, assumed_state, update, sent_end, sent_states, ticked}
use Rattle.endpoint.specs.Own.{Own}
use Rattle.endpoint.proofs.Ways.{Called, Sends, idle_at, sent_as, tick_ways}
use Rattle.endpoint.proofs.Keeping.{assumed_between, fixes_room, next_free}

module _ (K L : Kind) (h : Holding K L) (time : ℕ) (out : List ℕ) where
  -- a tick that is refused leaves all as it was
  pub tick_refused : (f : TickRefusal) → (ticked K L h time out).answer ≡ Err f → ticked K L h time out ≡ tick.refuses K L h out f
  tick_refused f =
      tick_ways K L h time out (λ r. r.answer ≡ Err f → r ≡ tick.refuses K L h out f)
      (λ g e. let s : g ≡ f = cc in ap (tick.refuses K L h out) s)
      (λ _ _ e. absurd (apart Idle e))
      (λ _ e. absurd (apart (Sent _) e))
    where
      apart : (t : Ticked) → Ok t ≡ Err f → ⊥
      apart t e = let z : ◌≡◌ {A = ℕ} 0 1 = cc in omega arith

  -- one that is idle wasn't due, and moves the clock alone
  pub tick_idle : (ticked K L h time out).answer ≡ Ok Idle → Called K L h time × ((due (facts K L h.end h.sent_store (max h.end.clock time)) ≡ false) × (ticked K L h time out ≡ idle_at K L h (max h.end.clock time) out))
  tick_idle =
      tick_ways K L h time out (λ r. r.answer ≡ Ok Idle → Called K L h time × ((due (facts K L h.end h.sent_store (max h.end.clock time)) ≡ false) × (r ≡ idle_at K L h (max h.end.clock time) out)))
      (λ f e. absurd (refusal f e))
      (λ k d e. (k, (d, refl)))
      (λ _ e. absurd (sending _ e))
    where
      refusal : (f : TickRefusal) → Err f ≡ Ok Idle → ⊥
      refusal f e = let z : ◌≡◌ {A = ℕ} 0 1 = cc in omega arith

      sending : (n : Count) → ◌≡◌ {A = Result Ticked TickRefusal} (Ok (Sent n)) (Ok Idle) → ⊥
      sending n e = let z : ◌≡◌ {A = ℕ} 0 1 = cc in omega arith

  -- one that sends was due, had sendings left, and its diff was that of a state that follows
  pub tick_sent : (n : Count) → (ticked K L h time out).answer ≡ Ok (Sent n) → Sends K L h time out × (ticked K L h time out ≡ sent_as K L h (max h.end.clock time) out)
  tick_sent n =
      tick_ways K L h time out (λ r. r.answer ≡ Ok (Sent n) → Sends K L h time out × (r ≡ sent_as K L h (max h.end.clock time) out))
      (λ f e. absurd (refusal f e))
      (λ _ _ e. absurd (idle e))
      (λ s e. (s, refl))
    where
      refusal : (f : TickRefusal) → Err f ≡ Ok (Sent n) → ⊥
      refusal f e = let z : ◌≡◌ {A = ℕ} 0 1 = cc in omega arith

      idle : ◌≡◌ {A = Result Ticked TickRefusal} (Ok Idle) (Ok (Sent n)) → ⊥
      idle e = let z : ◌≡◌ {A = ℕ} 0 1 = cc in omega arith

-- what a tick leaves alone, whatever its answer
pub record TickLeaves (K L : Kind) (h : Holding K L) (r : AfterTick K L) : Type 0 where
  pub direction : r.end.direction ≡ h.end.direction
  pub current : r.end.current ≡ h.end.current
  pub received : r.end.received ≡ h.end.received
  pub newest : r.end.newest ≡ h.end.newest
  pub half : r.end.half ≡ h.end.half
  -- what is acknowledged stays
  pub anchor : r.end.sent.anchor ≡ h.end.sent.anchor
  -- the last number stays or rises by one
  pub top_least : h.end.top ≤ r.end.top
  pub top_most : r.end.top ≤ h.end.top + 1
  -- the clock and the counts never fall
  pub clock : h.end.clock ≤ r.end.clock
  pub sendings : h.end.sendings ≤ r.end.sendings
  pub datagrams : h.end.datagrams ≤ r.end.datagrams
  -- the store is as long as it was, and has under each number up to the last what it had
  pub store_length : length r.sent_store ≡ length h.sent_store
  pub states : (n : ℕ) → n ≤ h.end.top → lookup r.end.sent r.sent_store n ≡ lookup h.end.sent h.sent_store n

module _ (K L : Kind) (e : End K L) (ks : List K.Contents) (now : ℕ) (o : Own K L e) where
  -- every number of the sent window is held
  pub sent_has : (n : ℕ) → e.sent.anchor ≤ n → n ≤ e.top → e.sent.held n ≡ true
  sent_has n a b = o.sent_held n ∙ and_from (leb e.sent.anchor n) (leb n e.top) (le-leb e.sent.anchor n a) (le-leb n e.top b)

  -- and lies within it
  pub sent_within : Within e.sent
  sent_within n k =
      let p = and_parts (leb e.sent.anchor n) (leb n e.top) (sym (o.sent_held n) ∙ k) in
      let a = leb-true e.sent.anchor n p.0 in
      let b = leb-true n e.top p.1 in
      let c = o.unacknowledged in
      let d = o.sent_width in
      (a, omega arith)

  -- the numbers of the instruction: from the acknowledged to the assumed, and to the new one
  pub update_numbers : (e.sent.anchor ≤ assumed K L e ks now) × ((assumed K L e ks now ≤ e.top) × ((e.top ≤ new_number K L e ks now) × ((new_number K L e ks now ≤ e.top + 1) × (new_number K L e ks now ≤ e.sent.anchor + 15))))
  update_numbers =
      let a = assumed_between K L e ks now o in
      let m = o.unacknowledged in
      ⊎_elim
      (λ f. let r = fixes_room K L e ks now o f in let n = cond-true (fixes K L e ks now) (e.top + 1) e.top f in (a.0, (a.1, (omega arith, (omega arith, omega arith)))))
      (λ f. let n = cond-false (fixes K L e ks now) (e.top + 1) e.top f in (a.0, (a.1, (omega arith, (omega arith, omega arith)))))
      (cases_Bool (fixes K L e ks now))

  pub update_together : together (update K L e ks now) ≡ true
  update_together =
      let u = update_numbers in
      and_from (leb e.sent.anchor (assumed K L e ks now)) (leb (assumed K L e ks now) (new_number K L e ks now) && leb (new_number K L e ks now) (e.sent.anchor + 15))
      (le-leb e.sent.anchor (assumed K L e ks now) u.0)
      (and_from (leb (assumed K L e ks now) (new_number K L e ks now)) (leb (new_number K L e ks now) (e.sent.anchor + 15))
      (le-leb (assumed K L e ks now) (new_number K L e ks now) (omega (arith, u.1.0, u.1.1.0)))
      (le-leb (new_number K L e ks now) (e.sent.anchor + 15) u.1.1.1.1))

  -- so it is read back as it was
  pub update_back : read_instruction (instruction_bytes (update K L e ks now)) ≡ Ok (update K L e ks now)
  update_back = instruction_back (update K L e ks now) update_together

  -- it has at least one piece
  pub some_pieces : 1 ≤ piece_count (instruction_bytes (update K L e ks now))
  some_pieces = omega (arith, instruction_length (update K L e ks now))

  module _ (fit : length ks ≡ 16) where
    sent_fits : fits e.sent ks ≡ true
    sent_fits = eq-eqb (length ks) e.sent.width (fit ∙ sym o.sent_width)

    -- the store has a state under every number of the sent window
    pub sent_state_lem : (n : ℕ) → e.sent.anchor ≤ n → n ≤ e.top → lookup e.sent ks n ≡ Some (state_at K e.sent ks n)
    sent_state_lem n a b =
        let s = lookup_some e.sent ks n sent_within sent_fits (sent_has n a b) in
        let held : K.Contents → Option K.Contents = λ x. Some x in
        let is : state_at K e.sent ks n ≡ s.0 = ap (λ r. elim r [ Some x ↦ x | None ↦ K.start ]) s.2 in
        s.2 ∙ ap held (sym is)

    -- among them the assumed one
    pub assumed_state_lem : lookup e.sent ks (assumed K L e ks now) ≡ Some (assumed_state K L e ks now)
    assumed_state_lem = let u = update_numbers in sent_state_lem (assumed K L e ks now) u.0 u.1.0

    -- after a sending it has the new state under the new number
    pub new_state_lem : lookup (sent_end K L e ks now).sent (sent_states K L e ks now) (new_number K L e ks now) ≡ Some (new_state K L e ks now)
    new_state_lem = by (fixes K L e ks now) (λ f. next_free K L e ks now o (fixes_room K L e ks now o f))
      where
        by : (b : Bool) → (b ≡ true → free e.sent (e.top + 1) ≡ true) → lookup (cond b (put e.sent (cond b (e.top + 1) e.top)) e.sent) (cond b (stored e.sent ks (cond b (e.top + 1) e.top) e.current) ks) (cond b (e.top + 1) e.top) ≡ Some (cond b e.current (top_state K L e ks now))
        by true f = lookup_put_same e.sent ks (e.top + 1) e.current sent_fits (f refl)
        by false f = sent_state_lem e.top o.acknowledged (omega arith)

  -- and under every number up to the last what it had
  pub old_states : (n : ℕ) → n ≤ e.top → lookup (sent_end K L e ks now).sent (sent_states K L e ks now) n ≡ lookup e.sent ks n
  old_states n le = by (fixes K L e ks now)
    where
      by : (b : Bool) → lookup (cond b (put e.sent (cond b (e.top + 1) e.top)) e.sent) (cond b (stored e.sent ks (cond b (e.top + 1) e.top) e.current) ks) n ≡ lookup e.sent ks n
      by true = lookup_put_other e.sent ks (e.top + 1) e.current n sent_within (λ q. omega arith)
      by false = refl

  pub sent_length : length (sent_states K L e ks now) ≡ length ks
  sent_length = cond_both (fixes K L e ks now) (stored e.sent ks (new_number K L e ks now) e.current) ks (λ xs. length xs ≡ length ks) (λ _. length_stored e.sent ks (new_number K L e ks now) e.current) (λ _. refl)

  pub sent_anchor : (sent_end K L e ks now).sent.anchor ≡ e.sent.anchor
  sent_anchor = cond_both (fixes K L e ks now) (put e.sent (new_number K L e ks now)) e.sent (λ w. w.anchor ≡ e.sent.anchor) (λ _. put_anchor e.sent (new_number K L e ks now)) (λ _. refl)

module _ (K L : Kind) (h : Holding K L) (o : Own K L h.end) where
  pub tick_leaves : (time : ℕ) (out : List ℕ) → TickLeaves K L h (ticked K L h time out)
  tick_leaves time out =
      tick_ways K L h time out (λ r. TickLeaves K L h r)
      (λ f. record {
        direction = refl;
        current = refl;
        received = refl;
        newest = refl;
        half = refl;
        anchor = refl;
        top_least = omega arith;
        top_most = omega arith;
        clock = omega arith;
        sendings = omega arith;
        datagrams = omega arith;
        store_length = refl;
        states = λ n le. refl;
      })
      (λ k d. record {
        direction = refl;
        current = refl;
        received = refl;
        newest = refl;
        half = refl;
        anchor = refl;
        top_least = omega arith;
        top_most = omega arith;
        clock = omega arith;
        sendings = omega arith;
        datagrams = omega arith;
        store_length = refl;
        states = λ n le. refl;
      })
      (λ s. let u = update_numbers K L h.end h.sent_store (max h.end.clock time) o in record {
        direction = refl;
        current = refl;
        received = refl;
        newest = refl;
        half = refl;
        anchor = sent_anchor K L h.end h.sent_store (max h.end.clock time) o;
        top_least = u.1.1.0;
        top_most = u.1.1.1.0;
        clock = omega arith;
        sendings = omega arith;
        datagrams = omega arith;
        store_length = sent_length K L h.end h.sent_store (max h.end.clock time) o;
        states = old_states K L h.end h.sent_store (max h.end.clock time) o;
      })
