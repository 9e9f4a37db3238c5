-- What a tick leaves alone, what it sends, and what it keeps under its numbers.
use Rattle.std.proofs.Common.{◌≡◌, ℕ, ◌+◌, ◌<◌, ◌≤◌, max, Bool, true, false, cond, ◌&&◌, leb, List, length, Ok, Err, Result, sym, refl, ap, ◌∙◌, arith, Some, None, Option}
use Rattle.std.proofs.lemmas.Bool.{cond_both, and_parts, and_from, leb-true, le-leb, eq-eqb}
use Rattle.state.specs.Kind.{Kind}
use Rattle.window.specs.Numbers.{Within, free, stored, lookup}
use Rattle.window.specs.Calls.{fits}
use Rattle.window.proofs.Laws.{put_anchor, lookup_some, length_stored, lookup_put_same, lookup_put_other}
use Rattle.packet.specs.declared.sending.Sent.{Sent as Count}
use Rattle.packet.specs.Pieces.{piece_count}
use Rattle.packet.specs.Instructions.{together, instruction_bytes, read_instruction}
use Rattle.packet.proofs.Layouts.{instruction_length, instruction_back}
use Rattle.protocol.specs.declared.answer.Ticked.{Ticked}
use Rattle.protocol.specs.declared.answer.Ticked.TheVariants.{Idle, Sent}
use Rattle.protocol.specs.declared.fault.TickRefusal.{TickRefusal}
use Rattle.protocol.specs.End.{Outgoing, Incoming, Tally, End, Holding, state_at}
use Rattle.protocol.specs.Due.{due}
use Rattle.protocol.specs.Ticking as tick
use Rattle.protocol.specs.Ticking.{AfterTick, assumed, leads_to, sent_out, top_state, idled, facts, fixes, new_number, new_state, sent_states, assumed_state, update, sent_end, ticked}
use Rattle.protocol.specs.Own.{Sound, Own}
use Rattle.protocol.proofs.Ways.{Called, Sends, idle_at, sent_as, tick_ways}
use Rattle.protocol.proofs.Keeping.{assumed_between, fixes_room, next_free}

module _ (K L : Kind) (h : Holding K L) (time : ℕ) (out : List ℕ) where
  -- a tick that is refused leaves all as it was
  pub tick_refused : (f : TickRefusal) → (ticked K L h time out).answer ≡ Err f → ticked K L h time out ≡ tick.refuses K h.end h.sent_store out f
  tick_refused f =
      tick_ways K L h time out (λ r. r.answer ≡ Err f → r ≡ tick.refuses K h.end h.sent_store out f)
      (λ g e. let s : g ≡ f = cc in ap (tick.refuses K h.end h.sent_store out) s)
      (λ _ _ e. absurd (apart Idle e))
      (λ _ e. absurd (apart (Sent _) e))
    where
      apart : (t : Ticked) → Ok t ≡ Err f → ⊥
      apart t e = let z : ◌≡◌ {A = ℕ} 0 1 = cc in omega arith

  -- one that is idle wasn't due, and moves the clock alone
  pub tick_idle : (ticked K L h time out).answer ≡ Ok Idle → Called K L h time × ((due (facts K h.end h.sent_store (max h.end.tally.clock time)) ≡ false) × (ticked K L h time out ≡ idle_at K L h (max h.end.tally.clock time) out))
  tick_idle =
      tick_ways K L h time out (λ r. r.answer ≡ Ok Idle → Called K L h time × ((due (facts K h.end h.sent_store (max h.end.tally.clock time)) ≡ false) × (r ≡ idle_at K L h (max h.end.tally.clock time) out)))
      (λ f e. absurd (refusal f e))
      (λ k d e. (k, (d, refl)))
      (λ _ e. absurd (sending _ e))
    where
      refusal : (f : TickRefusal) → Err f ≡ Ok Idle → ⊥
      refusal f e = let z : ◌≡◌ {A = ℕ} 0 1 = cc in omega arith

      sending : (n : Count) → ◌≡◌ {A = Result Ticked TickRefusal} (Ok (Sent n)) (Ok Idle) → ⊥
      sending n e = let z : ◌≡◌ {A = ℕ} 0 1 = cc in omega arith

  -- one that sends was due, had sendings left, and its diff was that of a state that follows
  pub tick_sent : (n : Count) → (ticked K L h time out).answer ≡ Ok (Sent n) → Sends K L h time out × (ticked K L h time out ≡ sent_as K L h (max h.end.tally.clock time) out)
  tick_sent n =
      tick_ways K L h time out (λ r. r.answer ≡ Ok (Sent n) → Sends K L h time out × (r ≡ sent_as K L h (max h.end.tally.clock time) out))
      (λ f e. absurd (refusal f e))
      (λ _ _ e. absurd (idle e))
      (λ s e. (s, refl))
    where
      refusal : (f : TickRefusal) → Err f ≡ Ok (Sent n) → ⊥
      refusal f e = let z : ◌≡◌ {A = ℕ} 0 1 = cc in omega arith

      idle : ◌≡◌ {A = Result Ticked TickRefusal} (Ok Idle) (Ok (Sent n)) → ⊥
      idle e = let z : ◌≡◌ {A = ℕ} 0 1 = cc in omega arith

-- what a tick leaves alone, whatever its answer
pub record TickLeaves (K L : Kind) (h : Holding K L) (r : AfterTick K) : Type 0 where
  pub direction : r.end.direction ≡ h.end.direction
  pub current : r.end.current ≡ h.end.current
  pub received : r.end.incoming.numbers ≡ h.end.incoming.numbers
  pub newest : r.end.incoming.newest ≡ h.end.incoming.newest
  pub half : r.end.incoming.half ≡ h.end.incoming.half
  -- what is acknowledged stays
  pub anchor : r.end.outgoing.numbers.anchor ≡ h.end.outgoing.numbers.anchor
  -- the last number stays or rises by one
  pub top_least : h.end.outgoing.top ≤ r.end.outgoing.top
  pub top_most : r.end.outgoing.top ≤ h.end.outgoing.top + 1
  -- the clock and the counts never fall
  pub clock : h.end.tally.clock ≤ r.end.tally.clock
  pub sendings : h.end.tally.sendings ≤ r.end.tally.sendings
  pub datagrams : h.end.tally.datagrams ≤ r.end.tally.datagrams
  -- the store is as long as it was, and has under each number up to the last what it had
  pub store_length : length r.sent_store ≡ length h.sent_store
  pub states : (n : ℕ) → n ≤ h.end.outgoing.top → lookup r.end.outgoing.numbers r.sent_store n ≡ lookup h.end.outgoing.numbers h.sent_store n

module _ {o : Outgoing} {i : Incoming} {t : Tally} (s : Sound o i t) where
  -- every number of the sent window is held
  pub sent_has : (n : ℕ) → o.numbers.anchor ≤ n → n ≤ o.top → o.numbers.held n ≡ true
  sent_has n a b = s.sent_held n ∙ and_from (leb o.numbers.anchor n) (leb n o.top) (le-leb o.numbers.anchor n a) (le-leb n o.top b)

  -- and lies within it
  pub sent_within : Within o.numbers
  sent_within n k =
      let p = and_parts (leb o.numbers.anchor n) (leb n o.top) (sym (s.sent_held n) ∙ k) in
      let a = leb-true o.numbers.anchor n p.0 in
      let b = leb-true n o.top p.1 in
      (a, omega arith)

-- what goes out after a sending begins where it did
pub sent_anchor : (o : Outgoing) (fix : Bool) (now : ℕ) → (sent_out o fix now).numbers.anchor ≡ o.numbers.anchor
sent_anchor o true now = put_anchor o.numbers (o.top + 1)
sent_anchor o false now = refl

module _ (K : Kind) (e : End K) (ks : List K.Contents) (o : Own e) where
  module _ (now : ℕ) where
    -- the numbers of the instruction: from the acknowledged to the assumed, and to the new one
    pub update_numbers : (e.outgoing.numbers.anchor ≤ assumed e.outgoing now) × ((assumed e.outgoing now ≤ e.outgoing.top) × ((e.outgoing.top ≤ new_number K e ks) × ((new_number K e ks ≤ e.outgoing.top + 1) × (new_number K e ks ≤ e.outgoing.numbers.anchor + 15))))
    update_numbers =
        let a = assumed_between o now in
        (a.0, (a.1, by (fixes K e ks) (fixes_room K e ks)))
      where
        by : (fix : Bool) → (fix ≡ true → e.outgoing.top < e.outgoing.numbers.anchor + 15) → (e.outgoing.top ≤ leads_to e.outgoing fix) × ((leads_to e.outgoing fix ≤ e.outgoing.top + 1) × (leads_to e.outgoing fix ≤ e.outgoing.numbers.anchor + 15))
        by true f = let r = f refl in (omega arith, (omega arith, omega arith))
        by false f = (omega arith, (omega arith, omega arith))

    pub update_together : together (update K e ks now) ≡ true
    update_together =
        let u = update_numbers in
        and_from (leb e.outgoing.numbers.anchor (assumed e.outgoing now)) (leb (assumed e.outgoing now) (new_number K e ks) && leb (new_number K e ks) (e.outgoing.numbers.anchor + 15))
        (le-leb e.outgoing.numbers.anchor (assumed e.outgoing now) u.0)
        (and_from (leb (assumed e.outgoing now) (new_number K e ks)) (leb (new_number K e ks) (e.outgoing.numbers.anchor + 15))
        (le-leb (assumed e.outgoing now) (new_number K e ks) (omega (arith, u.1.0, u.1.1.0)))
        (le-leb (new_number K e ks) (e.outgoing.numbers.anchor + 15) u.1.1.1.1))

    -- so it is read back as it was
    pub update_back : read_instruction (instruction_bytes (update K e ks now)) ≡ Ok (update K e ks now)
    update_back = instruction_back (update K e ks now) update_together

    -- it has at least one piece
    pub some_pieces : 1 ≤ piece_count (instruction_bytes (update K e ks now))
    some_pieces = omega (arith, instruction_length (update K e ks now))

  module _ (fit : length ks ≡ 16) where
    sent_fits : fits e.outgoing.numbers ks ≡ true
    sent_fits = eq-eqb (length ks) e.outgoing.numbers.width (fit ∙ sym o.sent_width)

    -- the store has a state under every number of the sent window
    pub sent_state_lem : (n : ℕ) → e.outgoing.numbers.anchor ≤ n → n ≤ e.outgoing.top → lookup e.outgoing.numbers ks n ≡ Some (state_at K e.outgoing.numbers ks n)
    sent_state_lem n a b =
        let s = lookup_some e.outgoing.numbers ks n (sent_within o) sent_fits (sent_has o n a b) in
        let held : K.Contents → Option K.Contents = λ x. Some x in
        let is : state_at K e.outgoing.numbers ks n ≡ s.0 = ap (λ r. elim r [ Some x ↦ x | None ↦ K.start ]) s.2 in
        s.2 ∙ ap held (sym is)

    -- among them the assumed one
    pub assumed_state_lem : (now : ℕ) → lookup e.outgoing.numbers ks (assumed e.outgoing now) ≡ Some (assumed_state K e ks now)
    assumed_state_lem now = let u = update_numbers now in sent_state_lem (assumed e.outgoing now) u.0 u.1.0

    -- after a sending it has the new state under the new number
    pub new_state_lem : (now : ℕ) → lookup (sent_end K e ks now).outgoing.numbers (sent_states K e ks) (new_number K e ks) ≡ Some (new_state K e ks)
    new_state_lem now = by (fixes K e ks) (λ f. next_free o (fixes_room K e ks f))
      where
        by : (fix : Bool) → (fix ≡ true → free e.outgoing.numbers (e.outgoing.top + 1) ≡ true) → lookup (sent_out e.outgoing fix now).numbers (cond fix (stored e.outgoing.numbers ks (leads_to e.outgoing fix) e.current) ks) (leads_to e.outgoing fix) ≡ Some (cond fix e.current (top_state K e.outgoing ks))
        by true f = lookup_put_same e.outgoing.numbers ks (e.outgoing.top + 1) e.current sent_fits (f refl)
        by false f = sent_state_lem e.outgoing.top o.acknowledged (omega arith)

  -- and under every number up to the last what it had
  pub old_states : (now n : ℕ) → n ≤ e.outgoing.top → lookup (sent_end K e ks now).outgoing.numbers (sent_states K e ks) n ≡ lookup e.outgoing.numbers ks n
  old_states now n le = by (fixes K e ks)
    where
      by : (fix : Bool) → lookup (sent_out e.outgoing fix now).numbers (cond fix (stored e.outgoing.numbers ks (leads_to e.outgoing fix) e.current) ks) n ≡ lookup e.outgoing.numbers ks n
      by true = lookup_put_other e.outgoing.numbers ks (e.outgoing.top + 1) e.current n (sent_within o) (λ q. omega arith)
      by false = refl

-- the store is as long as it was
pub sent_length : (K : Kind) (e : End K) (ks : List K.Contents) → length (sent_states K e ks) ≡ length ks
sent_length K e ks = cond_both (fixes K e ks) (stored e.outgoing.numbers ks (new_number K e ks) e.current) ks (λ xs. length xs ≡ length ks) (λ _. length_stored e.outgoing.numbers ks (new_number K e ks) e.current) (λ _. refl)

module _ (K L : Kind) (h : Holding K L) (o : Own h.end) (time : ℕ) (out : List ℕ) where
  -- a tick that doesn't send
  idled_leaves : (a : Result Ticked TickRefusal) (now : ℕ) → h.end.tally.clock ≤ now → TickLeaves K L h (record { answer = a; end = idled K h.end now; sent_store = h.sent_store; buffer = out })
  idled_leaves a now on = record {
    direction = refl;
    current = refl;
    received = refl;
    newest = refl;
    half = refl;
    anchor = refl;
    top_least = omega arith;
    top_most = omega arith;
    clock = on;
    sendings = omega arith;
    datagrams = omega arith;
    store_length = refl;
    states = λ n le. refl;
  }

  pub tick_leaves : TickLeaves K L h (ticked K L h time out)
  tick_leaves =
      let now : ℕ = max h.end.tally.clock time in
      let u = update_numbers K h.end h.sent_store o now in
      tick_ways K L h time out (λ r. TickLeaves K L h r)
      (λ f. idled_leaves (Err f) h.end.tally.clock (omega arith))
      (λ k d. idled_leaves (Ok Idle) now (omega arith))
      (λ s. record {
        direction = refl;
        current = refl;
        received = refl;
        newest = refl;
        half = refl;
        anchor = sent_anchor h.end.outgoing (fixes K h.end h.sent_store) now;
        top_least = u.1.1.0;
        top_most = u.1.1.1.0;
        clock = omega arith;
        sendings = omega arith;
        datagrams = omega arith;
        store_length = sent_length K h.end h.sent_store;
        states = old_states K h.end h.sent_store o now;
      })
