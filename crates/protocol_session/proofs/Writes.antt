-- A tick: what holds between the two ends holds after it.
use Rattle.std.proofs.Common.{◌≡◌, ℕ, zero, suc, ◌+◌, ◌<◌, ◌≤◌, max, Bool, true, false, cond, eqb, ◌⊎◌, List, [], ◌∷◌, ◌++◌, map, length, replicate, Some, Ok, Err, sym, refl, ap, ◌∙◌, subst, inl, inr, ⊎_elim, arith}
use Rattle.std.specs.List.{range_with_len}
use Rattle.std.proofs.lemmas.Bool.{cases_lt, cases_Bool, cond-true, cond-false, cond_both, and_parts, eq-eqb, ne_eqb}
use Rattle.state.specs.Kind.{Kind, Itself}
use Rattle.window.specs.Numbers.{lookup}
use Rattle.packet.specs.declared.datagram.Direction.{Direction}
use Rattle.packet.specs.Pieces.{piece_count}
use Rattle.packet.specs.Instructions.{Update, instruction_bytes}
use Rattle.packet.specs.Datagrams.{datagram_bytes}
use Rattle.packet.specs.Sendings.{parcel, datagrams_of}
use Rattle.packet.proofs.Layouts.{instruction_length}
use Rattle.protocol.specs.declared.fault.TickRefusal.{TickRefusal}
use Rattle.protocol.specs.End.{End, Holding, latest}
use Rattle.protocol.specs.Ticking.{AfterTick, fixes, new_number, new_state, top_state, assumed, assumed_state, update, idled, sent_end, sent_states, sent_count, ticked}
use Rattle.protocol.specs.Own.{Own}
use Rattle.protocol.proofs.Ways.{Called, Sends, idle_at, sent_as, tick_ways}
use Rattle.protocol.proofs.Keeping.{sound_later, own_sent}
use Rattle.protocol.proofs.Ticks.{update_numbers, update_together, update_back, some_pieces, assumed_state_lem, new_state_lem, old_states, sent_length, sent_anchor}
use Rattle.protocol.proofs.Written.{sent_cut}
use Rattle.protocol_session.specs.History.{Past, opposite, datagrams_in, sending_in, instruction_in, new_in, ack_in, or_else, at, noted_tick}
use Rattle.protocol_session.specs.Runs.{Lent, Among, ticks, ticked_to}
use Rattle.protocol_session.proofs.Shared.{unlent}
use Rattle.protocol_session.proofs.Invariant.{state_of, state, Instructs, Carries, Acks, Joined}
use Rattle.protocol_session.proofs.Reading.{instruction_in_lem, sending_in_lem}
use Rattle.protocol_session.proofs.Still.{Grows, instructs_still, carries_still, half_still, holds_still, quiet_forth, joined_onto, remains_onto, alike}

-- a history with datagrams, a sending's instruction and a number more
abbrev writing : {K : Kind} → Past K → ℕ → List (List ℕ) → ℕ → List ℕ → ℕ → Past K
writing p time ds s bs new = record {
  direction = p.direction;
  current = p.current;
  fixed = λ n. cond (eqb n new) (or_else (p.fixed n) p.current) (p.fixed n);
  sendings = p.sendings + 1;
  written = ds ++ p.written;
  instruction = λ r. cond (eqb r s) bs (p.instruction r);
  acked = p.acked;
  used = max p.used time;
}

-- the history of an end after a tick that sent
module _ (K L : Kind) (h : Holding K L) (p : Past K) (time : ℕ) where
  -- the instruction
  abbrev pub goes : Update
  goes = update K h.end h.sent_store (max h.end.tally.clock time)

  -- its datagrams
  abbrev pub goes_as : List (List ℕ)
  goes_as = datagrams_of p.direction h.end.tally.datagrams (p.sendings + 1) (instruction_bytes goes)

  -- the history then
  abbrev pub sent_past : Past K
  sent_past = writing p time goes_as (p.sendings + 1) (instruction_bytes goes) (new_number K h.end h.sent_store)

  module _ (out : List ℕ) (o : Own h.end) (direction : h.end.direction ≡ p.direction) (counted : h.end.tally.sendings ≡ p.sendings) (s : Sends K L h time out) where
    abbrev now : ℕ
    now = max h.end.tally.clock time

    -- the datagrams that it wrote are those
    pub wrote_as : datagrams_in (sent_count K h.end h.sent_store now) (sent_as K L h now out).buffer ≡ goes_as
    wrote_as =
        sent_cut K L h time out s
        ∙ ap (λ d. datagrams_of d h.end.tally.datagrams (h.end.tally.sendings + 1) (instruction_bytes goes)) direction
        ∙ ap (λ n. datagrams_of p.direction h.end.tally.datagrams (n + 1) (instruction_bytes goes)) counted

    -- so the history is that
    pub wrote_is : noted_tick p time (sent_as K L h now out).answer (sent_as K L h now out).buffer ≡ sent_past
    wrote_is =
        let d : Direction = opposite p.direction in
        let n : ℕ = p.sendings + 1 in
        let bs : List ℕ = instruction_bytes goes in
        let first : ℕ = h.end.tally.datagrams in
        let short : length bs ≤ 2048 = omega (arith, instruction_length goes, s.short) in
        let new : new_in bs ≡ new_number K h.end h.sent_store = ap (λ r. elim r [ Ok v ↦ v.new | Err f ↦ 0 ]) (update_back K h.end h.sent_store o now) in
        ap (λ z. writing p time z (sending_in d z) (instruction_in d z) (new_in (instruction_in d z))) wrote_as
        ∙ ap (λ m. writing p time goes_as m (instruction_in d goes_as) (new_in (instruction_in d goes_as))) (sending_in_lem p.direction first n bs short (some_pieces K h.end h.sent_store o now))
        ∙ ap (λ z. writing p time goes_as n z (new_in z)) (instruction_in_lem p.direction first n bs short)
        ∙ ap (λ m. writing p time goes_as n bs m) new

-- where one of the stores that are handed isn't 16 long, a tick refuses
module _ (K L : Kind) (x : Holding K L) (l : Lent) (time : ℕ) (out : List ℕ) (P : Holding K L → AfterTick K → Type 0) where
  abbrev lends : Bool → Bool → Holding K L
  lends a b = record { end = x.end; sent_store = cond a x.sent_store (replicate l.sent K.start); received_store = cond b x.received_store (replicate l.received L.start) }

  abbrev leaves : Bool → AfterTick K → Holding K L
  leaves a r = record { end = r.end; sent_store = cond a r.sent_store x.sent_store; received_store = x.received_store }

  -- what holds of a tick with the end's own stores, and of one that leaves all as it was, holds of a tick with any
  whatever_lent :
      P (record { end = (ticked K L x time out).end; sent_store = (ticked K L x time out).sent_store; received_store = x.received_store }) (ticked K L x time out) →
      ((f : TickRefusal) (r : AfterTick K) → r.answer ≡ Err f → P x r) → P (ticked_to K L x l (ticks K L x l time out)) (ticks K L x l time out)
  whatever_lent whole away = by (eqb l.sent 16) (eqb l.received 16) refl refl
    where
      by : (a b : Bool) → eqb l.sent 16 ≡ a → eqb l.received 16 ≡ b → P (leaves a (ticked K L (lends a b) time out)) (ticked K L (lends a b) time out)
      by true true e f = whole
      by true false e f =
          let never : Called K L (lends true false) time → ⊥ = λ k. unlent L l.received f (and_parts (eqb (length x.sent_store) 16) (eqb (length (replicate l.received L.start)) 16) k.lent).1 in
          tick_ways K L (lends true false) time out (λ r. P (leaves true r) r) (λ g. away g _ refl) (λ k _. absurd (never k)) (λ m. absurd (never m.called))
      by false b e f =
          let never : Called K L (lends false b) time → ⊥ = λ k. unlent K l.sent e (and_parts (eqb (length (replicate l.sent K.start)) 16) (eqb (length (lends false b).received_store) 16) k.lent).0 in
          tick_ways K L (lends false b) time out (λ r. P (leaves false r) r) (λ g. away g _ refl) (λ k _. absurd (never k)) (λ m. absurd (never m.called))

-- what is among two lists' datagrams is among the one's or the other's
among_parts : (K L : Kind) (d : List ℕ) (xs ys : List (List ℕ)) → Among K L d (xs ++ ys) → Among K L d xs ⊎ Among K L d ys
among_parts K L d [] ys m = inr m
among_parts K L d (x ∷ xs) ys (inl e) = inl (inl e)
among_parts K L d (x ∷ xs) ys (inr m) = ⊎_elim (λ a. inl (inr a)) (λ b. inr b) (among_parts K L d xs ys m)

-- what is among listed ones is one of them
among_counted : (K L : Kind) (d : List ℕ) (f : ℕ → List ℕ) (a n : ℕ) → Among K L d (map f (range_with_len a n)) → (k : ℕ) × ((k < a + n) × (d ≡ f k))
among_counted K L d f a zero m = absurd m
among_counted K L d f a (suc n) (inl e) = (a, (omega arith, e))
among_counted K L d f a (suc n) (inr m) = let r = among_counted K L d f (a + 1) n m in (r.0, (omega (arith, r.1.0), r.1.1))

among_sending : (K L : Kind) (d : List ℕ) (w : Direction) (first s : ℕ) (bs : List ℕ) → Among K L d (datagrams_of w first s bs) → (k : ℕ) × ((k < piece_count bs) × (d ≡ datagram_bytes (parcel w first s bs k)))
unfolding datagrams_of
among_sending K L d w first s bs m = let r = among_counted K L d (λ k. datagram_bytes (parcel w first s bs k)) 0 (piece_count bs) m in (r.0, (omega (arith, r.1.0), r.1.1))

held_one : {X : Type 0} (a b : X) → Some a ≡ Some b → a ≡ b
held_one a b e = cc

module _ (K L : Kind) (x : Holding K L) (p : Past K) (y : Holding L K) (q : Past L) (time : ℕ) (out : List ℕ) (forth : Joined K L x p y q) where
  abbrev at_time : ℕ
  at_time = max x.end.tally.clock time

  -- the history and the end after a tick; a refusal leaves the history
  abbrev past : AfterTick K → Past K
  past r = noted_tick p time r.answer r.buffer

  refused_past : (f : TickRefusal) (r : AfterTick K) → r.answer ≡ Err f → past r ≡ p
  refused_past f r e = ap (λ a. noted_tick p time a r.buffer) e

  abbrev new_end : AfterTick K → Holding K L
  new_end r = record { end = r.end; sent_store = r.sent_store; received_store = x.received_store }

  -- the end before, its store and its instruction; and the end, the history and the last number after a sending
  abbrev e : End K
  e = x.end

  abbrev ks : List K.Contents
  ks = x.sent_store

  abbrev v : Update
  v = goes K L x p time

  abbrev e' : End K
  e' = sent_end K e ks at_time

  abbrev p' : Past K
  p' = sent_past K L x p time

  abbrev new : ℕ
  new = new_number K e ks

  past_is : (m : Sends K L x time out) → past (sent_as K L x at_time out) ≡ p'
  past_is m = wrote_is K L x p time out forth.own forth.direction forth.counted m

  -- the instructions so far, and the new one
  old_instruction : (s : ℕ) → s ≤ p.sendings → p'.instruction s ≡ p.instruction s
  old_instruction s le = cond-false (eqb s (p.sendings + 1)) _ _ (ne_eqb s (p.sendings + 1) (λ z. omega arith))

  new_instruction : (s : ℕ) → s ≡ p.sendings + 1 → p'.instruction s ≡ instruction_bytes v
  new_instruction s is = cond-true (eqb s (p.sendings + 1)) _ _ (eq-eqb s (p.sendings + 1) is)

  -- the direction toward the end that ticks
  module _ (back : Joined L K y q x p) where
    -- the acks sent so far and the new one, which is the newest
    sent_acks : (s : ℕ) → 1 ≤ s → s ≤ p.sendings + 1 → Acks e'.incoming p' s
    sent_acks s a b =
        ⊎_elim
        (λ (c : s < p.sendings + 1).
        let k = back.acks s a (omega arith) in
        let same = old_instruction s (omega arith) in
        record {
          old = subst (λ bs. ack_in bs ≤ e.incoming.newest) (sym same) k.old;
          kept = subst (λ bs. e.incoming.numbers.anchor ≤ ack_in bs → e.incoming.numbers.held (ack_in bs) ≡ true) (sym same) k.kept;
        })
        (λ (c : p.sendings + 1 ≤ s).
        let ack : ack_in (p'.instruction s) ≡ e.incoming.newest = ap ack_in (new_instruction s (omega arith)) ∙ ap (λ r. elim r [ Ok w ↦ w.ack | Err f ↦ 0 ]) (update_back K e ks forth.own at_time) in
        record {
          old = omega (arith, ack);
          kept = λ _. subst (λ n. e.incoming.numbers.held n ≡ true) (sym ack) forth.own.newest_held;
        })
        (cases_lt s (p.sendings + 1))

    own_back : Joined L K y q (new_end (ticked K L x time out)) (past (ticked K L x time out))
    own_back =
        tick_ways K L x time out (λ r. Joined L K y q (new_end r) (past r))
        (λ f. back)
        (λ _ _. remains_onto back (new_end (idle_at K L x at_time out)) (at p time) (alike back _ refl refl refl refl back.half) refl refl)
        (λ m. subst (Joined L K y q (new_end (sent_as K L x at_time out))) (sym (past_is m)) (joined_onto back (new_end (sent_as K L x at_time out)) p' (alike back _ refl refl refl refl back.half) sent_acks))

    -- a tick keeps it
    pub tick_back : (l : Lent) → Joined L K y q (ticked_to K L x l (ticks K L x l time out)) (noted_tick p time (ticks K L x l time out).answer (ticks K L x l time out).buffer)
    tick_back l = whatever_lent K L x l time out (λ h r. Joined L K y q h (past r)) own_back (λ f r g. subst (Joined L K y q x) (sym (refused_past f r g)) back)

  in_time : Called K L x time → at_time ≤ latest
  in_time k = omega (arith, k.in_time, forth.own.clock_latest)

  -- a tick that is idle
  idle_forth : Called K L x time → Joined K L (new_end (idle_at K L x at_time out)) (at p time) y q
  idle_forth k =
      quiet_forth forth (idled K e at_time) x.received_store p.current p.acked (max p.used time)
      (record { direction = refl; sendings = refl; top = refl; acknowledged = omega arith; states = λ _ n le. refl })
      (sound_later forth.own at_time (omega arith) (in_time k) e.incoming.half) forth.current forth.acked (ap (λ c. max c time) forth.used) forth.ahead forth.confirmed

  -- a tick that sends
  module _ (itself : Itself K) (m : Sends K L x time out) where
    numbers : (e.outgoing.numbers.anchor ≤ assumed e.outgoing at_time) × ((assumed e.outgoing at_time ≤ e.outgoing.top) × ((e.outgoing.top ≤ new) × ((new ≤ e.outgoing.top + 1) × (new ≤ e.outgoing.numbers.anchor + 15))))
    numbers = update_numbers K e ks forth.own at_time

    -- what was fixed stays so
    old_fixed : (n : ℕ) → n ≤ e.outgoing.top → p'.fixed n ≡ Some (state p n)
    old_fixed n le =
        cond_both (eqb n new) (or_else (p.fixed n) p.current) (p.fixed n) (λ z. z ≡ Some (state p n))
        (λ _. ap (λ z. or_else z p.current) (forth.fixed n le))
        (λ _. forth.fixed n le)

    old_state : (n : ℕ) → n ≤ e.outgoing.top → state p' n ≡ state p n
    old_state n le = ap (state_of K) (old_fixed n le)

    -- and a number more is fixed as the current state
    new_fixed : (n : ℕ) → e.outgoing.top < n → n ≡ new → p'.fixed n ≡ Some p.current
    new_fixed n lt is = cond-true (eqb n new) _ _ (eq-eqb n new is) ∙ ap (λ z. or_else z p.current) (forth.unfixed n lt)

    new_fixed_state : (n : ℕ) → e.outgoing.top < n → n ≡ new → state p' n ≡ p.current
    new_fixed_state n lt is = ap (state_of K) (new_fixed n lt is)

    -- a number up to the new one is up to the last, or the new one
    either : (n : ℕ) → n ≤ new → (n ≤ e.outgoing.top) ⊎ ((e.outgoing.top < n) × (n ≡ new))
    either n le = ⊎_elim (λ (a : e.outgoing.top < n). inr (a, omega (arith, numbers.1.1.1.0))) (λ (a : n ≤ e.outgoing.top). inl a) (cases_lt e.outgoing.top n)

    new_is_current : e.outgoing.top < new → new_state K e ks ≡ p.current
    new_is_current lt =
        ⊎_elim
        (λ f. cond-true (fixes K e ks) e.current (top_state K e.outgoing ks) f ∙ forth.current)
        (λ f. let z : new ≡ e.outgoing.top = cond-false (fixes K e ks) (e.outgoing.top + 1) e.outgoing.top f in absurd (omega (arith, z)))
        (cases_Bool (fixes K e ks))

    anchor_is : e'.outgoing.numbers.anchor ≡ e.outgoing.numbers.anchor
    anchor_is = sent_anchor e.outgoing (fixes K e ks) at_time

    stored' : (n : ℕ) → e.outgoing.numbers.anchor ≤ n → n ≤ new → lookup e'.outgoing.numbers (sent_states K e ks) n ≡ Some (state p' n)
    stored' n a b =
        ⊎_elim
        (λ (le : n ≤ e.outgoing.top). old_states K e ks forth.own at_time n le ∙ forth.stored n a le ∙ ap (λ c. Some c) (sym (old_state n le)))
        (λ (c : (e.outgoing.top < n) × (n ≡ new)).
        subst (λ k. lookup e'.outgoing.numbers (sent_states K e ks) k ≡ Some (state p' n)) (sym c.1)
        (new_state_lem K e ks forth.own forth.sent_length at_time ∙ ap (λ z. Some z) (new_is_current (omega (arith, c.0, c.1)) ∙ sym (new_fixed_state n c.0 c.1))))
        (either n b)

    grows : Grows e.outgoing p e'.outgoing p'
    grows = record {
      direction = refl;
      sendings = omega arith;
      top = numbers.1.1.0;
      anchor = omega (arith, anchor_is);
      instruction = old_instruction;
      states = old_state;
    }

    instructs : (s : ℕ) → s ≡ p.sendings + 1 → Instructs e'.outgoing p' s v
    instructs s is = record {
      bytes = new_instruction s is;
      in_order = update_together K e ks forth.own at_time;
      reached = omega arith;
      needless = omega (arith, anchor_is);
      steps = ap (λ c. K.diff c (new_state K e ks)) from_state ∙ ap (K.diff (state p' (assumed e.outgoing at_time))) to_state;
      short = m.short;
    }
      where
        from_state : assumed_state K e ks at_time ≡ state p' (assumed e.outgoing at_time)
        from_state = held_one _ _ (sym (assumed_state_lem K e ks forth.own forth.sent_length at_time) ∙ forth.stored (assumed e.outgoing at_time) numbers.0 numbers.1.0) ∙ sym (old_state (assumed e.outgoing at_time) numbers.1.0)

        to_state : new_state K e ks ≡ state p' new
        to_state = held_one _ _ (sym (new_state_lem K e ks forth.own forth.sent_length at_time) ∙ stored' new (omega (arith, numbers.0, numbers.1.0, numbers.1.1.0)) (omega arith))

    carries : (d : List ℕ) → Among K L d p'.written → Carries p' d
    carries d a =
        ⊎_elim
        (λ (b : Among K L d (goes_as K L x p time)).
        let r = among_sending K L d p.direction e.tally.datagrams (p.sendings + 1) (instruction_bytes v) b in
        let is : p'.instruction (p.sendings + 1) ≡ instruction_bytes v = new_instruction (p.sendings + 1) refl in
        record {
          sending = p.sendings + 1;
          piece = r.0;
          from = e.tally.datagrams;
          some = omega arith;
          past = omega arith;
          one_of = subst (λ bs. r.0 < piece_count bs) (sym is) r.1.0;
          is = r.1.1 ∙ ap (λ bs. datagram_bytes (parcel p.direction e.tally.datagrams (p.sendings + 1) bs r.0)) (sym is);
        })
        (λ (b : Among K L d p.written). carries_still grows d (forth.air d b))
        (among_parts K L d (goes_as K L x p time) p.written a)

    ahead' : (i : ℕ) → i ≤ new → K.follows (state p' i) p.current ≡ true
    ahead' i le =
        ⊎_elim
        (λ (c : i ≤ e.outgoing.top). subst (λ z. K.follows z p.current ≡ true) (sym (old_state i c)) (forth.ahead i c))
        (λ (c : (e.outgoing.top < i) × (i ≡ new)). subst (λ z. K.follows z p.current ≡ true) (sym (new_fixed_state i c.0 c.1)) (itself p.current))
        (either i le)

    sent_forth : Joined K L (new_end (sent_as K L x at_time out)) p' y q
    sent_forth = record {
      own = own_sent K e ks at_time forth.own (omega arith) (in_time m.called) m.short m.left;
      sent_length = sent_length K e ks ∙ forth.sent_length;
      received_length = forth.received_length;
      direction = forth.direction;
      current = forth.current;
      counted = ap (λ n. n + 1) forth.counted;
      acked = anchor_is ∙ forth.acked;
      used = ap (λ c. max c time) forth.used;
      directions = forth.directions;
      fixed = λ n le. ⊎_elim (λ (a : n ≤ e.outgoing.top). old_fixed n a ∙ ap (λ c. Some c) (sym (old_state n a))) (λ (a : (e.outgoing.top < n) × (n ≡ new)). new_fixed n a.0 a.1 ∙ ap (λ c. Some c) (sym (new_fixed_state n a.0 a.1))) (either n le);
      unfixed = λ n lt. cond-false (eqb n new) _ _ (ne_eqb n new (λ z. omega arith)) ∙ forth.unfixed n (omega (arith, numbers.1.1.0));
      onward = λ i k a b.
          ⊎_elim
          (λ (c : k ≤ e.outgoing.top). subst (λ z. K.follows z (state p' k) ≡ true) (sym (old_state i (omega arith))) (subst (λ z. K.follows (state p i) z ≡ true) (sym (old_state k c)) (forth.onward i k a c)))
          (λ (c : (e.outgoing.top < k) × (k ≡ new)). subst (λ z. K.follows (state p' i) z ≡ true) (sym (new_fixed_state k c.0 c.1)) (ahead' i (omega (arith, c.1))))
          (either k b);
      ahead = ahead';
      stored = λ n a b. stored' n (omega (arith, anchor_is)) b;
      sendings = λ s a b.
          ⊎_elim
          (λ (c : s < p.sendings + 1). let i = forth.sendings s a (omega arith) in (i.0, instructs_still grows s i.0 (omega arith) i.1))
          (λ (c : p.sendings + 1 ≤ s). (v, instructs s (omega arith)))
          (cases_lt s (p.sendings + 1));
      air = carries;
      half = half_still grows y.end.incoming.half forth.half;
      holds = λ n c. holds_still grows y.end.incoming y.received_store n (forth.holds n c);
      dropped = omega (arith, anchor_is, forth.dropped);
      acks = forth.acks;
      confirmed = subst (λ n. y.end.incoming.numbers.held n ≡ true) (sym anchor_is) forth.confirmed;
    }

  own_forth : Itself K → Joined K L (new_end (ticked K L x time out)) (past (ticked K L x time out)) y q
  own_forth itself =
      tick_ways K L x time out (λ r. Joined K L (new_end r) (past r) y q)
      (λ f. forth)
      (λ k _. idle_forth k)
      (λ m. subst (λ z. Joined K L (new_end (sent_as K L x at_time out)) z y q) (sym (past_is m)) (sent_forth itself m))

  -- a tick keeps the direction from the end that ticks
  pub tick_forth : Itself K → (l : Lent) → Joined K L (ticked_to K L x l (ticks K L x l time out)) (noted_tick p time (ticks K L x l time out).answer (ticks K L x l time out).buffer) y q
  tick_forth itself l = whatever_lent K L x l time out (λ h r. Joined K L h (past r) y q) (own_forth itself) (λ f r g. subst (λ z. Joined K L x z y q) (sym (refused_past f r g)) forth)
