-- A tick: what holds between the two ends holds after it.
use Rattle.std.proofs.Common.{◌≡◌, ℕ, zero, suc, ◌+◌, ◌<◌, ◌≤◌, max, Bool, true, false, cond, eqb, ◌⊎◌, List, [], ◌∷◌, ◌++◌, map, length, replicate, Some, Ok, Err, sym, refl, ap, ◌∙◌, subst, inl, inr, ⊎_elim, arith}
use lib.ListN.{length-replicate}
use Rattle.std.specs.List.{range_with_len}
use Rattle.std.proofs.lemmas.Bool.{cases_lt, cases_Bool, cond-true, cond-false, cond_both, and_parts, eq-eqb, ne_eqb, eqb-true, both_ways}
use Rattle.state.specs.Kind.{Kind, Itself}
use Rattle.window.specs.Numbers.{lookup}
use Rattle.packet.specs.declared.datagram.Direction.{Direction}
use Rattle.packet.specs.Pieces.{piece, piece_count}
use Rattle.packet.specs.Instructions.{Update, instruction_bytes}
use Rattle.packet.specs.Datagrams.{datagram_bytes}
use Rattle.packet.specs.Sendings.{parcel, datagrams_of}
use Rattle.packet.proofs.Layouts.{instruction_length}
use Rattle.packet.proofs.Sendings.{datagram_read}
use Rattle.protocol.specs.declared.fault.TickRefusal.{TickRefusal}
use Rattle.endpoint.specs.End.{End, Holding, latest}
use Rattle.endpoint.specs.Ticking as tick
use Rattle.endpoint.specs.Ticking.{AfterTick, fixes, new_number, new_state, top_state, assumed, assumed_state, update, idled, sent_end, sent_states, sent_count, ticked}
use Rattle.endpoint.specs.Own.{Own}
use Rattle.endpoint.proofs.Ways.{Called, Sends, idle_at, sent_as, tick_ways}
use Rattle.endpoint.proofs.Keeping.{in_order, own_idled, own_sent}
use Rattle.endpoint.proofs.Ticks.{update_numbers, update_together, update_back, some_pieces, assumed_state_lem, new_state_lem, old_states, sent_length, sent_anchor}
use Rattle.endpoint.proofs.Written.{datagram_at, contents_join, datagrams_first, sent_cut}
use Rattle.session.specs.History.{Past, opposite, datagrams_in, piece_read, piece_in, sending_in, instruction_in, new_in, ack_in, or_else, at, wrote, after_tick}
use Rattle.session.specs.Runs.{World, Lent, tick as ticking, Among, ticks, ticked_to, move}
use Rattle.session.proofs.Shared.{opposite_apart}
use Rattle.session.proofs.Invariant.{state_of, state, Instructs, Carries, Acks, Joined, Inv}
use Rattle.session.proofs.Changes.{Grows, instructs_still, carries_still, gathers_still, holds_still, back_still}

-- a history with datagrams, a sending's instruction and a number more
abbrev pub writing : {K : Kind} → Past K → ℕ → List (List ℕ) → ℕ → List ℕ → ℕ → Past K
writing p time ds s bs new = record {
  current = p.current;
  fixed = λ n. cond (eqb n new) (or_else (p.fixed n) p.current) (p.fixed n);
  written = ds ++ p.written;
  instruction = λ r. cond (eqb r s) bs (p.instruction r);
  acked = p.acked;
  used = max p.used time;
}

module _ (d : Direction) (first s : ℕ) (bs : List ℕ) (short : length bs ≤ 2048) where
  -- each datagram of a sending, as an end at the other side reads it
  piece_back : (k : ℕ) → k < piece_count bs → piece_in (opposite d) (datagram_at d first s bs k) ≡ piece s bs k
  piece_back k lt = ap piece_read (datagram_read d first s bs (opposite d) k (opposite_apart d) short lt)

  pub instruction_in_lem : instruction_in (opposite d) (datagrams_of d first s bs) ≡ bs
  instruction_in_lem = contents_join d first s bs (λ z. (piece_in (opposite d) z).contents) (λ k lt. ap (λ z. z.contents) (piece_back k lt))

  pub sending_in_lem : 1 ≤ piece_count bs → sending_in (opposite d) (datagrams_of d first s bs) ≡ s
  sending_in_lem some = let f = datagrams_first d first s bs some in ap (sending_in (opposite d)) f.1 ∙ ap (λ z. z.sending) (piece_back 0 some)

-- the history of an end after a tick that sent
module _ (K L : Kind) (h : Holding K L) (p : Past K) (time : ℕ) (out : List ℕ) (o : Own K L h.end) (s : Sends K L h time out) where
  abbrev now : ℕ
  now = max h.end.clock time

  abbrev u : Update
  u = update K L h.end h.sent_store now

  abbrev pub sent_past : Past K
  sent_past = writing p time (datagrams_of h.end.direction h.end.datagrams (h.end.sendings + 1) (instruction_bytes u)) (h.end.sendings + 1) (instruction_bytes u) (new_number K L h.end h.sent_store now)

  pub wrote_is : wrote p (opposite h.end.direction) (datagrams_in (sent_count K L h.end h.sent_store now) (sent_as K L h now out).buffer) time ≡ sent_past
  wrote_is =
      let d : Direction = h.end.direction in
      let n : ℕ = h.end.sendings + 1 in
      let bs : List ℕ = instruction_bytes u in
      let ds : List (List ℕ) = datagrams_of d h.end.datagrams n bs in
      let short : length bs ≤ 2048 = omega (arith, instruction_length u, s.short) in
      let whole : instruction_in (opposite d) ds ≡ bs = instruction_in_lem d h.end.datagrams n bs short in
      let new : new_in bs ≡ new_number K L h.end h.sent_store now = ap (λ r. elim r [ Ok v ↦ v.new | Err f ↦ 0 ]) (update_back K L h.end h.sent_store now o) in
      ap (λ z. writing p time z (sending_in (opposite d) z) (instruction_in (opposite d) z) (new_in (instruction_in (opposite d) z))) (sent_cut K L h time out s)
      ∙ ap (λ m. writing p time ds m (instruction_in (opposite d) ds) (new_in (instruction_in (opposite d) ds))) (sending_in_lem d h.end.datagrams n bs short (some_pieces K L h.end h.sent_store now o))
      ∙ ap (λ z. writing p time ds n z (new_in z)) whole
      ∙ ap (λ m. writing p time ds n bs m) new

-- where one of the stores that are handed isn't 16 long, a tick refuses
module _ (K L : Kind) (x : Holding K L) (l : Lent) (time : ℕ) (out : List ℕ) (P : Holding K L → AfterTick K L → Type 0) where
  abbrev lends : Bool → Bool → Holding K L
  lends a b = record { end = x.end; sent_store = cond a x.sent_store (replicate l.sent K.start); received_store = cond b x.received_store (replicate l.received L.start) }

  abbrev leaves : Bool → AfterTick K L → Holding K L
  leaves a r = record { end = r.end; sent_store = cond a r.sent_store x.sent_store; received_store = x.received_store }

  -- what holds of a tick with the end's own stores, and of one that leaves all as it was, holds of a tick with any
  pub whatever_lent :
      P (record { end = (ticked K L x time out).end; sent_store = (ticked K L x time out).sent_store; received_store = x.received_store }) (ticked K L x time out) →
      ((f : TickRefusal) (r : AfterTick K L) → r.answer ≡ Err f → P x r) → P (ticked_to K L x l (ticks K L x l time out)) (ticks K L x l time out)
  whatever_lent whole away = by (eqb l.sent 16) (eqb l.received 16) refl refl
    where
      by : (a b : Bool) → eqb l.sent 16 ≡ a → eqb l.received 16 ≡ b → P (leaves a (ticked K L (lends a b) time out)) (ticked K L (lends a b) time out)
      by true true e f = whole
      by true false e f =
          let never : Called K L (lends true false) time → ⊥ = λ k. let z = eqb-true (length (replicate l.received L.start)) 16 (and_parts (eqb (length x.sent_store) 16) (eqb (length (replicate l.received L.start)) 16) k.lent).1 in both_ways (eqb l.received 16) f (eq-eqb l.received 16 (sym (length-replicate l.received L.start) ∙ z)) in
          tick_ways K L (lends true false) time out (λ r. P (leaves true r) r) (λ g. away g _ refl) (λ k _. absurd (never k)) (λ m. absurd (never m.called))
      by false b e f =
          let never : Called K L (lends false b) time → ⊥ = λ k. let z = eqb-true (length (replicate l.sent K.start)) 16 (and_parts (eqb (length (replicate l.sent K.start)) 16) (eqb (length (lends false b).received_store) 16) k.lent).0 in both_ways (eqb l.sent 16) e (eq-eqb l.sent 16 (sym (length-replicate l.sent K.start) ∙ z)) in
          tick_ways K L (lends false b) time out (λ r. P (leaves false r) r) (λ g. away g _ refl) (λ k _. absurd (never k)) (λ m. absurd (never m.called))

module _ (K L : Kind) (x : Holding K L) (p : Past K) (y : Holding L K) (q : Past L) (time : ℕ) (out : List ℕ) where
  abbrev past : AfterTick K L → Past K
  past r = after_tick p (opposite x.end.direction) time r.answer r.buffer

  refused_past : (f : TickRefusal) (r : AfterTick K L) → r.answer ≡ Err f → past r ≡ p
  refused_past f r e = ap (λ a. after_tick p (opposite x.end.direction) time a r.buffer) e

  abbrev new_end : AfterTick K L → Holding K L
  new_end r = record { end = r.end; sent_store = r.sent_store; received_store = x.received_store }

  back_own : Own K L x.end → Joined L K y q x p → Joined L K y q (new_end (ticked K L x time out)) (past (ticked K L x time out))
  back_own o j =
      tick_ways K L x time out (λ r. Joined L K y q (new_end r) (past r))
      (λ f. back_still j (new_end (tick.refuses K L x out f)) p refl refl refl refl (λ s a b. let k = j.acks s a b in record { old = k.old; kept = k.kept }))
      (λ _ _. back_still j (new_end (idle_at K L x (max x.end.clock time) out)) (at p time) refl refl refl refl (λ s a b. let k = j.acks s a b in record { old = k.old; kept = k.kept }))
      (λ m. back_still j (new_end (sent_as K L x (max x.end.clock time) out)) (past (sent_as K L x (max x.end.clock time) out)) refl refl refl refl (λ s a b. sent_acks m s a b))
    where
      v : Update
      v = update K L x.end x.sent_store (max x.end.clock time)

      sent_acks : (m : Sends K L x time out) (s : ℕ) → 1 ≤ s → s ≤ x.end.sendings + 1 → Acks L K (sent_as K L x (max x.end.clock time) out).end (past (sent_as K L x (max x.end.clock time) out)) s
      sent_acks m s a b =
          subst (λ z. Acks L K (sent_as K L x (max x.end.clock time) out).end z s) (sym (wrote_is K L x p time out o m))
          (⊎_elim
          (λ (c : s < x.end.sendings + 1).
          let k = j.acks s a (omega arith) in
          let same : (sent_past K L x p time out o m).instruction s ≡ p.instruction s = cond-false (eqb s (x.end.sendings + 1)) _ _ (ne_eqb s (x.end.sendings + 1) (λ z. omega arith)) in
          record {
            old = subst (λ bs. ack_in bs ≤ x.end.newest) (sym same) k.old;
            kept = subst (λ bs. x.end.received.anchor ≤ ack_in bs → x.end.received.held (ack_in bs) ≡ true) (sym same) k.kept;
          })
          (λ (c : x.end.sendings + 1 ≤ s).
          let same : (sent_past K L x p time out o m).instruction s ≡ instruction_bytes v = cond-true (eqb s (x.end.sendings + 1)) _ _ (eq-eqb s (x.end.sendings + 1) (omega arith)) in
          let ack : ack_in ((sent_past K L x p time out o m).instruction s) ≡ x.end.newest = ap ack_in same ∙ ap (λ r. elim r [ Ok w ↦ w.ack | Err f ↦ 0 ]) (update_back K L x.end x.sent_store (max x.end.clock time) o) in
          record {
            old = omega (arith, ack);
            kept = λ _. subst (λ n. x.end.received.held n ≡ true) (sym ack) o.newest_held;
          })
          (cases_lt s (x.end.sendings + 1)))

  -- a tick keeps the direction toward the end that ticks
  pub tick_back : (l : Lent) → Own K L x.end → Joined L K y q x p → Joined L K y q (ticked_to K L x l (ticks K L x l time out)) (after_tick p (opposite x.end.direction) time (ticks K L x l time out).answer (ticks K L x l time out).buffer)
  tick_back l o j = whatever_lent K L x l time out (λ h r. Joined L K y q h (past r)) (back_own o j) (λ f r e. subst (Joined L K y q x) (sym (refused_past f r e)) j)

-- what is among two lists' datagrams is among the one's or the other's
among_parts : (K L : Kind) (d : List ℕ) (xs ys : List (List ℕ)) → Among K L d (xs ++ ys) → Among K L d xs ⊎ Among K L d ys
among_parts K L d [] ys m = inr m
among_parts K L d (x ∷ xs) ys (inl e) = inl (inl e)
among_parts K L d (x ∷ xs) ys (inr m) = ⊎_elim (λ a. inl (inr a)) (λ b. inr b) (among_parts K L d xs ys m)

-- what is among listed ones is one of them
among_counted : (K L : Kind) (d : List ℕ) (f : ℕ → List ℕ) (a n : ℕ) → Among K L d (map f (range_with_len a n)) → (k : ℕ) × ((k < a + n) × (d ≡ f k))
among_counted K L d f a zero m = absurd m
among_counted K L d f a (suc n) (inl e) = (a, (omega arith, e))
among_counted K L d f a (suc n) (inr m) = let r = among_counted K L d f (a + 1) n m in (r.0, (omega (arith, r.1.0), r.1.1))

among_sending : (K L : Kind) (d : List ℕ) (w : Direction) (first s : ℕ) (bs : List ℕ) → Among K L d (datagrams_of w first s bs) → (k : ℕ) × ((k < piece_count bs) × (d ≡ datagram_bytes (parcel w first s bs k)))
unfolding datagrams_of
among_sending K L d w first s bs m = let r = among_counted K L d (λ k. datagram_bytes (parcel w first s bs k)) 0 (piece_count bs) m in (r.0, (omega (arith, r.1.0), r.1.1))

held_one : {X : Type 0} (a b : X) → Some a ≡ Some b → a ≡ b
held_one a b e = cc

module _ (K L : Kind) (x : Holding K L) (p : Past K) (y : Holding L K) (q : Past L) (time : ℕ) (out : List ℕ) (itself : Itself K) (j : Joined K L x p y q) where
  abbrev at_time : ℕ
  at_time = max x.end.clock time

  in_time : Called K L x time → at_time ≤ latest
  in_time k = omega (arith, k.in_time, j.own.clock_latest)

  -- a tick that is idle
  idle_forth : Called K L x time → Joined K L (new_end K L x p y q time out (idle_at K L x at_time out)) (at p time) y q
  idle_forth k =
      let g : Grows K L x.end p (idled K L x.end x.sent_store at_time) (at p time) = record {
        direction = refl;
        top = omega arith;
        anchor = omega arith;
        sendings = omega arith;
        instruction = λ s _. refl;
        states = λ n _. refl;
      } in
      record {
        own = own_idled K L x.end x.sent_store at_time j.own (omega arith) (in_time k);
        sent_length = j.sent_length;
        received_length = j.received_length;
        directions = j.directions;
        current = j.current;
        acked = j.acked;
        used = ap (λ c. max c time) j.used;
        fixed = j.fixed;
        unfixed = j.unfixed;
        onward = j.onward;
        ahead = j.ahead;
        stored = j.stored;
        sendings = λ s a b. let i = j.sendings s a b in (i.0, instructs_still g s i.0 b (in_order i.0 i.1.in_order).1.0 i.1);
        air = λ d m. carries_still g d (j.air d m);
        half = λ s c. gathers_still g y.end s (j.half s c);
        holds = λ n c. holds_still g y n (j.holds n c);
        dropped = j.dropped;
        acks = j.acks;
        confirmed = j.confirmed;
      }

  -- a tick that sends
  module _ (m : Sends K L x time out) where
    abbrev e : End K L
    e = x.end

    abbrev ks : List K.Contents
    ks = x.sent_store

    abbrev v : Update
    v = update K L e ks at_time

    abbrev e' : End K L
    e' = sent_end K L e ks at_time

    abbrev p' : Past K
    p' = sent_past K L x p time out j.own m

    abbrev new : ℕ
    new = new_number K L e ks at_time

    numbers : (e.sent.anchor ≤ assumed K L e ks at_time) × ((assumed K L e ks at_time ≤ e.top) × ((e.top ≤ new) × ((new ≤ e.top + 1) × (new ≤ e.sent.anchor + 15))))
    numbers = update_numbers K L e ks at_time j.own

    -- what was fixed stays so
    old_fixed : (n : ℕ) → n ≤ e.top → p'.fixed n ≡ Some (state p n)
    old_fixed n le =
        cond_both (eqb n new) (or_else (p.fixed n) p.current) (p.fixed n) (λ z. z ≡ Some (state p n))
        (λ _. ap (λ z. or_else z p.current) (j.fixed n le))
        (λ _. j.fixed n le)

    old_state : (n : ℕ) → n ≤ e.top → state p' n ≡ state p n
    old_state n le = ap (state_of K) (old_fixed n le)

    -- and a number more is fixed as the current state
    new_fixed : (n : ℕ) → e.top < n → n ≡ new → p'.fixed n ≡ Some p.current
    new_fixed n lt is = cond-true (eqb n new) _ _ (eq-eqb n new is) ∙ ap (λ z. or_else z p.current) (j.unfixed n lt)

    new_fixed_state : (n : ℕ) → e.top < n → n ≡ new → state p' n ≡ e.current
    new_fixed_state n lt is = ap (state_of K) (new_fixed n lt is) ∙ sym j.current

    -- a number up to the new one is up to the last, or the new one
    either : (n : ℕ) → n ≤ new → (n ≤ e.top) ⊎ ((e.top < n) × (n ≡ new))
    either n le = ⊎_elim (λ (a : e.top < n). inr (a, omega (arith, numbers.1.1.1.0))) (λ (a : n ≤ e.top). inl a) (cases_lt e.top n)

    new_is_current : e.top < new → new_state K L e ks at_time ≡ e.current
    new_is_current lt =
        ⊎_elim
        (λ f. cond-true (fixes K L e ks at_time) e.current (top_state K L e ks at_time) f)
        (λ f. let z : new ≡ e.top = cond-false (fixes K L e ks at_time) (e.top + 1) e.top f in absurd (omega (arith, z)))
        (cases_Bool (fixes K L e ks at_time))

    anchor_is : e'.sent.anchor ≡ e.sent.anchor
    anchor_is = sent_anchor K L e ks at_time j.own

    stored' : (n : ℕ) → e.sent.anchor ≤ n → n ≤ new → lookup e'.sent (sent_states K L e ks at_time) n ≡ Some (state p' n)
    stored' n a b =
        ⊎_elim
        (λ (le : n ≤ e.top). old_states K L e ks at_time j.own n le ∙ j.stored n a le ∙ ap (λ c. Some c) (sym (old_state n le)))
        (λ (c : (e.top < n) × (n ≡ new)).
        subst (λ k. lookup e'.sent (sent_states K L e ks at_time) k ≡ Some (state p' n)) (sym c.1)
        (new_state_lem K L e ks at_time j.own j.sent_length ∙ ap (λ z. Some z) (new_is_current (omega (arith, c.0, c.1)) ∙ sym (new_fixed_state n c.0 c.1))))
        (either n b)

    grows : Grows K L e p e' p'
    grows = record {
      direction = refl;
      top = numbers.1.1.0;
      anchor = omega (arith, anchor_is);
      sendings = omega arith;
      instruction = λ s le. cond-false (eqb s (e.sendings + 1)) _ _ (ne_eqb s (e.sendings + 1) (λ z. omega arith));
      states = old_state;
    }

    this_instruction : (s : ℕ) → s ≡ e.sendings + 1 → p'.instruction s ≡ instruction_bytes v
    this_instruction s is = cond-true (eqb s (e.sendings + 1)) _ _ (eq-eqb s (e.sendings + 1) is)

    instructs : (s : ℕ) → s ≡ e.sendings + 1 → Instructs K L e' p' s v
    instructs s is = record {
      bytes = this_instruction s is;
      in_order = update_together K L e ks at_time j.own;
      reached = omega arith;
      needless = omega (arith, anchor_is);
      steps = ap (λ c. K.diff c (new_state K L e ks at_time)) from_state ∙ ap (K.diff (state p' (assumed K L e ks at_time))) to_state;
      short = m.short;
    }
      where
        from_state : assumed_state K L e ks at_time ≡ state p' (assumed K L e ks at_time)
        from_state = held_one _ _ (sym (assumed_state_lem K L e ks at_time j.own j.sent_length) ∙ j.stored (assumed K L e ks at_time) numbers.0 numbers.1.0) ∙ sym (old_state (assumed K L e ks at_time) numbers.1.0)

        to_state : new_state K L e ks at_time ≡ state p' new
        to_state = held_one _ _ (sym (new_state_lem K L e ks at_time j.own j.sent_length) ∙ stored' new (omega (arith, numbers.0, numbers.1.0, numbers.1.1.0)) (omega arith))

    carries : (d : List ℕ) → Among K L d p'.written → Carries K L e' p' d
    carries d a =
        ⊎_elim
        (λ (b : Among K L d (datagrams_of e.direction e.datagrams (e.sendings + 1) (instruction_bytes v))).
        let r = among_sending K L d e.direction e.datagrams (e.sendings + 1) (instruction_bytes v) b in
        let is : p'.instruction (e.sendings + 1) ≡ instruction_bytes v = this_instruction (e.sendings + 1) refl in
        record {
          sending = e.sendings + 1;
          piece = r.0;
          from = e.datagrams;
          some = omega arith;
          past = omega arith;
          one_of = subst (λ bs. r.0 < piece_count bs) (sym is) r.1.0;
          is = r.1.1 ∙ ap (λ bs. datagram_bytes (parcel e.direction e.datagrams (e.sendings + 1) bs r.0)) (sym is);
        })
        (λ (b : Among K L d p.written). carries_still grows d (j.air d b))
        (among_parts K L d (datagrams_of e.direction e.datagrams (e.sendings + 1) (instruction_bytes v)) p.written a)

    sent_forth : Joined K L (new_end K L x p y q time out (sent_as K L x at_time out)) p' y q
    sent_forth = record {
      own = own_sent K L e ks at_time j.own (omega arith) (in_time m.called) m.short m.left;
      sent_length = sent_length K L e ks at_time j.own ∙ j.sent_length;
      received_length = j.received_length;
      directions = j.directions;
      current = j.current;
      acked = anchor_is ∙ j.acked;
      used = ap (λ c. max c time) j.used;
      fixed = λ n le. ⊎_elim (λ (a : n ≤ e.top). old_fixed n a ∙ ap (λ c. Some c) (sym (old_state n a))) (λ (a : (e.top < n) × (n ≡ new)). new_fixed n a.0 a.1 ∙ ap (λ c. Some c) (sym j.current ∙ sym (new_fixed_state n a.0 a.1))) (either n le);
      unfixed = λ n lt. cond-false (eqb n new) _ _ (ne_eqb n new (λ z. omega arith)) ∙ j.unfixed n (omega (arith, numbers.1.1.0));
      onward = λ i k a b.
          ⊎_elim
          (λ (c : k ≤ e.top). let f : K.follows (state p i) (state p k) ≡ true = j.onward i k a c in subst (λ z. K.follows z (state p' k) ≡ true) (sym (old_state i (omega arith))) (subst (λ z. K.follows (state p i) z ≡ true) (sym (old_state k c)) f))
          (λ (c : (e.top < k) × (k ≡ new)). subst (λ z. K.follows (state p' i) z ≡ true) (sym (new_fixed_state k c.0 c.1)) (ahead' i (omega (arith, c.1))))
          (either k b);
      ahead = ahead';
      stored = λ n a b. stored' n (omega (arith, anchor_is)) b;
      sendings = λ s a b.
          ⊎_elim
          (λ (c : s < e.sendings + 1). let i = j.sendings s a (omega arith) in (i.0, instructs_still grows s i.0 (omega arith) (in_order i.0 i.1.in_order).1.0 i.1))
          (λ (c : e.sendings + 1 ≤ s). (v, instructs s (omega arith)))
          (cases_lt s (e.sendings + 1));
      air = carries;
      half = λ s c. gathers_still grows y.end s (j.half s c);
      holds = λ n c. holds_still grows y n (j.holds n c);
      dropped = omega (arith, anchor_is, j.dropped);
      acks = j.acks;
      confirmed = subst (λ n. y.end.received.held n ≡ true) (sym anchor_is) j.confirmed;
    }
      where
        ahead' : (i : ℕ) → i ≤ new → K.follows (state p' i) e.current ≡ true
        ahead' i le =
            ⊎_elim
            (λ (c : i ≤ e.top). subst (λ z. K.follows z e.current ≡ true) (sym (old_state i c)) (j.ahead i c))
            (λ (c : (e.top < i) × (i ≡ new)). subst (λ z. K.follows z e.current ≡ true) (sym (new_fixed_state i c.0 c.1)) (itself e.current))
            (either i le)

  own_forth : Joined K L (new_end K L x p y q time out (ticked K L x time out)) (past K L x p y q time out (ticked K L x time out)) y q
  own_forth =
      tick_ways K L x time out (λ r. Joined K L (new_end K L x p y q time out r) (past K L x p y q time out r) y q)
      (λ f. j)
      (λ k _. idle_forth k)
      (λ m. subst (λ z. Joined K L (new_end K L x p y q time out (sent_as K L x at_time out)) z y q) (sym (wrote_is K L x p time out j.own m)) (sent_forth m))

  -- a tick keeps the direction from the end that ticks
  pub tick_forth : (l : Lent) → Joined K L (ticked_to K L x l (ticks K L x l time out)) (after_tick p (opposite x.end.direction) time (ticks K L x l time out).answer (ticks K L x l time out).buffer) y q
  tick_forth l = whatever_lent K L x l time out (λ h r. Joined K L h (past K L x p y q time out r) y q) own_forth (λ f r e. subst (λ z. Joined K L x z y q) (sym (refused_past K L x p y q time out f r e)) j)

-- a tick keeps both directions
pub tick_inv : (K L : Kind) → Itself K → (w : World K L) (l : Lent) (time : ℕ) (out : List ℕ) → Inv K L w → Inv K L (move K L w (ticking l time out))
tick_inv K L itself w l time out i = record {
  forth = tick_forth K L w.one w.past_one w.two w.past_two time out itself i.forth l;
  back = tick_back K L w.one w.past_one w.two w.past_two time out l i.forth.own i.back;
}
