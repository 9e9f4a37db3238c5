-- What a take leaves alone, and what it keeps under its numbers.
use Rattle.std.proofs.Common.{◌≡◌, ℕ, ◌≤◌, max, true, false, cond, leb, List, length, Ok, Err, Option, sym, refl, ap, ◌∙◌, subst, arith, Some, None}
use Rattle.std.proofs.lemmas.Bool.{cond-true, le-leb, eq-eqb, both_ways}
use Rattle.state.specs.Kind.{Kind}
use Rattle.window.specs.Numbers.{Numbers, put, stored, lookup}
use Rattle.window.proofs.Laws.{put_anchor, raise_width, within_raise, length_stored, lookup_put_same, lookup_put_other, lookup_raise}
use Rattle.packet.specs.Instructions.{Update, together}
use Rattle.packet.specs.Datagrams.{Parcel}
use Rattle.protocol.specs.declared.answer.Taken.{Taken}
use Rattle.protocol.specs.declared.fault.TakeFault.{TakeFault}
use Rattle.endpoint.specs.End.{Holding}
use Rattle.endpoint.specs.Taking as take
use Rattle.endpoint.specs.Taking.{AfterTake, kept, landed, settled, taken}
use Rattle.endpoint.specs.Own.{Own}
use Rattle.endpoint.proofs.Ways.{Reads, take_ways}
use Rattle.endpoint.proofs.Keeping.{found_held, raised, new_free, kept_is}

module _ (K L : Kind) (h : Holding K L) (time : ℕ) (bytes : List ℕ) where
  -- a take that is refused leaves all as it was
  pub take_refused : (f : TakeFault) → (taken K L h time bytes).answer ≡ Err f → taken K L h time bytes ≡ take.refuses K L h 0 f
  take_refused f =
      take_ways K L h time bytes (λ r. r.answer ≡ Err f → r ≡ take.refuses K L h 0 f)
      (λ g e. let s : g ≡ f = cc in ap (take.refuses K L h 0) s)
      (λ g half k w e. absurd (apart _ e))
      (λ g bs u r y e. absurd (apart _ e))
      (λ g bs u r n m e. absurd (apart _ e))
      (λ g bs u base c r n l a e. absurd (apart _ e))
    where
      apart : (t : Taken) → Ok t ≡ Err f → ⊥
      apart t e = let z : ◌≡◌ {A = ℕ} 0 1 = cc in omega arith

-- what a take leaves alone, whatever its answer
pub record TakeLeaves (K L : Kind) (h : Holding K L) (r : AfterTake K L) : Type 0 where
  pub direction : r.end.direction ≡ h.end.direction
  pub current : r.end.current ≡ h.end.current
  pub top : r.end.top ≡ h.end.top
  pub times : r.end.times ≡ h.end.times
  pub last : r.end.last ≡ h.end.last
  pub sendings : r.end.sendings ≡ h.end.sendings
  pub datagrams : r.end.datagrams ≡ h.end.datagrams
  -- the clock, what is acknowledged, the newest and the received window's anchor never fall
  pub clock : h.end.clock ≤ r.end.clock
  pub acknowledged : h.end.sent.anchor ≤ r.end.sent.anchor
  pub newest : h.end.newest ≤ r.end.newest
  pub anchor : h.end.received.anchor ≤ r.end.received.anchor
  -- the store is as long as it was
  pub store_length : length r.received_store ≡ length h.received_store
  -- the states sent are what they were from the acknowledged on
  pub states : (ks : List K.Contents) (n : ℕ) → r.end.sent.anchor ≤ n → lookup r.end.sent ks n ≡ lookup h.end.sent ks n

module _ (K L : Kind) (h : Holding K L) (now : ℕ) where
  -- what is acknowledged after an instruction is the larger of what was and its ack
  pub settled_anchor : (ack : ℕ) (w : Numbers) (newest : ℕ) (pending : Option ℕ) → (settled K L h now ack w newest pending).sent.anchor ≡ max h.end.sent.anchor ack
  settled_anchor ack w newest pending = ap (λ (v : Numbers). v.anchor) (raised K L h now ack)

  -- the states sent are there from it on, and nothing below
  pub settled_states : (ack : ℕ) (w : Numbers) (newest : ℕ) (pending : Option ℕ) (ks : List K.Contents) (n : ℕ) → lookup (settled K L h now ack w newest pending).sent ks n ≡ cond (leb (max h.end.sent.anchor ack) n) (lookup h.end.sent ks n) None
  settled_states ack w newest pending ks n = lookup_raise h.end.sent ks (max h.end.sent.anchor ack) n (le-leb h.end.sent.anchor (max h.end.sent.anchor ack) (omega arith))

  -- an instruction whose new number isn't held and whose old number is
  module _ (o : Own K L h.end) (fit : length h.received_store ≡ 16) (u : Update) (numbers : together u ≡ true) (old : h.end.received.held u.old ≡ true) (new : h.end.received.held u.new ≡ false) (c : L.Contents) where
    -- its new number has the applied contents
    pub landed_new : lookup (landed K L h now u c).end.received (landed K L h now u c).received_store u.new ≡ Some c
    landed_new = lookup_put_same (kept K L h now u) h.received_store u.new c (eq-eqb (length h.received_store) (kept K L h now u).width (fit ∙ sym (raise_width h.end.received (max h.end.received.anchor u.throwaway) ∙ o.received_width))) (new_free K L h now o u numbers old new)

    -- every other has what it had, from the larger of the anchor and throwaway on
    pub landed_other : (m : ℕ) → (m ≡ u.new → ⊥) → lookup (landed K L h now u c).end.received (landed K L h now u c).received_store m ≡ cond (leb (max h.end.received.anchor u.throwaway) m) (lookup h.end.received h.received_store m) None
    landed_other m ne =
        lookup_put_other (kept K L h now u) h.received_store u.new c m (within_raise h.end.received (max h.end.received.anchor u.throwaway) o.received_within) ne
        ∙ lookup_raise h.end.received h.received_store (max h.end.received.anchor u.throwaway) m (le-leb h.end.received.anchor (max h.end.received.anchor u.throwaway) (omega arith))

    pub landed_anchor : (landed K L h now u c).end.received.anchor ≡ max h.end.received.anchor u.throwaway
    landed_anchor = put_anchor (kept K L h now u) u.new ∙ ap (λ (v : Numbers). v.anchor) (kept_is K L h now u)

  settled_leaves :
      (ack : ℕ) (w : Numbers) (newest : ℕ) (pending : Option ℕ) (t : Taken) (ls : List L.Contents) →
      h.end.clock ≤ now → h.end.newest ≤ newest → h.end.received.anchor ≤ w.anchor → length ls ≡ length h.received_store →
      TakeLeaves K L h (record { answer = Ok t; end = settled K L h now ack w newest pending; received_store = ls })
  settled_leaves ack w newest pending t ls on up higher long =
      let a = settled_anchor ack w newest pending in
      record {
        direction = refl;
        current = refl;
        top = refl;
        times = refl;
        last = refl;
        sendings = refl;
        datagrams = refl;
        clock = on;
        acknowledged = omega arith;
        newest = up;
        anchor = higher;
        store_length = long;
        states = λ ks n le. settled_states ack w newest pending ks n ∙ cond-true (leb (max h.end.sent.anchor ack) n) (lookup h.end.sent ks n) None (le-leb (max h.end.sent.anchor ack) n (omega arith));
      }

module _ (K L : Kind) (h : Holding K L) where
  pub take_leaves : (time : ℕ) (bytes : List ℕ) → TakeLeaves K L h (taken K L h time bytes)
  take_leaves time bytes =
      take_ways K L h time bytes (λ r. TakeLeaves K L h r)
      (λ f. record {
        direction = refl;
        current = refl;
        top = refl;
        times = refl;
        last = refl;
        sendings = refl;
        datagrams = refl;
        clock = omega arith;
        acknowledged = omega arith;
        newest = omega arith;
        anchor = omega arith;
        store_length = refl;
        states = λ ks n le. refl;
      })
      (λ g half k e. record {
        direction = refl;
        current = refl;
        top = refl;
        times = refl;
        last = refl;
        sendings = refl;
        datagrams = refl;
        clock = omega arith;
        acknowledged = omega arith;
        newest = omega arith;
        anchor = omega arith;
        store_length = refl;
        states = λ ks n le. refl;
      })
      (λ g bs u r y. settled_leaves K L h (max h.end.clock time) u.ack h.end.received h.end.newest h.end.pending _ h.received_store (omega arith) (omega arith) (omega arith) refl)
      (λ g bs u r n m. settled_leaves K L h (max h.end.clock time) u.ack h.end.received h.end.newest h.end.pending _ h.received_store (omega arith) (omega arith) (omega arith) refl)
      (λ g bs u base c r n l a.
      let k = kept K L h (max h.end.clock time) u in
      let at = put_anchor k u.new ∙ ap (λ (v : Numbers). v.anchor) (kept_is K L h (max h.end.clock time) u) in
      settled_leaves K L h (max h.end.clock time) u.ack (put k u.new) (max h.end.newest u.new) _ _ (stored k h.received_store u.new c) (omega arith) (omega arith) (omega arith) (length_stored k h.received_store u.new c))

  -- what is held stays, with its state, from the received window's anchor on
  pub take_keeps : Own K L h.end → length h.received_store ≡ 16 → (time : ℕ) (bytes : List ℕ) (n : ℕ) → (taken K L h time bytes).end.received.anchor ≤ n → h.end.received.held n ≡ true → lookup (taken K L h time bytes).end.received (taken K L h time bytes).received_store n ≡ lookup h.end.received h.received_store n
  take_keeps o fit time bytes n =
      take_ways K L h time bytes (λ r. r.end.received.anchor ≤ n → h.end.received.held n ≡ true → lookup r.end.received r.received_store n ≡ lookup h.end.received h.received_store n)
      (λ _ _ _. refl)
      (λ g half k e _ _. refl)
      (λ g bs u r y _ _. refl)
      (λ g bs u r x m _ _. refl)
      (λ g bs u base c r x l a low held.
      let old = found_held h.end.received h.received_store u.old base l in
      let is = landed_anchor K L h (max h.end.clock time) o fit u r.numbers old x c in
      landed_other K L h (max h.end.clock time) o fit u r.numbers old x c n (λ e. both_ways (h.end.received.held u.new) x (subst (λ m. h.end.received.held m ≡ true) e held))
      ∙ cond-true (leb (max h.end.received.anchor u.throwaway) n) _ _ (le-leb (max h.end.received.anchor u.throwaway) n (omega arith)))

  -- the received window's anchor rises to no number that no throwaway is above
  pub take_anchor : (time : ℕ) (bytes : List ℕ) (a : ℕ) → h.end.received.anchor ≤ a → ((g : Parcel) (bs : List ℕ) (u : Update) → Reads K L h time bytes g bs u → u.throwaway ≤ a) → (taken K L h time bytes).end.received.anchor ≤ a
  take_anchor time bytes a low each =
      take_ways K L h time bytes (λ r. r.end.received.anchor ≤ a)
      (λ _. low)
      (λ g half k e. low)
      (λ g bs u r y. low)
      (λ g bs u r n m. low)
      (λ g bs u base c r n l q.
      let is = put_anchor (kept K L h (max h.end.clock time) u) u.new ∙ ap (λ (v : Numbers). v.anchor) (kept_is K L h (max h.end.clock time) u) in
      let t = each g bs u r in
      omega arith)

  -- the newest rises to no number that no new one is above
  pub take_newest : (time : ℕ) (bytes : List ℕ) (b : ℕ) → h.end.newest ≤ b → ((g : Parcel) (bs : List ℕ) (u : Update) → Reads K L h time bytes g bs u → u.new ≤ b) → (taken K L h time bytes).end.newest ≤ b
  take_newest time bytes b low each =
      take_ways K L h time bytes (λ r. r.end.newest ≤ b)
      (λ _. low)
      (λ g half k e. low)
      (λ g bs u r y. low)
      (λ g bs u r n m. low)
      (λ g bs u base c r n l q. let t = each g bs u r in omega arith)

  -- what is acknowledged rises to no number that no ack is above
  pub take_acknowledges : (time : ℕ) (bytes : List ℕ) (a : ℕ) → ((g : Parcel) (bs : List ℕ) (u : Update) → Reads K L h time bytes g bs u → u.ack ≤ a) → h.end.sent.anchor ≤ a → (taken K L h time bytes).end.sent.anchor ≤ a
  take_acknowledges time bytes a each low =
      take_ways K L h time bytes (λ r. r.end.sent.anchor ≤ a)
      (λ _. low)
      (λ g half k e. low)
      (λ g bs u r y. let is = settled_anchor K L h (max h.end.clock time) u.ack h.end.received h.end.newest h.end.pending in let t = each g bs u r in omega arith)
      (λ g bs u r n m. let is = settled_anchor K L h (max h.end.clock time) u.ack h.end.received h.end.newest h.end.pending in let t = each g bs u r in omega arith)
      (λ g bs u base c r n l q. let is = settled_anchor K L h (max h.end.clock time) u.ack h.end.received h.end.newest h.end.pending in let t = each g bs u r in omega arith)
