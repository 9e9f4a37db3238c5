-- What a take leaves alone, and what it keeps under its numbers.
use Rattle.std.proofs.Common.{◌≡◌, ℕ, ◌≤◌, max, true, false, cond, ◌&&◌, leb, List, length, Ok, Err, Result, sym, refl, ap, ◌∙◌, subst, arith, Some, None}
use Rattle.std.proofs.lemmas.Bool.{cond-true, le-leb, eq-eqb, both_ways}
use Rattle.state.specs.Kind.{Kind}
use Rattle.window.specs.Numbers.{Numbers, put, raise, stored, lookup}
use Rattle.window.proofs.Laws.{put_anchor, put_other, raise_width, within_raise, length_stored, lookup_put_same, lookup_put_other, lookup_raise}
use Rattle.packet.specs.Instructions.{Update, together}
use Rattle.packet.specs.Datagrams.{Parcel}
use Rattle.assembler.specs.Contents.{Contents}
use Rattle.protocol.specs.declared.answer.Taken.{Taken}
use Rattle.protocol.specs.declared.fault.TakeFault.{TakeFault}
use Rattle.protocol.specs.End.{Outgoing, Incoming, Tally, Holding}
use Rattle.protocol.specs.Taking as take
use Rattle.protocol.specs.Taking.{AfterTake, acknowledging, kept, holding_new, collected, informed, taken}
use Rattle.protocol.specs.Own.{Sound, Own}
use Rattle.protocol.proofs.Ways.{Reads, take_ways}
use Rattle.protocol.proofs.Keeping.{found_held, raised, raised_anchor, new_free}

module _ (K L : Kind) (h : Holding K L) (time : ℕ) (bytes : List ℕ) where
  -- a take that is refused leaves all as it was
  pub take_refused : (f : TakeFault) → (taken K L h time bytes).answer ≡ Err f → taken K L h time bytes ≡ take.refuses K L h.end h.received_store f
  take_refused f =
      take_ways K L h time bytes (λ r. r.answer ≡ Err f → r ≡ take.refuses K L h.end h.received_store f)
      (λ g e. let s : g ≡ f = cc in ap (take.refuses K L h.end h.received_store) s)
      (λ g half k w e. absurd (apart _ e))
      (λ g bs u r y e. absurd (apart _ e))
      (λ g bs u r n m e. absurd (apart _ e))
      (λ g bs u base c r n l a e. absurd (apart _ e))
    where
      apart : (t : Taken) → Ok t ≡ Err f → ⊥
      apart t e = let z : ◌≡◌ {A = ℕ} 0 1 = cc in omega arith

-- what a take leaves alone, whatever its answer
pub record TakeLeaves (K L : Kind) (h : Holding K L) (r : AfterTake K L) : Type 0 where
  pub direction : r.end.direction ≡ h.end.direction
  pub current : r.end.current ≡ h.end.current
  pub top : r.end.outgoing.top ≡ h.end.outgoing.top
  pub times : r.end.outgoing.times ≡ h.end.outgoing.times
  pub last : r.end.tally.last ≡ h.end.tally.last
  pub sendings : r.end.tally.sendings ≡ h.end.tally.sendings
  pub datagrams : r.end.tally.datagrams ≡ h.end.tally.datagrams
  -- the clock, what is acknowledged, the newest and the received window's anchor never fall
  pub clock : h.end.tally.clock ≤ r.end.tally.clock
  pub acknowledged : h.end.outgoing.numbers.anchor ≤ r.end.outgoing.numbers.anchor
  pub newest : h.end.incoming.newest ≤ r.end.incoming.newest
  pub anchor : h.end.incoming.numbers.anchor ≤ r.end.incoming.numbers.anchor
  -- the store is as long as it was
  pub store_length : length r.received_store ≡ length h.received_store
  -- the states sent are what they were from the acknowledged on
  pub states : (ks : List K.Contents) (n : ℕ) → r.end.outgoing.numbers.anchor ≤ n → lookup r.end.outgoing.numbers ks n ≡ lookup h.end.outgoing.numbers ks n

-- what a store has under numbers that are raised: what it had from there on, and nothing below
pub raised_states : {C : Type 0} (w : Numbers) (xs : List C) (n m : ℕ) → lookup (raise w (max w.anchor n)) xs m ≡ cond (leb (max w.anchor n) m) (lookup w xs m) None
raised_states w xs n m = lookup_raise w xs (max w.anchor n) m (le-leb w.anchor (max w.anchor n) (omega arith))

-- an instruction whose new number isn't held and whose old number is, once its state is held as new
module _ {o : Outgoing} {i : Incoming} {t : Tally} (s : Sound o i t) {C : Type 0} (ls : List C) (fit : length ls ≡ 16) (u : Update) (numbers : together u ≡ true) (old : i.numbers.held u.old ≡ true) (new : i.numbers.held u.new ≡ false) (c : C) where
  abbrev keeps : Numbers
  keeps = kept i u.throwaway

  -- its new number has that state
  pub landed_new : lookup (put keeps u.new) (stored keeps ls u.new c) u.new ≡ Some c
  landed_new = lookup_put_same keeps ls u.new c (eq-eqb (length ls) keeps.width (fit ∙ sym (raise_width i.numbers (max i.numbers.anchor u.throwaway) ∙ s.received_width))) (new_free s u numbers old new)

  -- every other has what it had, from the larger of the anchor and throwaway on
  pub landed_other : (m : ℕ) → (m ≡ u.new → ⊥) → lookup (put keeps u.new) (stored keeps ls u.new c) m ≡ cond (leb (max i.numbers.anchor u.throwaway) m) (lookup i.numbers ls m) None
  landed_other m ne = lookup_put_other keeps ls u.new c m (within_raise i.numbers (max i.numbers.anchor u.throwaway) s.received_within) ne ∙ raised_states i.numbers ls u.throwaway m

-- where its numbers begin then, and which of the others are held
pub landed_anchor : (i : Incoming) (u : Update) → (put (kept i u.throwaway) u.new).anchor ≡ max i.numbers.anchor u.throwaway
landed_anchor i u = put_anchor (kept i u.throwaway) u.new ∙ raised_anchor i.numbers u.throwaway

pub landed_held : (i : Incoming) (u : Update) (n : ℕ) → (n ≡ u.new → ⊥) → (put (kept i u.throwaway) u.new).held n ≡ (leb (max i.numbers.anchor u.throwaway) n && i.numbers.held n)
landed_held i u n ne = put_other (kept i u.throwaway) u.new n ne ∙ ap (λ (w : Numbers). w.held n) (raised i.numbers u.throwaway)

module _ (K L : Kind) (h : Holding K L) (now : ℕ) (on : h.end.tally.clock ≤ now) where
  -- a take that reads no instruction
  collected_leaves : (a : Result Taken TakeFault) (half : Contents) → TakeLeaves K L h (record { answer = a; end = collected K L h.end h.received_store now half; received_store = h.received_store })
  collected_leaves a half = record {
    direction = refl;
    current = refl;
    top = refl;
    times = refl;
    last = refl;
    sendings = refl;
    datagrams = refl;
    clock = on;
    acknowledged = omega arith;
    newest = omega arith;
    anchor = omega arith;
    store_length = refl;
    states = λ ks n le. refl;
  }

  -- one that reads an instruction
  informed_leaves :
      (ack : ℕ) (i : Incoming) (t : Taken) (ls : List L.Contents) →
      h.end.incoming.newest ≤ i.newest → h.end.incoming.numbers.anchor ≤ i.numbers.anchor → length ls ≡ length h.received_store →
      TakeLeaves K L h (record { answer = Ok t; end = informed K L h.end h.received_store now ack i; received_store = ls })
  informed_leaves ack i t ls up higher long =
      let from : ℕ = max h.end.outgoing.numbers.anchor ack in
      let a = raised_anchor h.end.outgoing.numbers ack in
      record {
        direction = refl;
        current = refl;
        top = refl;
        times = refl;
        last = refl;
        sendings = refl;
        datagrams = refl;
        clock = on;
        acknowledged = omega arith;
        newest = up;
        anchor = higher;
        store_length = long;
        states = λ ks n le. raised_states h.end.outgoing.numbers ks ack n ∙ cond-true (leb from n) (lookup h.end.outgoing.numbers ks n) None (le-leb from n (omega arith));
      }

module _ (K L : Kind) (h : Holding K L) (time : ℕ) (bytes : List ℕ) where
  abbrev now : ℕ
  now = max h.end.tally.clock time

  pub take_leaves : TakeLeaves K L h (taken K L h time bytes)
  take_leaves =
      take_ways K L h time bytes (λ r. TakeLeaves K L h r)
      (λ f. collected_leaves K L h h.end.tally.clock (omega arith) (Err f) h.end.incoming.half)
      (λ g half k e. collected_leaves K L h now (omega arith) _ half)
      (λ g bs u r y. informed_leaves K L h now (omega arith) u.ack _ _ h.received_store (omega arith) (omega arith) refl)
      (λ g bs u r n m. informed_leaves K L h now (omega arith) u.ack _ _ h.received_store (omega arith) (omega arith) refl)
      (λ g bs u base c r n l a. informed_leaves K L h now (omega arith) u.ack (holding_new h.end.incoming u.throwaway u.new now) _ _ (omega arith) (omega (arith, landed_anchor h.end.incoming u)) (length_stored (kept h.end.incoming u.throwaway) h.received_store u.new c))

  -- what is held stays, with its state, from the received window's anchor on
  pub take_keeps : Own h.end → length h.received_store ≡ 16 → (n : ℕ) → (taken K L h time bytes).end.incoming.numbers.anchor ≤ n → h.end.incoming.numbers.held n ≡ true → lookup (taken K L h time bytes).end.incoming.numbers (taken K L h time bytes).received_store n ≡ lookup h.end.incoming.numbers h.received_store n
  take_keeps o fit n =
      take_ways K L h time bytes (λ r. r.end.incoming.numbers.anchor ≤ n → h.end.incoming.numbers.held n ≡ true → lookup r.end.incoming.numbers r.received_store n ≡ lookup h.end.incoming.numbers h.received_store n)
      (λ _ _ _. refl)
      (λ g half k e _ _. refl)
      (λ g bs u r y _ _. refl)
      (λ g bs u r x m _ _. refl)
      (λ g bs u base c r x l a low held.
      let from : ℕ = max h.end.incoming.numbers.anchor u.throwaway in
      let old = found_held h.end.incoming.numbers h.received_store u.old base l in
      let is = landed_anchor h.end.incoming u in
      landed_other o h.received_store fit u r.numbers old x c n (λ e. both_ways (h.end.incoming.numbers.held u.new) x (subst (λ m. h.end.incoming.numbers.held m ≡ true) e held))
      ∙ cond-true (leb from n) _ _ (le-leb from n (omega arith)))

  -- the received window's anchor rises to no number that no throwaway is above
  pub take_anchor : (a : ℕ) → h.end.incoming.numbers.anchor ≤ a → ((g : Parcel) (bs : List ℕ) (u : Update) → Reads K L h time bytes g bs u → u.throwaway ≤ a) → (taken K L h time bytes).end.incoming.numbers.anchor ≤ a
  take_anchor a low each =
      take_ways K L h time bytes (λ r. r.end.incoming.numbers.anchor ≤ a)
      (λ _. low)
      (λ g half k e. low)
      (λ g bs u r y. low)
      (λ g bs u r n m. low)
      (λ g bs u base c r n l q. omega (arith, landed_anchor h.end.incoming u, each g bs u r))

  -- the newest rises to no number that no new one is above
  pub take_newest : (b : ℕ) → h.end.incoming.newest ≤ b → ((g : Parcel) (bs : List ℕ) (u : Update) → Reads K L h time bytes g bs u → u.new ≤ b) → (taken K L h time bytes).end.incoming.newest ≤ b
  take_newest b low each =
      take_ways K L h time bytes (λ r. r.end.incoming.newest ≤ b)
      (λ _. low)
      (λ g half k e. low)
      (λ g bs u r y. low)
      (λ g bs u r n m. low)
      (λ g bs u base c r n l q. omega (arith, each g bs u r))

  -- what is acknowledged rises to no number that no ack is above
  pub take_acknowledges : (a : ℕ) → ((g : Parcel) (bs : List ℕ) (u : Update) → Reads K L h time bytes g bs u → u.ack ≤ a) → h.end.outgoing.numbers.anchor ≤ a → (taken K L h time bytes).end.outgoing.numbers.anchor ≤ a
  take_acknowledges a each low =
      take_ways K L h time bytes (λ r. r.end.outgoing.numbers.anchor ≤ a)
      (λ _. low)
      (λ g half k e. low)
      (λ g bs u r y. rises u.ack (each g bs u r))
      (λ g bs u r n m. rises u.ack (each g bs u r))
      (λ g bs u base c r n l q. rises u.ack (each g bs u r))
    where
      rises : (ack : ℕ) → ack ≤ a → (acknowledging h.end.outgoing ack).numbers.anchor ≤ a
      rises ack le = omega (arith, raised_anchor h.end.outgoing.numbers ack)
