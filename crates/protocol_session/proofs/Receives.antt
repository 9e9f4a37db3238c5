-- A take keeps what holds between two ends, where the end that takes receives.
use Rattle.std.proofs.Common.{◌≡◌, ℕ, ◌≤◌, max, Bool, true, false, cond, eqb, leb, ◌⊎◌, List, length, replicate, Ok, Err, sym, refl, ◌∙◌, subst, ⊎_elim, arith, Some}
use Rattle.std.proofs.lemmas.Bool.{cases_eq, and_parts, and_from, le-leb, both_ways}
use Rattle.state.specs.Kind.{Kind, Reaches}
use Rattle.window.specs.Numbers.{lookup}
use Rattle.window.proofs.Laws.{length_stored}
use Rattle.packet.specs.Instructions.{Update}
use Rattle.packet.specs.Datagrams.{Parcel}
use Rattle.protocol.specs.declared.fault.TakeFault.{TakeFault}
use Rattle.protocol.specs.End.{Holding}
use Rattle.protocol.specs.Taking as take
use Rattle.protocol.specs.Taking.{AfterTake, kept, landed, taken}
use Rattle.protocol.specs.Own.{Own}
use Rattle.protocol.proofs.Ways.{Called, Reads, take_ways}
use Rattle.protocol.proofs.Keeping.{in_order}
use Rattle.protocol.proofs.Takes.{take_refused, landed_anchor, landed_held}
use Rattle.protocol.proofs.Honest.{Honest, HeldTrue, land_true}
use Rattle.protocol.proofs.Halves.{HalfOf, reads_update, half_taken}
use Rattle.protocol_session.specs.History.{Past, fragment_in, noted_take}
use Rattle.protocol_session.specs.Runs.{Lent, handed, lent_to, takes, taken_to, Among}
use Rattle.protocol_session.proofs.Shared.{among_turned, take_remains, unlent}
use Rattle.protocol_session.proofs.Invariant.{state, Instructs, Carries, Holds, Joined}
use Rattle.protocol_session.proofs.Reading.{told, told_length, carried_read, carried_refused}
use Rattle.protocol_session.proofs.Still.{Onto, remains_onto, alike}

-- y takes: `lent` is the store of sent states that it is lent, and `own` the one that it has again
module _ (K L : Kind) (reaches : Reaches K) (x : Holding K L) (p : Past K) (y : Holding L K) (q : Past L) (j : Joined K L x p y q) (o : Own y.end) (lent own : List L.Contents) where
  abbrev h : Holding L K
  h = record { end = y.end; sent_store = lent; received_store = y.received_store }

  -- what a take leaves
  abbrev left : AfterTake L K → Holding L K
  left r = record { end = r.end; sent_store = own; received_store = r.received_store }

  -- a sending of x is between fixed states
  honest : (s : ℕ) (u : Update) → Instructs x.end.outgoing p s u → Honest K (state p) u
  honest s u i = record { follows = j.onward u.old u.new (in_order u i.in_order).1.0 i.reached; diff = i.steps; short = i.short }

  held_true : HeldTrue L K h (state p)
  held_true n e = (j.holds n e).shows

  -- a state of x's that lands
  module _ (s now : ℕ) (u : Update) (i : Instructs x.end.outgoing p s u) (base c : K.Contents) (new : y.end.incoming.numbers.held u.new ≡ false) (found : lookup y.end.incoming.numbers y.received_store u.old ≡ Some base) (leads : K.apply base u.diff ≡ Ok c) where
    -- the end with it
    abbrev with_new : Holding L K
    with_new = left (landed L K y.end y.received_store now u c)

    -- where its received window begins
    abbrev from : ℕ
    from = max y.end.incoming.numbers.anchor u.throwaway

    anchor_is : with_new.end.incoming.numbers.anchor ≡ from
    anchor_is = landed_anchor y.end.incoming u

    land_holds : (n : ℕ) → with_new.end.incoming.numbers.held n ≡ true → Holds x.end.outgoing p with_new.end.incoming with_new.received_store n
    land_holds n e = record {
      fixed = ⊎_elim
          (λ (is : n ≡ u.new). subst (λ m. m ≤ x.end.outgoing.top) (sym is) i.reached)
          (λ (ne : n ≡ u.new → ⊥). (j.holds n (and_parts (leb from n) (y.end.incoming.numbers.held n) (sym (landed_held y.end.incoming u n ne) ∙ e)).1).fixed)
          (cases_eq n u.new);
      shows = land_true L K reaches (state p) h o j.received_length held_true now u i.in_order base c (honest s u i) new found leads n e;
    }

    land_stays : (n : ℕ) → with_new.end.incoming.numbers.anchor ≤ n → y.end.incoming.numbers.held n ≡ true → with_new.end.incoming.numbers.held n ≡ true
    land_stays n le e =
        landed_held y.end.incoming u n (λ is. both_ways (y.end.incoming.numbers.held u.new) new (subst (λ m. y.end.incoming.numbers.held m ≡ true) is e))
        ∙ and_from (leb from n) (y.end.incoming.numbers.held n) (le-leb from n (omega (arith, anchor_is))) e

    land_onto : Onto x p y with_new
    land_onto = record {
      stored = length_stored (kept y.end.incoming u.throwaway) y.received_store u.new c ∙ j.received_length;
      direction = refl;
      half = tt;
      holds = land_holds;
      dropped = omega (arith, anchor_is, j.dropped, i.needless);
      newest = omega arith;
      higher = omega (arith, anchor_is);
      stays = land_stays;
    }

  -- a datagram of x's
  take_onto : (time : ℕ) (bytes : List ℕ) → Carries p bytes → Onto x p y (left (taken L K h time bytes))
  take_onto time bytes c =
      take_ways L K h time bytes (λ r. HalfOf p.sendings p.instruction r.end.incoming.half → Onto x p y (left r))
      (λ f. alike j _ refl refl refl refl)
      (λ g half k e. alike j _ refl refl refl refl)
      (λ g bs u r w. alike j _ refl refl refl refl)
      (λ g bs u r n m. alike j _ refl refl refl refl)
      (λ g bs u base d r n l a _. land_onto c.sending (max y.end.tally.clock time) u (reads_told g bs u r) base d n l a)
      (half_taken L K h p.sendings p.instruction j.half time bytes p.direction c.from c.sending c.piece c.past (told_length j c).0 (told_length j c).1 c.one_of (carried_read j c))
    where
      -- an instruction that it makes whole is its sending's
      reads_told : (g : Parcel) (bs : List ℕ) (u : Update) → Reads L K h time bytes g bs u → Instructs x.end.outgoing p c.sending u
      reads_told g bs u r =
          let i = told j c in
          subst (Instructs x.end.outgoing p c.sending) (sym (reads_update L K h p.sendings p.instruction j.half time bytes p.direction c.from c.sending c.piece c.past (told_length j c).0 (told_length j c).1 c.one_of (carried_read j c) i.0 i.1.in_order i.1.bytes g bs u r)) i.1

module _ (K L : Kind) (reaches : Reaches K) (x : Holding K L) (p : Past K) (y : Holding L K) (q : Past L) (forth : Joined K L x p y q) (back : Joined L K y q x p) (l : Lent) (time : ℕ) (bytes : List ℕ) where
  -- what a take's answer makes of the history
  abbrev after : AfterTake L K → Past L
  after r = noted_take q time (p.instruction (fragment_in q.direction bytes).sending) r.answer

  -- what y is lent, and what is its own again, by whether it was handed its own store of received states
  abbrev lends : Bool → Holding L K
  lends b = record { end = y.end; sent_store = handed L l.sent y.sent_store; received_store = cond b y.received_store (replicate l.received K.start) }

  abbrev leaves : Bool → AfterTake L K → Holding L K
  leaves b r = record { end = r.end; sent_store = y.sent_store; received_store = cond b r.received_store y.received_store }

  -- what is to hold after it
  abbrev Goal : Bool → AfterTake L K → Type 0
  Goal b r = Joined K L x p (leaves b r) (after r)

  -- a refusal alters nothing, whatever was lent
  refusal : (b : Bool) (f : TakeFault) → Goal b (take.refuses L K y.end (lends b).received_store f)
  refusal true f = forth
  refusal false f = forth

  -- a datagram of x's
  theirs : Carries p bytes → (b : Bool) → eqb l.received 16 ≡ b → Goal b (taken L K (lends b) time bytes)
  theirs c true e =
      let r : AfterTake L K = taken L K (lends true) time bytes in
      let k = take_remains q time (p.instruction (fragment_in q.direction bytes).sending) r.answer in
      remains_onto forth (leaves true r) (after r) (take_onto K L reaches x p y q forth back.own (handed L l.sent y.sent_store) y.sent_store time bytes c) k.sendings k.instruction
  theirs c false e =
      take_ways L K (lends false) time bytes (Goal false)
      (refusal false)
      (λ g half k w. never k.called)
      (λ g bs u k w. never k.carries.called)
      (λ g bs u k n m. never k.carries.called)
      (λ g bs u base d k n m a. never k.carries.called)
    where
      never : {Z : Type 0} → Called L K (lends false) time → Z
      never k = absurd (unlent K l.received e (and_parts (eqb (length (lends false).sent_store) 16) (eqb (length (lends false).received_store) 16) k.lent).1)

  -- a take keeps the direction in which its end receives
  pub take_received :
      Among L K bytes q.written ⊎ (Among L K bytes p.written ⊎ ((f : TakeFault) × ((takes L K y l time bytes).answer ≡ Err f))) →
      Joined K L x p (taken_to L K y l (takes L K y l time bytes)) (after (takes L K y l time bytes))
  take_received =
      let b : Bool = eqb l.received 16 in
      ⊎_elim
      (λ m. let r = carried_refused back (back.air bytes m) l time in subst (Goal b) (sym r.1) (refusal b r.0))
      (⊎_elim
      (λ m. theirs (forth.air bytes (among_turned L K bytes p.written m)) b refl)
      (λ f. subst (Goal b) (sym (take_refused L K (lent_to L K y l) time bytes f.0 f.1)) (refusal b f.0)))
