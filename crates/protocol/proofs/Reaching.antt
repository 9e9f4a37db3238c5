-- What an exchange comes to at each end: a late tick sends from the acknowledged state, and an instruction whose base is held, taken whole, is held and acknowledged.
use Rattle.std.proofs.Common.{◌≡◌, ℕ, ◌+◌, ◌<◌, ◌≤◌, max, true, false, List, length, Ok, sym, refl, ap, subst, ⊎_elim, arith, Some}
use Rattle.std.proofs.lemmas.Bool.{cases_Bool}
use Rattle.state.specs.Kind.{Kind, Itself, Onward, Reaches}
use Rattle.window.specs.Numbers.{lookup}
use Rattle.packet.specs.declared.datagram.Direction.{Direction}
use Rattle.packet.specs.Pieces.{piece_count}
use Rattle.packet.specs.Instructions.{Update, together, instruction_bytes}
use Rattle.packet.specs.Datagrams.{read_datagram}
use Rattle.packet.specs.Sendings.{parcel}
use Rattle.protocol.specs.declared.answer.Taken.{Taken}
use Rattle.protocol.specs.declared.answer.Taken.TheVariants.{Again}
use Rattle.protocol.specs.End.{Holding}
use Rattle.protocol.specs.Taking.{AfterTake, passed, landed, taken}
use Rattle.protocol.specs.Own.{Own}
use Rattle.protocol.specs.Ticking.{assumed, assumed_state, new_state, update}
use Rattle.protocol.specs.Chain.{Chained, sent_state}
use Rattle.protocol.proofs.Ways.{Called, Sends}
use Rattle.protocol.proofs.Outcomes.{due_after_silence, assumed_after_silence}
use Rattle.protocol.proofs.Chains.{assumed_follows}
use Rattle.protocol.proofs.Keeping.{raised_anchor}
use Rattle.protocol.proofs.Takes.{landed_new}
use Rattle.protocol.proofs.Arriving.{Midway, arrives_again, arrives_land}
use Rattle.protocol.proofs.Honest.{Honest, HeldTrue, honest_reaches}

module _ (K L : Kind) (reaches : Reaches L) (fixed : ℕ → L.Contents) (d : Direction) (first s : ℕ) (u : Update) (honest : Honest L fixed u) (numbers : together u ≡ true) (h : Holding K L) (o : Own h.end) (fit : length h.received_store ≡ 16) (t : HeldTrue K L h fixed) (base : h.end.incoming.numbers.held u.old ≡ true) (sent : u.ack ≤ h.end.outgoing.top) where
  module _ (time : ℕ) (bytes : List ℕ) (k : ℕ) (last : k + 1 ≡ piece_count (instruction_bytes u)) (read : read_datagram h.end.direction bytes ≡ Ok (parcel d first s (instruction_bytes u) k)) (h' : Holding K L) (m : Midway K L d first s u honest.short h h' k) (called : Called K L h' time) where
    -- the last datagram of the sending: its new state is held already, or it lands
    pub arrives_honest : (P : AfterTake K L → Type 0) → (h.end.incoming.numbers.held u.new ≡ true → P (passed K L h.end h.received_store (max m.now time) u (Again u.new))) → (h.end.incoming.numbers.held u.new ≡ false → P (landed K L h.end h.received_store (max m.now time) u (fixed u.new))) → P (taken K L h' time bytes)
    arrives_honest P again lands =
        ⊎_elim
        (λ y. subst P (sym (arrives_again K L d first s u honest.short h time bytes k (omega arith) read h' m called last numbers sent y)) (again y))
        (λ n. subst P (sym (arrives_land K L d first s u honest.short h time bytes k (omega arith) read h' m called last numbers sent (fixed u.old) (fixed u.new) n (t u.old base) (honest_reaches L fixed u reaches honest))) (lands n))
        (cases_Bool (h.end.incoming.numbers.held u.new))

    -- it isn't refused
    pub arrives_answered : (a : Taken) × ((taken K L h' time bytes).answer ≡ Ok a)
    arrives_answered = arrives_honest (λ r. (a : Taken) × (r.answer ≡ Ok a)) (λ _. (_, refl)) (λ _. (_, refl))

    -- the newest is at or above its new number
    pub arrives_newest : u.new ≤ (taken K L h' time bytes).end.incoming.newest
    arrives_newest = arrives_honest (λ r. u.new ≤ r.end.incoming.newest) (λ y. o.newest_largest u.new y) (λ _. omega arith)

    -- the newest is the larger of what it was and the new number
    pub arrives_newest_is : (taken K L h' time bytes).end.incoming.newest ≡ max h.end.incoming.newest u.new
    arrives_newest_is = arrives_honest (λ r. r.end.incoming.newest ≡ max h.end.incoming.newest u.new) (λ y. let le = o.newest_largest u.new y in omega arith) (λ _. refl)

    -- its new state is held
    pub arrives_new : lookup (taken K L h' time bytes).end.incoming.numbers (taken K L h' time bytes).received_store u.new ≡ Some (fixed u.new)
    arrives_new = arrives_honest (λ r. lookup r.end.incoming.numbers r.received_store u.new ≡ Some (fixed u.new)) (λ y. t u.new y) (λ n. landed_new o h.received_store fit u numbers base n (fixed u.new))

    -- its ack is acknowledged
    pub arrives_acknowledged : (taken K L h' time bytes).end.outgoing.numbers.anchor ≡ max h.end.outgoing.numbers.anchor u.ack
    arrives_acknowledged = arrives_honest (λ r. r.end.outgoing.numbers.anchor ≡ max h.end.outgoing.numbers.anchor u.ack) (λ _. raised_anchor h.end.outgoing.numbers u.ack) (λ _. raised_anchor h.end.outgoing.numbers u.ack)

    -- the last number, the current state and the count of sendings stay
    pub arrives_top : (taken K L h' time bytes).end.outgoing.top ≡ h.end.outgoing.top
    arrives_top = arrives_honest (λ r. r.end.outgoing.top ≡ h.end.outgoing.top) (λ _. refl) (λ _. refl)

    pub arrives_current : (taken K L h' time bytes).end.current ≡ h.end.current
    arrives_current = arrives_honest (λ r. r.end.current ≡ h.end.current) (λ _. refl) (λ _. refl)

    pub arrives_sendings : (taken K L h' time bytes).end.tally.sendings ≡ h.end.tally.sendings
    arrives_sendings = arrives_honest (λ r. r.end.tally.sendings ≡ h.end.tally.sendings) (λ _. refl) (λ _. refl)

-- a tick at least 3,000 after any time that its end has used
module _ (K L : Kind) (itself : Itself K) (onto : Onward K) (h : Holding K L) (o : Own h.end) (c : Chained K L h) (time : ℕ) (late : h.end.tally.clock + 3000 ≤ time) where
  -- it starts from the acknowledged state
  pub late_old : assumed h.end.outgoing (max h.end.tally.clock time) ≡ h.end.outgoing.numbers.anchor
  late_old = assumed_after_silence o (max h.end.tally.clock time) (omega arith)

  pub late_base : assumed_state K h.end h.sent_store (max h.end.tally.clock time) ≡ sent_state K L h h.end.outgoing.numbers.anchor
  late_base = ap (sent_state K L h) late_old

  -- so its diff is the one from there to its new state
  pub late_diff : (update K h.end h.sent_store (max h.end.tally.clock time)).diff ≡ K.diff (sent_state K L h h.end.outgoing.numbers.anchor) (new_state K h.end h.sent_store)
  late_diff = ap (λ x. K.diff x (new_state K h.end h.sent_store)) late_base

  -- and it sends, if a sending is left and the diff is short
  pub late_sends : (out : List ℕ) → Called K L h time → 2224 ≤ length out → h.end.tally.sendings < 1000000 → length (K.diff (sent_state K L h h.end.outgoing.numbers.anchor) (new_state K h.end h.sent_store)) ≤ 2031 → Sends K L h time out
  late_sends out called room left short = record {
    called = called;
    room = room;
    is_due = due_after_silence K h.end h.sent_store (max h.end.tally.clock time) (omega (arith, o.last_past));
    follows = assumed_follows K L itself onto h c o (max h.end.tally.clock time);
    left = left;
    short = subst (λ d. length d ≤ 2031) (sym late_diff) short;
  }
