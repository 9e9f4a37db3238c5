-- What a tick and a take come to, where it is known which way they go.
use Rattle.std.proofs.Common.{◌≡◌, ℕ, zero, suc, ◌+◌, ◌-◌, ◌<◌, ◌≤◌, max, true, false, cond, not, ◌&&◌, ◌||◌, leb, List, [], length, get_or, Ok, refl, ap, ◌∙◌, arith, Some, None}
use Rattle.std.proofs.lemmas.Bool.{cond-true, cond-false, and_left, and_right, or_right, le-leb, lt-leb, not_from_true, not_from_false}
use Rattle.state.specs.Kind.{Kind}
use Rattle.window.specs.Numbers.{lookup}
use Rattle.packet.specs.declared.datagram.Direction.{Direction}
use Rattle.packet.specs.Pieces.{piece_count}
use Rattle.packet.specs.Instructions.{Update, instruction_bytes}
use Rattle.packet.specs.Datagrams.{Parcel, same_direction, read_datagram}
use Rattle.packet.specs.Sendings.{parcel, datagrams_of}
use Rattle.packet.proofs.Layouts.{instruction_length}
use Rattle.packet.proofs.Sendings.{sending_stands}
use Rattle.assembler.specs.Contents.{Contents}
use Rattle.assembler.specs.Offers.{partly, offered}
use Rattle.protocol.specs.declared.answer.Taken.TheVariants.{Part, Again, Baseless}
use Rattle.endpoint.specs.End.{End, Holding, latest, both_fit}
use Rattle.endpoint.specs.Due.{Facts, due, patience, since, silence, gathering, owed}
use Rattle.endpoint.specs.Ticking.{reached, facts, assumed, sent_at, assumed_state, new_state, update, judged, ticked}
use Rattle.endpoint.specs.Taking.{collected, passed, landed, applied, based, followed, instructed, assembled, received, taken}
use Rattle.endpoint.specs.Own.{Own}
use Rattle.endpoint.proofs.Ways.{Called, Sends, Carries, Reads, idle_at, sent_as}

module _ (K L : Kind) (h : Holding K L) (time : ℕ) where
  called_by : {X : Type 0} (k : Called K L h time) (x y z : X) → cond (leb time latest) (cond (both_fit h.sent_store h.received_store) x y) z ≡ x
  called_by k x y z = cond-true (leb time latest) _ z (le-leb time latest k.in_time) ∙ cond-true (both_fit h.sent_store h.received_store) x y k.lent

  module _ (out : List ℕ) where
    tick_judged : Called K L h time → 2224 ≤ length out → ticked K L h time out ≡ judged K L h (max h.end.clock time) out
    tick_judged k room = called_by k _ _ _ ∙ cond-true (leb 2224 (length out)) _ _ (le-leb 2224 (length out) room)

    -- a tick that isn't due, where there are sendings left
    pub idles : Called K L h time → 2224 ≤ length out → h.end.sendings < 1000000 → due (facts K L h.end h.sent_store (max h.end.clock time)) ≡ false → ticked K L h time out ≡ idle_at K L h (max h.end.clock time) out
    idles k room left d =
        tick_judged k room
        ∙ cond-false (due f && not (K.follows base new)) _ _ (and_left (due f) (not (K.follows base new)) d)
        ∙ cond-false (leb 1000000 h.end.sendings) _ _ (lt-leb 1000000 h.end.sendings left)
        ∙ cond-true (not (due f)) _ _ (not_from_false (due f) d)
      where
        now : ℕ
        now = max h.end.clock time

        f : Facts
        f = facts K L h.end h.sent_store now

        base : K.Contents
        base = assumed_state K L h.end h.sent_store now

        new : K.Contents
        new = new_state K L h.end h.sent_store now

    -- a tick that sends
    pub sends : Sends K L h time out → ticked K L h time out ≡ sent_as K L h (max h.end.clock time) out
    sends s =
        tick_judged s.called s.room
        ∙ cond-false (due f && not (K.follows base new)) _ _ (and_right (due f) (not (K.follows base new)) (not_from_true (K.follows base new) s.follows))
        ∙ cond-false (leb 1000000 h.end.sendings) _ _ (lt-leb 1000000 h.end.sendings s.left)
        ∙ cond-false (not (due f)) _ _ (not_from_true (due f) s.is_due)
        ∙ cond-true (leb (length (update K L h.end h.sent_store now).diff) 2031) _ _ (le-leb (length (update K L h.end h.sent_store now).diff) 2031 s.short)
      where
        now : ℕ
        now = max h.end.clock time

        f : Facts
        f = facts K L h.end h.sent_store now

        base : K.Contents
        base = assumed_state K L h.end h.sent_store now

        new : K.Contents
        new = new_state K L h.end h.sent_store now

    -- each datagram that it writes is read by an end at the other side as its piece
    pub datagrams_read : Sends K L h time out → (other : Direction) → same_direction h.end.direction other ≡ false → (k : ℕ) → k < piece_count (instruction_bytes (update K L h.end h.sent_store (max h.end.clock time))) → read_datagram other (get_or (datagrams_of h.end.direction h.end.datagrams (h.end.sendings + 1) (instruction_bytes (update K L h.end h.sent_store (max h.end.clock time)))) k []) ≡ Ok (parcel h.end.direction h.end.datagrams (h.end.sendings + 1) (instruction_bytes (update K L h.end h.sent_store (max h.end.clock time))) k)
    datagrams_read s other apart =
        let u = update K L h.end h.sent_store (max h.end.clock time) in
        (sending_stands h.end.direction other h.end.datagrams (h.end.sendings + 1) (instruction_bytes u) apart (omega (arith, instruction_length u, s.short))).2

  module _ (bytes : List ℕ) where
    take_assembled : (g : Parcel) → Carries K L h time bytes g → taken K L h time bytes ≡ assembled K L h (max h.end.clock time) g.piece (offered h.end.half g.piece)
    take_assembled g k = called_by k.called _ _ _ ∙ ap (received K L h (max h.end.clock time)) k.datagram

    -- a datagram whose piece is a part
    pub takes_part : (g : Parcel) (half : Contents) → Carries K L h time bytes g → offered h.end.half g.piece ≡ partly half → taken K L h time bytes ≡ record { answer = Ok (Part g.piece.number); end = collected K L h (max h.end.clock time) half; received_store = h.received_store }
    takes_part g half k e = take_assembled g k ∙ ap (assembled K L h (max h.end.clock time) g.piece) e

    take_followed : (g : Parcel) (bs : List ℕ) (u : Update) → Reads K L h time bytes g bs u → taken K L h time bytes ≡ followed K L h (max h.end.clock time) u
    take_followed g bs u r =
        take_assembled g r.carries
        ∙ ap (assembled K L h (max h.end.clock time) g.piece) r.whole
        ∙ ap (instructed K L h (max h.end.clock time)) r.instruction
        ∙ cond-true (leb u.ack h.end.top) _ _ (le-leb u.ack h.end.top r.ack_sent)

    -- one that makes an instruction whole whose new number is held
    pub takes_again : (g : Parcel) (bs : List ℕ) (u : Update) → Reads K L h time bytes g bs u → h.end.received.held u.new ≡ true → taken K L h time bytes ≡ passed K L h (max h.end.clock time) u (Again u.new)
    takes_again g bs u r y = take_followed g bs u r ∙ cond-true (h.end.received.held u.new) _ _ y

    -- whose new number isn't, nor its old one
    pub takes_baseless : (g : Parcel) (bs : List ℕ) (u : Update) → Reads K L h time bytes g bs u → h.end.received.held u.new ≡ false → lookup h.end.received h.received_store u.old ≡ None → taken K L h time bytes ≡ passed K L h (max h.end.clock time) u (Baseless u.new)
    takes_baseless g bs u r n m = take_followed g bs u r ∙ cond-false (h.end.received.held u.new) _ _ n ∙ ap (based K L h (max h.end.clock time) u) m

    -- whose old number is held and whose diff applies
    pub takes_land : (g : Parcel) (bs : List ℕ) (u : Update) (base c : L.Contents) → Reads K L h time bytes g bs u → h.end.received.held u.new ≡ false → lookup h.end.received h.received_store u.old ≡ Some base → L.apply base u.diff ≡ Ok c → taken K L h time bytes ≡ landed K L h (max h.end.clock time) u c
    takes_land g bs u base c r n l a = take_followed g bs u r ∙ cond-false (h.end.received.held u.new) _ _ n ∙ ap (based K L h (max h.end.clock time) u) l ∙ ap (applied K L h (max h.end.clock time) u) a

-- once the silence is over a tick is due
silent : (f : Facts) → f.last + 3000 ≤ f.time → due f ≡ true
unfolding due
silent f late =
    or_right (f.differs && (not f.full && since f.last gathering f.time)) ((f.unacknowledged && since f.sent_at patience f.time) || (owed f.pending f.time || since f.last silence f.time))
    (or_right (f.unacknowledged && since f.sent_at patience f.time) (owed f.pending f.time || since f.last silence f.time)
    (or_right (owed f.pending f.time) (since f.last silence f.time) (le-leb (f.last + 3000) f.time late)))

module _ (K L : Kind) (e : End K L) (ks : List K.Contents) (now : ℕ) where
  -- after the silence every tick is due
  pub due_after_silence : e.last + 3000 ≤ now → due (facts K L e ks now) ≡ true
  due_after_silence late = silent (facts K L e ks now) late

  -- when no number was sent lately, the assumed one is the acknowledged one
  pub assumed_after_silence : Own K L e → e.clock + 1100 ≤ now → assumed K L e ks now ≡ e.sent.anchor
  assumed_after_silence o late = stays (e.top - e.sent.anchor) refl
    where
      stays : (steps : ℕ) → e.top - e.sent.anchor ≡ steps → reached steps (λ n. not (since (sent_at K L e ks now n) patience now)) e.sent.anchor ≡ e.sent.anchor
      stays zero q = refl
      stays (suc steps) q =
          let past = o.times_past (e.sent.anchor + 1) (omega arith) (omega arith) in
          cond-false (not (since (sent_at K L e ks now (e.sent.anchor + 1)) patience now)) _ _ (not_from_true (since (sent_at K L e ks now (e.sent.anchor + 1)) patience now) (le-leb (sent_at K L e ks now (e.sent.anchor + 1) + 1100) now (omega arith)))
