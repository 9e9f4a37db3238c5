-- What stays of what holds between two ends where one of them goes on.
use Rattle.std.proofs.Common.{◌≡◌, ℕ, ◌<◌, ◌≤◌, true, List, length, sym, refl, ap, ◌∙◌, subst, arith, Some}
use Rattle.state.specs.Kind.{Kind}
use Rattle.window.specs.Numbers.{Numbers, lookup}
use Rattle.packet.specs.Pieces.{piece_count}
use Rattle.packet.specs.Instructions.{Update}
use Rattle.packet.specs.Datagrams.{datagram_bytes}
use Rattle.packet.specs.Sendings.{parcel}
use Rattle.assembler.specs.Contents.{Contents}
use Rattle.protocol.specs.End.{Outgoing, Incoming, End, Holding}
use Rattle.protocol.specs.Own.{Own}
use Rattle.protocol.proofs.Keeping.{in_order}
use Rattle.protocol.proofs.Halves.{HalfOf, half_more}
use Rattle.protocol_session.specs.History.{Past, ack_in, moved_on, informed_at}
use Rattle.protocol_session.proofs.Invariant.{state, Instructs, Carries, Holds, Acks, Joined}

-- what goes out, with its history: what was fixed and sent stays so
pub record Grows {K : Kind} (o : Outgoing) (p : Past K) (o' : Outgoing) (p' : Past K) : Type 0 where
  pub direction : p'.direction ≡ p.direction
  pub sendings : p.sendings ≤ p'.sendings
  pub top : o.top ≤ o'.top
  pub anchor : o.numbers.anchor ≤ o'.numbers.anchor
  pub instruction : (s : ℕ) → s ≤ p.sendings → p'.instruction s ≡ p.instruction s
  pub states : (n : ℕ) → n ≤ o.top → state p' n ≡ state p n

module _ {K : Kind} {o : Outgoing} {p : Past K} {o' : Outgoing} {p' : Past K} (g : Grows o p o' p') where
  -- a sending
  pub instructs_still : (s : ℕ) (u : Update) → s ≤ p.sendings → Instructs o p s u → Instructs o' p' s u
  instructs_still s u le i =
      let ord = in_order u i.in_order in
      record {
        bytes = g.instruction s le ∙ i.bytes;
        in_order = i.in_order;
        reached = omega (arith, i.reached, g.top);
        needless = omega (arith, i.needless, g.anchor);
        steps = i.steps ∙ ap (λ c. K.diff c (state p u.new)) (sym (g.states u.old (omega (arith, i.reached, ord.1.0)))) ∙ ap (K.diff (state p' u.old)) (sym (g.states u.new i.reached));
        short = i.short;
      }

  -- a datagram
  pub carries_still : (d : List ℕ) → Carries p d → Carries p' d
  carries_still d c =
      let same = g.instruction c.sending c.past in
      record {
        sending = c.sending;
        piece = c.piece;
        from = c.from;
        some = c.some;
        past = omega (arith, c.past, g.sendings);
        one_of = subst (λ bs. c.piece < piece_count bs) (sym same) c.one_of;
        is = c.is ∙ ap (λ w. datagram_bytes (parcel w c.from c.sending (p.instruction c.sending) c.piece)) (sym g.direction) ∙ ap (λ bs. datagram_bytes (parcel p'.direction c.from c.sending bs c.piece)) (sym same);
      }

  -- what is half made
  pub half_still : (c : Contents) → HalfOf p.sendings p.instruction c → HalfOf p'.sendings p'.instruction c
  half_still c = half_more p.sendings p'.sendings p.instruction p'.instruction c g.sendings g.instruction

  -- what is held
  pub holds_still : (i : Incoming) (store : List K.Contents) (n : ℕ) → Holds o p i store n → Holds o' p' i store n
  holds_still i store n h = record { fixed = omega (arith, h.fixed, g.top); shows = h.shows ∙ ap (λ c. Some c) (sym (g.states n h.fixed)) }

-- an end that was x and is e has sent nothing more
pub record Quiet {K : Kind} (x e : End K) : Type 0 where
  pub direction : e.direction ≡ x.direction
  pub sendings : e.tally.sendings ≡ x.tally.sendings
  pub top : e.outgoing.top ≡ x.outgoing.top
  pub acknowledged : x.outgoing.numbers.anchor ≤ e.outgoing.numbers.anchor
  pub states : (ks : List K.Contents) (n : ℕ) → e.outgoing.numbers.anchor ≤ n → lookup e.outgoing.numbers ks n ≡ lookup x.outgoing.numbers ks n

-- an end that receives from x was y and is z
pub record Onto {K L : Kind} (x : Holding K L) (p : Past K) (y z : Holding L K) : Type 0 where
  pub stored : length z.received_store ≡ 16
  pub direction : z.end.direction ≡ y.end.direction
  pub half : HalfOf p.sendings p.instruction z.end.incoming.half
  pub holds : (n : ℕ) → z.end.incoming.numbers.held n ≡ true → Holds x.end.outgoing p z.end.incoming z.received_store n
  pub dropped : z.end.incoming.numbers.anchor ≤ x.end.outgoing.numbers.anchor
  pub newest : y.end.incoming.newest ≤ z.end.incoming.newest
  pub higher : y.end.incoming.numbers.anchor ≤ z.end.incoming.numbers.anchor
  pub stays : (n : ℕ) → z.end.incoming.numbers.anchor ≤ n → y.end.incoming.numbers.held n ≡ true → z.end.incoming.numbers.held n ≡ true

module _ {K L : Kind} {x : Holding K L} {p : Past K} {y : Holding L K} {q : Past L} (j : Joined K L x p y q) where
  -- x has sent nothing more: its current state, its time and what it has as acknowledged may be others, and what it holds of y's
  pub quiet_forth :
      (e : End K) (ls : List L.Contents) (c : K.Contents) (acked used : ℕ) → Quiet x.end e → Own e →
      e.current ≡ c → e.outgoing.numbers.anchor ≡ acked → e.tally.clock ≡ used →
      ((i : ℕ) → i ≤ x.end.outgoing.top → K.follows (state p i) c ≡ true) → y.end.incoming.numbers.held e.outgoing.numbers.anchor ≡ true →
      Joined K L (record { end = e; sent_store = x.sent_store; received_store = ls }) (informed_at (moved_on p c) acked used) y q
  quiet_forth e ls c acked used quiet own now-current now-acked now-used follows held =
      let top = quiet.top in
      let up = quiet.acknowledged in
      record {
        own = own;
        sent_length = j.sent_length;
        received_length = j.received_length;
        direction = quiet.direction ∙ j.direction;
        current = now-current;
        counted = quiet.sendings ∙ j.counted;
        acked = now-acked;
        used = now-used;
        directions = j.directions;
        fixed = λ n le. j.fixed n (omega arith);
        unfixed = λ n lt. j.unfixed n (omega arith);
        onward = λ i k a b. j.onward i k a (omega arith);
        ahead = λ i le. follows i (omega arith);
        stored = λ n a b. quiet.states x.sent_store n a ∙ j.stored n (omega arith) (omega arith);
        sendings = λ s a b. let i = j.sendings s a b in (i.0, instructs_still grows s i.0 b i.1);
        air = λ d m. carries_still grows d (j.air d m);
        half = j.half;
        holds = λ n k. holds_still grows y.end.incoming y.received_store n (j.holds n k);
        dropped = omega (arith, j.dropped);
        acks = j.acks;
        confirmed = held;
      }
    where
      grows : Grows x.end.outgoing p e.outgoing (informed_at (moved_on p c) acked used)
      grows = record { direction = refl; sendings = omega arith; top = omega (arith, quiet.top); anchor = quiet.acknowledged; instruction = λ s _. refl; states = λ n _. refl }

  -- y goes on receiving, with the history r
  pub joined_onto : (z : Holding L K) (r : Past L) → Onto x p y z → ((s : ℕ) → 1 ≤ s → s ≤ r.sendings → Acks z.end.incoming r s) → Joined K L x p z r
  joined_onto z r o acks = record {
    own = j.own;
    sent_length = j.sent_length;
    received_length = o.stored;
    direction = j.direction;
    current = j.current;
    counted = j.counted;
    acked = j.acked;
    used = j.used;
    directions = o.direction ∙ j.directions;
    fixed = j.fixed;
    unfixed = j.unfixed;
    onward = j.onward;
    ahead = j.ahead;
    stored = j.stored;
    sendings = j.sendings;
    air = j.air;
    half = o.half;
    holds = o.holds;
    dropped = o.dropped;
    acks = acks;
    confirmed = o.stays x.end.outgoing.numbers.anchor o.dropped j.confirmed;
  }

  -- and has sent nothing more
  pub remains_onto : (z : Holding L K) (r : Past L) → Onto x p y z → r.sendings ≡ q.sendings → r.instruction ≡ q.instruction → Joined K L x p z r
  remains_onto z r o count same = joined_onto z r o (λ s some past. still s (j.acks s some (omega arith)))
    where
      still : (s : ℕ) → Acks y.end.incoming q s → Acks z.end.incoming r s
      still s a = record {
        old = subst (λ (f : ℕ → List ℕ). ack_in (f s) ≤ z.end.incoming.newest) (sym same) (omega (arith, a.old, o.newest));
        kept = subst (λ (f : ℕ → List ℕ). z.end.incoming.numbers.anchor ≤ ack_in (f s) → z.end.incoming.numbers.held (ack_in (f s)) ≡ true) (sym same) (λ le. o.stays (ack_in (q.instruction s)) le (a.kept (omega (arith, o.higher))));
      }

  -- y has received no more than pieces of an instruction
  pub alike : (z : Holding L K) → z.received_store ≡ y.received_store → z.end.direction ≡ y.end.direction → z.end.incoming.numbers ≡ y.end.incoming.numbers → z.end.incoming.newest ≡ y.end.incoming.newest → HalfOf p.sendings p.instruction z.end.incoming.half → Onto x p y z
  alike z store direction numbers newest half = record {
    stored = ap length store ∙ j.received_length;
    direction = direction;
    half = half;
    holds = λ n k.
        let h = j.holds n (sym (ap (λ (w : Numbers). w.held n) numbers) ∙ k) in
        record { fixed = h.fixed; shows = ap (λ (w : Numbers). lookup w z.received_store n) numbers ∙ ap (λ (ks : List K.Contents). lookup y.end.incoming.numbers ks n) store ∙ h.shows };
    dropped = subst (λ (w : Numbers). w.anchor ≤ x.end.outgoing.numbers.anchor) (sym numbers) j.dropped;
    newest = omega arith;
    higher = subst (λ (w : Numbers). y.end.incoming.numbers.anchor ≤ w.anchor) (sym numbers) (omega arith);
    stays = λ n le k. ap (λ (w : Numbers). w.held n) numbers ∙ k;
  }
