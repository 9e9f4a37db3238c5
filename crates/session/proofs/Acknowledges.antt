-- A take keeps what holds of the direction in which the end sends: what is acknowledged may rise.
use Rattle.std.proofs.Common.{◌≡◌, ℕ, ◌+◌, ◌<◌, ◌≤◌, max, Bool, true, false, cond, eqb, ◌⊎◌, List, length, Ok, Err, Result, sym, refl, ap, ◌∙◌, subst, ⊎_elim, arith}
use Rattle.std.proofs.lemmas.Bool.{cond-true, cases_lt, eq-eqb}
use Rattle.state.specs.Kind.{Kind}
use Rattle.packet.specs.declared.datagram.Direction.{Direction}
use Rattle.packet.specs.declared.datagram.Direction.TheVariants.{TowardDepot, TowardReader}
use Rattle.packet.specs.Pieces.{piece_count}
use Rattle.packet.specs.Instructions.{Update, read_instruction}
use Rattle.packet.specs.Datagrams.{Parcel, same_direction, datagram_bytes, read_datagram}
use Rattle.packet.specs.Sendings.{parcel}
use Rattle.packet.proofs.Layouts.{instruction_length}
use Rattle.packet.proofs.Sendings.{datagram_read}
use Rattle.assembler.specs.Contents.{Contents, nothing, collecting, collects, held_of, none}
use Rattle.assembler.specs.Assembling.{gathered}
use Rattle.protocol.specs.declared.answer.Taken.TheVariants.{Shown, Filled}
use Rattle.protocol.specs.declared.fault.TakeFault.{TakeFault}
use Rattle.endpoint.specs.End.{Holding}
use Rattle.endpoint.specs.Taking as take
use Rattle.endpoint.specs.Taking.{AfterTake, taken}
use Rattle.endpoint.specs.Own.{Own}
use Rattle.endpoint.proofs.Ways.{Reads, take_ways}
use Rattle.endpoint.proofs.Keeping.{own_taken}
use Rattle.endpoint.proofs.Takes.{take_refused, TakeLeaves, take_leaves, settled_anchor}
use Rattle.endpoint.proofs.Halves.{HalfOf, own_refused, reads_instruction}
use Rattle.session.specs.History.{Past, opposite, piece_read, piece_in, ack_in, completed, after_take}
use Rattle.session.specs.Runs.{Lent, lent_to, takes, taken_to, Among}
use Rattle.session.proofs.Shared.{among_turned, opposite_other}
use Rattle.session.proofs.Invariant.{state, Instructs, Carries, Gathers, Holds, Joined}

pub same_itself : (d : Direction) → same_direction d d ≡ true
same_itself TowardDepot = refl
same_itself TowardReader = refl

-- what is half made is pieces of one of the sendings
pub half_of : (c : Contents) (sent : ℕ) (instruction : ℕ → List ℕ) → ((s : ℕ) → collects c s ≡ true → (s ≤ sent) × ((has : ℕ → Bool) × (held_of c s ≡ gathered s (instruction s) has))) → HalfOf sent instruction c
half_of nothing sent ins f = tt
half_of (collecting s held) sent ins f =
    let is = eq-eqb s s refl in
    let r = f s is in
    (r.0, (r.1.0, sym (cond-true (eqb s s) held none is) ∙ r.1.1))

module _ (K L : Kind) (x : Holding K L) (p : Past K) (y : Holding L K) (q : Past L) where
  -- the instruction of a sending has at most 2048 bytes
  pub sending_short : Joined K L x p y q → (s : ℕ) → 1 ≤ s → s ≤ x.end.sendings → (1 ≤ length (p.instruction s)) × (length (p.instruction s) ≤ 2048)
  sending_short j s some past =
      let i = (j.sendings s some past).1 in
      let n : length (p.instruction s) ≡ 17 + length (j.sendings s some past).0.diff = ap length i.bytes ∙ instruction_length (j.sendings s some past).0 in
      let k = i.short in
      (omega (arith, n), omega (arith, n, k))

module _ (K L : Kind) (x : Holding K L) (p : Past K) (y : Holding L K) (q : Past L) (back : Joined L K y q x p) (bytes : List ℕ) where
  -- a datagram of y, as x reads it
  pub record Arrives : Type 0 where
    pub sending : ℕ
    pub number : ℕ
    pub from : ℕ
    pub some : 1 ≤ sending
    pub past : sending ≤ y.end.sendings
    pub least : 1 ≤ length (q.instruction sending)
    pub most : length (q.instruction sending) ≤ 2048
    pub below : number < piece_count (q.instruction sending)
    pub read : read_datagram x.end.direction bytes ≡ Ok (parcel y.end.direction from sending (q.instruction sending) number)
    pub told : (piece_in x.end.direction bytes).sending ≡ sending

  pub arrives : Among K L bytes q.written → Arrives
  arrives a =
      let c = back.air bytes (among_turned K L bytes q.written a) in
      let short = sending_short L K y q x p back c.sending c.some c.past in
      let reads : read_datagram x.end.direction bytes ≡ Ok (parcel y.end.direction c.from c.sending (q.instruction c.sending) c.piece) =
      ap (read_datagram x.end.direction) c.is ∙ datagram_read y.end.direction c.from c.sending (q.instruction c.sending) x.end.direction c.piece (opposite_other y.end.direction x.end.direction back.directions) short.1 c.one_of in
      record {
        sending = c.sending;
        number = c.piece;
        from = c.from;
        some = c.some;
        past = c.past;
        least = short.0;
        most = short.1;
        below = c.one_of;
        read = reads;
        told = ap (λ r. (piece_read r).sending) reads;
      }

  pub half_sound : HalfOf y.end.sendings q.instruction x.end.half
  half_sound = half_of x.end.half y.end.sendings q.instruction (λ s e. let g = back.half s e in (g.past, (g.has, g.are)))

  -- the bytes that a take of a datagram of y makes whole are the instruction of its sending
  pub completes : Among K L bytes q.written → (l : Lent) (time : ℕ) (g : Parcel) (bs : List ℕ) (u : Update) → Reads K L (lent_to K L x l) time bytes g bs u → bs ≡ q.instruction (piece_in x.end.direction bytes).sending
  completes a l time g bs u r =
      let v = arrives a in
      reads_instruction K L (lent_to K L x l) y.end.sendings q.instruction half_sound time bytes y.end.direction v.from v.sending v.number v.past v.least v.most v.below v.read g bs u r
      ∙ ap q.instruction (sym v.told)

-- the ack that an instruction's bytes tell
pub ack_of : (bs : List ℕ) (u : Update) → read_instruction bs ≡ Ok u → ack_in bs ≡ u.ack
ack_of bs u e = ap (λ (r : Result Update _). elim r [ Ok v ↦ v.ack | Err f ↦ 0 ]) e

-- a history that differs in what is acknowledged and in the time only
abbrev pub reaching : {K : Kind} → Past K → ℕ → ℕ → Past K
reaching p acked used = record { current = p.current; fixed = p.fixed; written = p.written; instruction = p.instruction; acked = acked; used = used }

module _ (K L : Kind) (x : Holding K L) (p : Past K) (y : Holding L K) (q : Past L) (j : Joined K L x p y q) where
  -- an end with other received states
  pub other_received : (ls : List L.Contents) → Joined K L (record { end = x.end; sent_store = x.sent_store; received_store = ls }) p y q
  other_received ls = record {
    own = j.own;
    sent_length = j.sent_length;
    received_length = j.received_length;
    directions = j.directions;
    current = j.current;
    acked = j.acked;
    used = j.used;
    fixed = j.fixed;
    unfixed = j.unfixed;
    onward = j.onward;
    ahead = j.ahead;
    stored = j.stored;
    sendings = j.sendings;
    air = j.air;
    half = j.half;
    holds = j.holds;
    dropped = j.dropped;
    acks = j.acks;
    confirmed = j.confirmed;
  }

  -- an end that a take left with a higher number as acknowledged, which y holds
  module _ (l : Lent) (r : AfterTake K L) (o : Own K L r.end) (t : TakeLeaves K L (lent_to K L x l) r) (acked used : ℕ) (a : r.end.sent.anchor ≡ acked) (c : r.end.clock ≡ used) (held : y.end.received.held r.end.sent.anchor ≡ true) where
    sends_still : (s : ℕ) (u : Update) → Instructs K L x.end p s u → Instructs K L r.end (reaching p acked used) s u
    sends_still s u i = record {
      bytes = i.bytes;
      in_order = i.in_order;
      reached = let m = i.reached in let n = t.top in omega arith;
      needless = let m = i.needless in let n = t.acknowledged in omega arith;
      steps = i.steps;
      short = i.short;
    }

    carries_still : (d : List ℕ) → Carries K L x.end p d → Carries K L r.end (reaching p acked used) d
    carries_still d k = record {
      sending = k.sending;
      piece = k.piece;
      from = k.from;
      some = k.some;
      past = let m = k.past in let n = t.sendings in omega arith;
      one_of = k.one_of;
      is = k.is ∙ ap (λ w. datagram_bytes (parcel w k.from k.sending (p.instruction k.sending) k.piece)) (sym t.direction);
    }

    gathers_still : (s : ℕ) → Gathers K L x.end p y.end s → Gathers K L r.end (reaching p acked used) y.end s
    gathers_still s k = record { some = k.some; past = let m = k.past in let n = t.sendings in omega arith; has = k.has; are = k.are }

    holds_still : (n : ℕ) → Holds K L x.end p y n → Holds K L r.end (reaching p acked used) y n
    holds_still n k = record { fixed = let m = k.fixed in let e = t.top in omega arith; shows = k.shows }

    pub reached_still : Joined K L (taken_to K L x l r) (reaching p acked used) y q
    reached_still = record {
      own = o;
      sent_length = j.sent_length;
      received_length = j.received_length;
      directions = j.directions ∙ ap opposite (sym t.direction);
      current = t.current ∙ j.current;
      acked = a;
      used = c;
      fixed = λ n le. let e = t.top in j.fixed n (omega arith);
      unfixed = λ n lt. let e = t.top in j.unfixed n (omega arith);
      onward = λ i k le lk. let e = t.top in j.onward i k le (omega arith);
      ahead = λ i le. let e = t.top in subst (λ s. K.follows (state p i) s ≡ true) (sym t.current) (j.ahead i (omega arith));
      stored = λ n le lt. let e = t.top in let m = t.acknowledged in t.states x.sent_store n le ∙ j.stored n (omega arith) (omega arith);
      sendings = λ s some past. let e = t.sendings in let i = j.sendings s some (omega arith) in (i.0, sends_still s i.0 i.1);
      air = λ d w. carries_still d (j.air d w);
      half = λ s w. gathers_still s (j.half s w);
      holds = λ n w. holds_still n (j.holds n w);
      dropped = let m = t.acknowledged in let n = j.dropped in omega arith;
      acks = j.acks;
      confirmed = held;
    }

-- a history after a take that made a state new
pub landed_past : {K : Kind} (p : Past K) (time : ℕ) (bs : List ℕ) (b : Bool) (n m : ℕ) → after_take p time bs (Ok (cond b (Shown n) (Filled m))) ≡ completed p bs time
landed_past p time bs true n m = refl
landed_past p time bs false n m = refl

module _ (K L : Kind) (x : Holding K L) (p : Past K) (y : Holding L K) (q : Past L) (forth : Joined K L x p y q) (back : Joined L K y q x p) (l : Lent) (time : ℕ) (bytes : List ℕ) where
  -- the instruction of the sending whose datagram is taken
  abbrev pub instruction_of : List ℕ
  instruction_of = q.instruction (piece_in x.end.direction bytes).sending

  -- what a take leaves that is refused
  refused_still : (r : AfterTake K L) (f : TakeFault) → r ≡ take.refuses K L (lent_to K L x l) 0 f → Joined K L (taken_to K L x l r) (after_take p time instruction_of r.answer) y q
  refused_still r f e = subst (λ z. Joined K L (taken_to K L x l z) (after_take p time instruction_of z.answer) y q) (sym e) (other_received K L x p y q forth _)

  -- an end refuses a datagram of its own
  own_still : Among K L bytes p.written → Joined K L (taken_to K L x l (takes K L x l time bytes)) (after_take p time instruction_of (takes K L x l time bytes).answer) y q
  own_still a =
      let c = forth.air bytes a in
      let short = sending_short K L x p y q forth c.sending c.some c.past in
      let r = own_refused K L (lent_to K L x l) time c.from c.sending (p.instruction c.sending) c.piece x.end.direction (same_itself x.end.direction) short.1 c.one_of in
      refused_still (takes K L x l time bytes) r.0 (ap (λ b. taken K L (lent_to K L x l) time b) c.is ∙ r.1)

  -- the number that a datagram of y has acknowledged is one that y holds
  module _ (a : Among K L bytes q.written) (g : Parcel) (bs : List ℕ) (u : Update) (r : Reads K L (lent_to K L x l) time bytes g bs u) where
    ack_told : ack_in instruction_of ≡ u.ack
    ack_told = ap ack_in (sym (completes K L x p y q back bytes a l time g bs u r)) ∙ ack_of bs u r.instruction

    ack_held : y.end.received.held (max x.end.sent.anchor u.ack) ≡ true
    ack_held = ⊎_elim higher lower (cases_lt x.end.sent.anchor u.ack)
      where
        higher : x.end.sent.anchor < u.ack → y.end.received.held (max x.end.sent.anchor u.ack) ≡ true
        higher lt =
            let v = arrives K L x p y q back bytes a in
            let k = forth.acks v.sending v.some v.past in
            let told : ack_in (q.instruction v.sending) ≡ u.ack = ap (λ s. ack_in (q.instruction s)) (sym v.told) ∙ ack_told in
            let d = forth.dropped in
            let is : max x.end.sent.anchor u.ack ≡ ack_in (q.instruction v.sending) = omega arith in
            ap y.end.received.held is ∙ k.kept (omega arith)

        lower : u.ack ≤ x.end.sent.anchor → y.end.received.held (max x.end.sent.anchor u.ack) ≡ true
        lower le =
            let is : max x.end.sent.anchor u.ack ≡ x.end.sent.anchor = omega arith in
            ap y.end.received.held is ∙ forth.confirmed

    -- an end that has read the instruction
    settled_still : (z : AfterTake K L) → Own K L z.end → TakeLeaves K L (lent_to K L x l) z → z.end.sent.anchor ≡ max x.end.sent.anchor u.ack → z.end.clock ≡ max x.end.clock time → Joined K L (taken_to K L x l z) (completed p instruction_of time) y q
    settled_still z o t up on =
        let e = forth.acked in
        let c = forth.used in
        reached_still K L x p y q forth l z o t (max p.acked (ack_in instruction_of)) (max p.used time) (up ∙ ap (λ n. max n u.ack) e ∙ ap (max p.acked) (sym ack_told)) (on ∙ ap (λ n. max n time) c) (ap y.end.received.held up ∙ ack_held)

  -- what a take of a datagram of y leaves
  taken_still : Among K L bytes q.written → Joined K L (taken_to K L x l (takes K L x l time bytes)) (after_take p time instruction_of (takes K L x l time bytes).answer) y q
  taken_still a =
      take_ways K L h time bytes (λ r. Own K L r.end → TakeLeaves K L h r → Joined K L (taken_to K L x l r) (after_take p time instruction_of r.answer) y q)
      (λ f o t. refused_still _ f refl)
      (λ g half k e o t. reached_still K L x p y q forth l _ o t p.acked (max p.used time) forth.acked (ap (λ n. max n time) forth.used) forth.confirmed)
      (λ g bs u r w o t. settled_still a g bs u r _ o t (settled_anchor K L h (max h.end.clock time) u.ack h.end.received 0 h.end.pending) refl)
      (λ g bs u r w v o t. settled_still a g bs u r _ o t (settled_anchor K L h (max h.end.clock time) u.ack h.end.received 0 h.end.pending) refl)
      (λ g bs u base c r w v d o t. subst (λ z. Joined K L (taken_to K L x l (take.landed K L h (max h.end.clock time) u c)) z y q) (sym (landed_past p time instruction_of _ u.new u.new)) (settled_still a g bs u r (take.landed K L h (max h.end.clock time) u c) o t (settled_anchor K L h (max h.end.clock time) u.ack h.end.received 0 h.end.pending) refl))
      (own_taken K L h forth.own time bytes)
      (take_leaves K L h time bytes)
    where
      h : Holding K L
      h = lent_to K L x l

  -- a take keeps the direction in which the end sends
  pub take_sent : Among K L bytes p.written ⊎ (Among K L bytes q.written ⊎ ((f : TakeFault) × ((takes K L x l time bytes).answer ≡ Err f))) → Joined K L (taken_to K L x l (takes K L x l time bytes)) (after_take p time instruction_of (takes K L x l time bytes).answer) y q
  take_sent = ⊎_elim own_still (⊎_elim taken_still (λ e. refused_still (takes K L x l time bytes) e.0 (take_refused K L (lent_to K L x l) time bytes e.0 e.1)))
