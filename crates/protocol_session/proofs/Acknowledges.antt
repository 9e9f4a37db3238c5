-- A take keeps what holds of the direction in which the end sends: what is acknowledged may rise.
use Rattle.std.proofs.Common.{◌≡◌, ℕ, ◌<◌, ◌≤◌, max, Bool, true, false, cond, ◌⊎◌, List, Ok, Err, Result, sym, refl, ap, ◌∙◌, subst, ⊎_elim, arith}
use Rattle.std.proofs.lemmas.Bool.{cases_lt}
use Rattle.state.specs.Kind.{Kind}
use Rattle.packet.specs.Instructions.{Update, read_instruction}
use Rattle.packet.specs.Datagrams.{Parcel, read_datagram}
use Rattle.protocol.specs.declared.answer.Taken.TheVariants.{Shown, Filled}
use Rattle.protocol.specs.declared.fault.TakeFault.{TakeFault}
use Rattle.protocol.specs.End.{Holding}
use Rattle.protocol.specs.Taking as take
use Rattle.protocol.specs.Taking.{AfterTake}
use Rattle.protocol.specs.Own.{Own}
use Rattle.protocol.proofs.Ways.{Reads, take_ways}
use Rattle.protocol.proofs.Keeping.{raised_anchor, own_taken}
use Rattle.protocol.proofs.Takes.{take_refused, TakeLeaves, take_leaves}
use Rattle.protocol.proofs.Halves.{reads_instruction}
use Rattle.protocol_session.specs.History.{Past, fragment_read, fragment_in, ack_in, informed_at, completed, noted_take}
use Rattle.protocol_session.specs.Runs.{Lent, lent_to, takes, taken_to, Among}
use Rattle.protocol_session.proofs.Shared.{among_turned}
use Rattle.protocol_session.proofs.Invariant.{Carries, Joined}
use Rattle.protocol_session.proofs.Reading.{told_length, carried_read, carried_refused}
use Rattle.protocol_session.proofs.Still.{quiet_forth}

-- the ack that an instruction's bytes tell
ack_of : (bs : List ℕ) (u : Update) → read_instruction bs ≡ Ok u → ack_in bs ≡ u.ack
ack_of bs u e = ap (λ (r : Result Update _). elim r [ Ok v ↦ v.ack | Err f ↦ 0 ]) e

-- a history after a take that made a state new
landed_past : {K : Kind} (p : Past K) (time : ℕ) (bs : List ℕ) (b : Bool) (n m : ℕ) → noted_take p time bs (Ok (cond b (Shown n) (Filled m))) ≡ completed p bs time
landed_past p time bs true n m = refl
landed_past p time bs false n m = refl

module _ (K L : Kind) (x : Holding K L) (p : Past K) (y : Holding L K) (q : Past L) (forth : Joined K L x p y q) (back : Joined L K y q x p) (l : Lent) (time : ℕ) (bytes : List ℕ) where
  -- the end with the stores that it is lent
  abbrev h : Holding K L
  h = lent_to K L x l

  -- the instruction of the sending whose datagram is taken
  abbrev instruction_of : List ℕ
  instruction_of = q.instruction (fragment_in p.direction bytes).sending

  -- what is to hold after it
  abbrev Goal : AfterTake K L → Type 0
  Goal r = Joined K L (taken_to K L x l r) (noted_take p time instruction_of r.answer) y q

  -- a take leaves the end with a number as acknowledged that y holds
  left_still : (r : AfterTake K L) → Own r.end → TakeLeaves K L h r → (acked used : ℕ) → r.end.outgoing.numbers.anchor ≡ acked → r.end.tally.clock ≡ used → y.end.incoming.numbers.held r.end.outgoing.numbers.anchor ≡ true → Joined K L (taken_to K L x l r) (informed_at p acked used) y q
  left_still r o t acked used a u held =
      quiet_forth forth r.end _ p.current acked used
      (record { direction = t.direction; sendings = t.sendings; top = t.top; acknowledged = t.acknowledged; states = t.states }) o (t.current ∙ forth.current) a u forth.ahead held

  -- one that is refused leaves all as it was
  refused_still : (f : TakeFault) → Goal (take.refuses K L h.end h.received_store f)
  refused_still f =
      quiet_forth forth x.end _ p.current p.acked p.used
      (record { direction = refl; sendings = refl; top = refl; acknowledged = omega arith; states = λ ks n le. refl }) forth.own forth.current forth.acked forth.used forth.ahead forth.confirmed

  -- a datagram of y
  module _ (c : Carries q bytes) where
    -- the sending that it tells
    told_sending : (fragment_in p.direction bytes).sending ≡ c.sending
    told_sending = ap (λ d. (fragment_read (read_datagram d bytes)).sending) (sym forth.direction) ∙ ap (λ r. (fragment_read r).sending) (carried_read back c)

    module _ (g : Parcel) (bs : List ℕ) (u : Update) (r : Reads K L h time bytes g bs u) where
      -- the ack that is read is that of the sending
      ack_told : ack_in (q.instruction c.sending) ≡ u.ack
      ack_told = ap ack_in (sym (reads_instruction K L h q.sendings q.instruction back.half time bytes q.direction c.from c.sending c.piece c.past (told_length back c).0 (told_length back c).1 c.one_of (carried_read back c) g bs u r)) ∙ ack_of bs u r.instruction

      -- so the number that is then acknowledged is one that y holds
      ack_held : y.end.incoming.numbers.held (max x.end.outgoing.numbers.anchor u.ack) ≡ true
      ack_held = ⊎_elim higher lower (cases_lt x.end.outgoing.numbers.anchor u.ack)
        where
          higher : x.end.outgoing.numbers.anchor < u.ack → y.end.incoming.numbers.held (max x.end.outgoing.numbers.anchor u.ack) ≡ true
          higher lt =
              let k = forth.acks c.sending c.some c.past in
              let d = forth.dropped in
              let same = ack_told in
              let is : max x.end.outgoing.numbers.anchor u.ack ≡ ack_in (q.instruction c.sending) = omega arith in
              ap y.end.incoming.numbers.held is ∙ k.kept (omega arith)

          lower : u.ack ≤ x.end.outgoing.numbers.anchor → y.end.incoming.numbers.held (max x.end.outgoing.numbers.anchor u.ack) ≡ true
          lower le =
              let is : max x.end.outgoing.numbers.anchor u.ack ≡ x.end.outgoing.numbers.anchor = omega arith in
              ap y.end.incoming.numbers.held is ∙ forth.confirmed

      -- an end that has read the instruction
      informed_still : (z : AfterTake K L) → Own z.end → TakeLeaves K L h z → z.end.outgoing.numbers.anchor ≡ max x.end.outgoing.numbers.anchor u.ack → z.end.tally.clock ≡ max x.end.tally.clock time → Joined K L (taken_to K L x l z) (completed p instruction_of time) y q
      informed_still z o t up on =
          left_still z o t (max p.acked (ack_in instruction_of)) (max p.used time)
          (up ∙ ap (λ n. max n u.ack) forth.acked ∙ ap (max p.acked) (sym (ap (λ s. ack_in (q.instruction s)) told_sending ∙ ack_told)))
          (on ∙ ap (λ n. max n time) forth.used)
          (ap y.end.incoming.numbers.held up ∙ ack_held)

    -- what a take of it leaves
    taken_still : Goal (takes K L x l time bytes)
    taken_still =
        take_ways K L h time bytes (λ r. Own r.end → TakeLeaves K L h r → Goal r)
        (λ f o t. refused_still f)
        (λ g half k e o t. left_still _ o t p.acked (max p.used time) forth.acked (ap (λ n. max n time) forth.used) forth.confirmed)
        (λ g bs u r w o t. informed_still g bs u r _ o t (raised_anchor x.end.outgoing.numbers u.ack) refl)
        (λ g bs u r w v o t. informed_still g bs u r _ o t (raised_anchor x.end.outgoing.numbers u.ack) refl)
        (λ g bs u base d r w v a o t.
        let z : AfterTake K L = take.landed K L h.end h.received_store (max h.end.tally.clock time) u d in
        subst (λ past. Joined K L (taken_to K L x l z) past y q) (sym (landed_past p time instruction_of _ u.new u.new)) (informed_still g bs u r z o t (raised_anchor x.end.outgoing.numbers u.ack) refl))
        (own_taken K L h forth.own time bytes)
        (take_leaves K L h time bytes)

  -- a take keeps the direction in which the end sends
  pub take_sent : Among K L bytes p.written ⊎ (Among K L bytes q.written ⊎ ((f : TakeFault) × ((takes K L x l time bytes).answer ≡ Err f))) → Goal (takes K L x l time bytes)
  take_sent =
      ⊎_elim
      (λ m. let r = carried_refused forth (forth.air bytes m) l time in subst Goal (sym r.1) (refused_still r.0))
      (⊎_elim
      (λ m. taken_still (back.air bytes (among_turned K L bytes q.written m)))
      (λ e. subst Goal (sym (take_refused K L h time bytes e.0 e.1)) (refused_still e.0)))
