-- The ways that a tick and a take can go, each with what is known there.
use Rattle.std.proofs.Common.{◌≡◌, ℕ, ◌+◌, ◌<◌, ◌≤◌, max, Bool, true, false, not, ◌&&◌, eqb, leb, List, length, get_or, Ok, Err, Result, refl, subst, ⊎_elim, Some, None, Option}
use Rattle.std.proofs.lemmas.Bool.{cond_both, and_cases, leb-true, leb-false, not-true, not-false, both_ways}
use Rattle.state.specs.declared.fault.StateFault.{StateFault}
use Rattle.state.specs.Kind.{Kind}
use Rattle.window.specs.Numbers.{lookup}
use Rattle.packet.specs.declared.refusal.InstructionFault.{InstructionFault}
use Rattle.packet.specs.declared.refusal.ReadFault.{ReadFault}
use Rattle.packet.specs.declared.refusal.ReadFault.TheVariants as reading
use Rattle.packet.specs.Instructions.{Update, together, fields_of, read_instruction}
use Rattle.packet.specs.Sendings.{sent_into}
use Rattle.packet.specs.Datagrams.{Parcel, read_datagram}
use Rattle.assembler.specs.Contents.{Contents}
use Rattle.assembler.specs.Offers.{Outcome, refused, partly, wholly, offered}
use Rattle.protocol.specs.declared.answer.Ticked.TheVariants.{Idle, Sent}
use Rattle.protocol.specs.declared.answer.Taken.TheVariants.{Part, Again, Baseless}
use Rattle.protocol.specs.declared.fault.TickRefusal.{TickRefusal}
use Rattle.protocol.specs.declared.fault.TakeFault.{TakeFault}
use Rattle.protocol.specs.declared.fault.TakeFault.TheVariants as fault
use Rattle.endpoint.specs.End.{Holding, latest, both_fit}
use Rattle.endpoint.specs.Due.{due}
use Rattle.endpoint.specs.Ticking as tick
use Rattle.endpoint.specs.Ticking.{AfterTick, facts, assumed_state, new_state, update, idled, sent_end, sent_states, sent_count, ticked}
use Rattle.endpoint.specs.Taking as take
use Rattle.endpoint.specs.Taking.{AfterTake, collected, passed, landed, applied, based, instructed, assembled, received, taken}

-- bytes that are read as an instruction have its numbers together
pub read_together : (bs : List ℕ) (u : Update) → read_instruction bs ≡ Ok u → together u ≡ true
read_together bs u = at (read_instruction bs) (cond_both (leb 17 (length bs) && eqb (get_or bs 0 0) 2) _ _ Good (λ _. cond_both (together (fields_of bs)) (Ok (fields_of bs)) _ Good (λ t. t) (λ _. tt)) (λ _. tt))
  where
    Good : Result Update InstructionFault → Type 0
    Good (Ok v) = together v ≡ true
    Good (Err f) = Unit {0}

    at : (r : Result Update InstructionFault) → Good r → r ≡ Ok u → together u ≡ true
    at r g e = subst Good e g

-- whether a fault is that of a state
abbrev pub is_state : TakeFault → Bool
is_state (fault.Call f) = false
is_state (fault.Datagram f) = false
is_state (fault.Fragment f) = false
is_state (fault.Instruction f) = false
is_state (fault.State f) = true

module _ (K L : Kind) (h : Holding K L) where
  -- a call that is lent what it needs
  pub record Called (time : ℕ) : Type 0 where
    pub in_time : time ≤ latest
    pub lent : both_fit h.sent_store h.received_store ≡ true

  -- a tick that sends
  pub record Sends (time : ℕ) (out : List ℕ) : Type 0 where
    pub called : Called time
    pub room : 2224 ≤ length out
    pub is_due : due (facts K L h.end h.sent_store (max h.end.clock time)) ≡ true
    pub follows : K.follows (assumed_state K L h.end h.sent_store (max h.end.clock time)) (new_state K L h.end h.sent_store (max h.end.clock time)) ≡ true
    pub left : h.end.sendings < 1000000
    pub short : length (update K L h.end h.sent_store (max h.end.clock time)).diff ≤ 2031

  -- what a tick leaves that isn't due
  abbrev pub idle_at : ℕ → List ℕ → AfterTick K L
  idle_at now out = record { answer = Ok Idle; end = idled K L h.end h.sent_store now; sent_store = h.sent_store; buffer = out }

  -- what a tick leaves that sends
  abbrev pub sent_as : ℕ → List ℕ → AfterTick K L
  sent_as now out = record {
    answer = Ok (Sent (sent_count K L h.end h.sent_store now));
    end = sent_end K L h.end h.sent_store now;
    sent_store = sent_states K L h.end h.sent_store now;
    buffer = sent_into h.end.direction h.end.datagrams (h.end.sendings + 1) (update K L h.end h.sent_store now) out;
  }

  pub tick_ways :
      (time : ℕ) (out : List ℕ) (P : AfterTick K L → Type 0) →
      ((f : TickRefusal) → P (tick.refuses K L h out f)) →
      (Called time → due (facts K L h.end h.sent_store (max h.end.clock time)) ≡ false → P (idle_at (max h.end.clock time) out)) →
      (Sends time out → P (sent_as (max h.end.clock time) out)) →
      P (ticked K L h time out)
  tick_ways time out P away idle sends =
      cond_both (leb time latest) _ _ P
      (λ a. cond_both (both_fit h.sent_store h.received_store) _ _ P
      (λ b. cond_both (leb 2224 (length out)) _ _ P
      (λ c. cond_both (d && not (K.follows base new)) _ _ P (λ _. away _)
      (λ f. cond_both (leb 1000000 h.end.sendings) _ _ P (λ _. away _)
      (λ g. cond_both (not d) _ _ P (λ i. idle (record { in_time = leb-true time latest a; lent = b }) (not-true d i))
      (λ i. cond_both (leb (length (update K L h.end h.sent_store now).diff) 2031) _ _ P
      (λ j. sends (record {
        called = record { in_time = leb-true time latest a; lent = b };
        room = leb-true 2224 (length out) c;
        is_due = not-false d i;
        follows = onto (not-false d i) f;
        left = leb-false 1000000 h.end.sendings g;
        short = leb-true (length (update K L h.end h.sent_store now).diff) 2031 j;
      }))
      (λ _. away _)))))
      (λ _. away _))
      (λ _. away _))
      (λ _. away _)
    where
      now : ℕ
      now = max h.end.clock time

      d : Bool
      d = due (facts K L h.end h.sent_store now)

      base : K.Contents
      base = assumed_state K L h.end h.sent_store now

      new : K.Contents
      new = new_state K L h.end h.sent_store now

      onto : d ≡ true → (d && not (K.follows base new)) ≡ false → K.follows base new ≡ true
      onto y f = ⊎_elim (λ n. absurd (both_ways d n y)) (λ n. not-false (K.follows base new) n) (and_cases d (not (K.follows base new)) f)

  -- a datagram is taken that carries a piece
  pub record Carries (time : ℕ) (bytes : List ℕ) (g : Parcel) : Type 0 where
    pub called : Called time
    pub datagram : read_datagram h.end.direction bytes ≡ Ok g

  -- it makes an instruction whole whose ack is one of the numbers sent
  pub record Reads (time : ℕ) (bytes : List ℕ) (g : Parcel) (bs : List ℕ) (u : Update) : Type 0 where
    pub carries : Carries time bytes g
    pub whole : offered h.end.half g.piece ≡ wholly bs
    pub instruction : read_instruction bs ≡ Ok u
    pub numbers : together u ≡ true
    pub ack_sent : u.ack ≤ h.end.top

  pub take_paths :
      (time : ℕ) (bytes : List ℕ) (P : AfterTake K L → Type 0) →
      ((f : TakeFault) → is_state f ≡ false → P (take.refuses K L h 0 f)) →
      ((g : Parcel) (half : Contents) → Carries time bytes g → offered h.end.half g.piece ≡ partly half → P (record { answer = Ok (Part g.piece.number); end = collected K L h (max h.end.clock time) half; received_store = h.received_store })) →
      ((g : Parcel) (bs : List ℕ) (u : Update) → Reads time bytes g bs u → h.end.received.held u.new ≡ true → P (passed K L h (max h.end.clock time) u (Again u.new))) →
      ((g : Parcel) (bs : List ℕ) (u : Update) → Reads time bytes g bs u → h.end.received.held u.new ≡ false → lookup h.end.received h.received_store u.old ≡ None → P (passed K L h (max h.end.clock time) u (Baseless u.new))) →
      ((g : Parcel) (bs : List ℕ) (u : Update) (base c : L.Contents) → Reads time bytes g bs u → h.end.received.held u.new ≡ false → lookup h.end.received h.received_store u.old ≡ Some base → L.apply base u.diff ≡ Ok c → P (landed K L h (max h.end.clock time) u c)) →
      ((g : Parcel) (bs : List ℕ) (u : Update) (base : L.Contents) (f : StateFault) → Reads time bytes g bs u → h.end.received.held u.new ≡ false → lookup h.end.received h.received_store u.old ≡ Some base → L.apply base u.diff ≡ Err f → P (take.refuses K L h 0 (fault.State f))) →
      P (taken K L h time bytes)
  take_paths time bytes P away part again baseless lands fails =
      cond_both (leb time latest) _ _ P
      (λ a. cond_both (both_fit h.sent_store h.received_store) _ _ P
      (λ b. read (record { in_time = leb-true time latest a; lent = b }) (read_datagram h.end.direction bytes) refl)
      (λ _. away _ refl))
      (λ _. away _ refl)
    where
      now : ℕ
      now = max h.end.clock time

      apply : (g : Parcel) (bs : List ℕ) (u : Update) (base : L.Contents) → Reads time bytes g bs u → h.end.received.held u.new ≡ false → lookup h.end.received h.received_store u.old ≡ Some base → (r : Result L.Contents StateFault) → L.apply base u.diff ≡ r → P (applied K L h now u r)
      apply g bs u base k n l (Ok c) e = lands g bs u base c k n l e
      apply g bs u base k n l (Err f) e = fails g bs u base f k n l e

      look : (g : Parcel) (bs : List ℕ) (u : Update) → Reads time bytes g bs u → h.end.received.held u.new ≡ false → (r : Option L.Contents) → lookup h.end.received h.received_store u.old ≡ r → P (based K L h now u r)
      look g bs u k n None e = baseless g bs u k n e
      look g bs u k n (Some base) e = apply g bs u base k n e (L.apply base u.diff) refl

      instruct : (g : Parcel) (bs : List ℕ) → Carries time bytes g → offered h.end.half g.piece ≡ wholly bs → (r : Result Update InstructionFault) → read_instruction bs ≡ r → P (instructed K L h now r)
      instruct g bs k w (Err f) e = away _ refl
      instruct g bs k w (Ok u) e =
          cond_both (leb u.ack h.end.top) _ _ P
          (λ t.
          let m : Reads time bytes g bs u = record { carries = k; whole = w; instruction = e; numbers = read_together bs u e; ack_sent = leb-true u.ack h.end.top t } in
          cond_both (h.end.received.held u.new) _ _ P
          (λ y. again g bs u m y)
          (λ n. look g bs u m n (lookup h.end.received h.received_store u.old) refl))
          (λ _. away _ refl)

      assemble : (g : Parcel) → Carries time bytes g → (r : Outcome) → offered h.end.half g.piece ≡ r → P (assembled K L h now g.piece r)
      assemble g k (refused f) e = away _ refl
      assemble g k (partly half) e = part g half k e
      assemble g k (wholly bs) e = instruct g bs k e (read_instruction bs) refl

      read : Called time → (r : Result Parcel ReadFault) → read_datagram h.end.direction bytes ≡ r → P (received K L h now r)
      read k (Ok g) e = assemble g (record { called = k; datagram = e }) (offered h.end.half g.piece) refl
      read k (Err (reading.Datagram f)) e = away _ refl
      read k (Err (reading.Fragment f)) e = away _ refl

  pub take_ways :
      (time : ℕ) (bytes : List ℕ) (P : AfterTake K L → Type 0) →
      ((f : TakeFault) → P (take.refuses K L h 0 f)) →
      ((g : Parcel) (half : Contents) → Carries time bytes g → offered h.end.half g.piece ≡ partly half → P (record { answer = Ok (Part g.piece.number); end = collected K L h (max h.end.clock time) half; received_store = h.received_store })) →
      ((g : Parcel) (bs : List ℕ) (u : Update) → Reads time bytes g bs u → h.end.received.held u.new ≡ true → P (passed K L h (max h.end.clock time) u (Again u.new))) →
      ((g : Parcel) (bs : List ℕ) (u : Update) → Reads time bytes g bs u → h.end.received.held u.new ≡ false → lookup h.end.received h.received_store u.old ≡ None → P (passed K L h (max h.end.clock time) u (Baseless u.new))) →
      ((g : Parcel) (bs : List ℕ) (u : Update) (base c : L.Contents) → Reads time bytes g bs u → h.end.received.held u.new ≡ false → lookup h.end.received h.received_store u.old ≡ Some base → L.apply base u.diff ≡ Ok c → P (landed K L h (max h.end.clock time) u c)) →
      P (taken K L h time bytes)
  take_ways time bytes P away part again baseless lands = take_paths time bytes P (λ f _. away f) part again baseless lands (λ g bs u base f _ _ _ _. away (fault.State f))
