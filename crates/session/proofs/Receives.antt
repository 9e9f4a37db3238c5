-- A take keeps what holds between two ends, where the end that takes receives.
use Rattle.std.proofs.Common.{◌≡◌, ℕ, ◌+◌, ◌≤◌, max, Bool, true, false, cond, ◌&&◌, eqb, ltb, leb, ◌⊎◌, List, length, replicate, None, Ok, Err, Result, sym, refl, ap, ◌∙◌, subst, ⊎_elim, arith, Some}
use Rattle.std.proofs.lemmas.Bool.{cases_Bool, cases_eq, cond-true, cond-false, and_parts, and_from, and_right, le-leb, leb-true, eq-eqb, eqb-true, both_ways}
use Rattle.std.proofs.lemmas.List.{length-replicate}
use Rattle.state.specs.Kind.{Kind, Reaches}
use Rattle.window.specs.Numbers.{Numbers, lookup}
use Rattle.window.proofs.Laws.{put_other, length_stored}
use Rattle.packet.specs.declared.datagram.Direction.{Direction}
use Rattle.packet.specs.declared.datagram.Direction.TheVariants.{TowardDepot, TowardReader}
use Rattle.packet.specs.declared.refusal.ReadFault.{ReadFault}
use Rattle.packet.specs.declared.refusal.InstructionFault.{InstructionFault}
use Rattle.packet.specs.Pieces.{piece_count}
use Rattle.packet.specs.Instructions.{Update, read_instruction}
use Rattle.packet.specs.Datagrams.{Parcel, same_direction, read_datagram}
use Rattle.packet.specs.Sendings.{parcel}
use Rattle.packet.proofs.Layouts.{instruction_length, instruction_back}
use Rattle.packet.proofs.Sendings.{datagram_read}
use Rattle.assembler.specs.Contents.{Contents, collecting, collects, held_of, none}
use Rattle.assembler.specs.Offers.{Outcome, partly, wholly, offered}
use Rattle.assembler.specs.Assembling.{every, gathered, also}
use Rattle.assembler.proofs.Assembling.{assembles}
use Rattle.assembler.proofs.Offering.{held_own, held_other}
use Rattle.protocol.specs.declared.answer.Taken.{Taken}
use Rattle.protocol.specs.declared.answer.Taken.TheVariants.{Part, Shown, Filled, Again, Baseless}
use Rattle.protocol.specs.declared.fault.TakeFault.{TakeFault}
use Rattle.endpoint.specs.End.{Holding}
use Rattle.endpoint.specs.Taking as take
use Rattle.endpoint.specs.Taking.{AfterTake, collected, kept, landed, taken}
use Rattle.endpoint.specs.Own.{Own}
use Rattle.endpoint.proofs.Ways as ways
use Rattle.endpoint.proofs.Ways.{take_ways}
use Rattle.endpoint.proofs.Keeping.{found_held, kept_is}
use Rattle.endpoint.proofs.Takes.{take_refused, landed_anchor}
use Rattle.endpoint.proofs.Honest.{Honest, HeldTrue, land_true}
use Rattle.endpoint.proofs.Halves.{own_refused}
use Rattle.session.specs.History.{Past, ack_in, piece_in, after_take}
use Rattle.session.specs.Runs.{Lent, returned, lent_to, takes, taken_to, Among}
use Rattle.session.proofs.Shared.{among_turned, opposite_apart}
use Rattle.session.proofs.Invariant.{state, Instructs, Carries, Gathers, Holds, Acks, Joined}

same_direction_lem : (d : Direction) → same_direction d d ≡ true
same_direction_lem TowardDepot = refl
same_direction_lem TowardReader = refl

-- a take writes no instruction
pub instruction_kept : {K : Kind} (q : Past K) (time : ℕ) (bs : List ℕ) (a : Result Taken TakeFault) → (after_take q time bs a).instruction ≡ q.instruction
instruction_kept q time bs (Ok (Part k)) = refl
instruction_kept q time bs (Ok (Shown n)) = refl
instruction_kept q time bs (Ok (Filled n)) = refl
instruction_kept q time bs (Ok (Again n)) = refl
instruction_kept q time bs (Ok (Baseless n)) = refl
instruction_kept q time bs (Err f) = refl

-- nothing is gathered of no numbers
gathered_nothing : (s : ℕ) (bs : List ℕ) → gathered s bs (λ n. false) ≡ none
gathered_nothing s bs = λ i n. at n i
  where
    at : (n : ℕ) → gathered s bs (λ m. false) n ≡ None
    at n = cond-false (ltb n (piece_count bs) && false) _ None (and_right (ltb n (piece_count bs)) false refl)

-- an outcome that is the whole, or a part
whole_same : (b : Bool) (r : Outcome) (bs is : List ℕ) (c : Contents) → r ≡ wholly bs → r ≡ cond b (wholly is) (partly c) → bs ≡ is
whole_same true r bs is c p q = cc
whole_same false r bs is c p q = let z : ◌≡◌ {A = ℕ} 0 1 = cc in absurd (omega arith)

part_same : (b : Bool) (r : Outcome) (c is : Contents) (bs : List ℕ) → r ≡ partly c → r ≡ cond b (wholly bs) (partly is) → c ≡ is
part_same true r c is bs p q = let z : ◌≡◌ {A = ℕ} 0 1 = cc in absurd (omega arith)
part_same false r c is bs p q = cc

-- what is read is one
parcel_same : (r : Result Parcel ReadFault) (g k : Parcel) → r ≡ Ok g → r ≡ Ok k → g ≡ k
parcel_same r g k p q = cc

update_same : (r : Result Update InstructionFault) (u v : Update) → r ≡ Ok u → r ≡ Ok v → u ≡ v
update_same r u v p q = cc

-- what an end that receives from x may become: it was y and is z
pub record Onto (K L : Kind) (x : Holding K L) (p : Past K) (y z : Holding L K) : Type 0 where
  pub stored : length z.received_store ≡ 16
  pub direction : z.end.direction ≡ y.end.direction
  pub half : (s : ℕ) → collects z.end.half s ≡ true → Gathers K L x.end p z.end s
  pub holds : (n : ℕ) → z.end.received.held n ≡ true → Holds K L x.end p z n
  pub dropped : z.end.received.anchor ≤ x.end.sent.anchor
  pub sendings : z.end.sendings ≡ y.end.sendings
  pub newest : y.end.newest ≤ z.end.newest
  pub higher : y.end.received.anchor ≤ z.end.received.anchor
  pub stays : (n : ℕ) → z.end.received.anchor ≤ n → y.end.received.held n ≡ true → z.end.received.held n ≡ true

module _ (K L : Kind) (x : Holding K L) (p : Past K) (y : Holding L K) (q : Past L) (j : Joined K L x p y q) where
  -- then all holds still
  pub joined_onto : (z : Holding L K) (r : Past L) → Onto K L x p y z → r.instruction ≡ q.instruction → Joined K L x p z r
  joined_onto z r o same = record {
    own = j.own;
    sent_length = j.sent_length;
    received_length = o.stored;
    directions = o.direction ∙ j.directions;
    current = j.current;
    acked = j.acked;
    used = j.used;
    fixed = j.fixed;
    unfixed = j.unfixed;
    onward = j.onward;
    ahead = j.ahead;
    stored = j.stored;
    sendings = j.sendings;
    air = j.air;
    half = o.half;
    holds = o.holds;
    dropped = o.dropped;
    acks = λ s some past. acks_onto s (j.acks s some (omega (arith, o.sendings)));
    confirmed = o.stays x.end.sent.anchor o.dropped j.confirmed;
  }
    where
      acks_onto : (s : ℕ) → Acks K L y.end q s → Acks K L z.end r s
      acks_onto s a = record {
        old = subst (λ (f : ℕ → List ℕ). ack_in (f s) ≤ z.end.newest) (sym same) (omega (arith, a.old, o.newest));
        kept = subst (λ (f : ℕ → List ℕ). z.end.received.anchor ≤ ack_in (f s) → z.end.received.held (ack_in (f s)) ≡ true) (sym same) (λ le. o.stays (ack_in (q.instruction s)) le (a.kept (omega (arith, o.higher))));
      }

  -- an end that has received nothing more
  alike : (z : Holding L K) → z.received_store ≡ y.received_store → z.end.received ≡ y.end.received → z.end.direction ≡ y.end.direction → z.end.sendings ≡ y.end.sendings → z.end.newest ≡ y.end.newest → ((s : ℕ) → collects z.end.half s ≡ true → Gathers K L x.end p z.end s) → Onto K L x p y z
  alike z st rec dir sen new half = record {
    stored = ap length st ∙ j.received_length;
    direction = dir;
    half = half;
    holds = λ n e.
        let g = j.holds n (sym (ap (λ (w : Numbers). w.held n) rec) ∙ e) in
        record { fixed = g.fixed; shows = ap (λ (w : Numbers). lookup w z.received_store n) rec ∙ ap (λ (ls : List K.Contents). lookup y.end.received ls n) st ∙ g.shows };
    dropped = subst (λ (w : Numbers). w.anchor ≤ x.end.sent.anchor) (sym rec) j.dropped;
    sendings = sen;
    newest = omega arith;
    higher = subst (λ (w : Numbers). y.end.received.anchor ≤ w.anchor) (sym rec) (omega arith);
    stays = λ n le e. ap (λ (w : Numbers). w.held n) rec ∙ e;
  }

  -- the same end with other stores, of which that of received states is the same
  same_end : (ks : List L.Contents) (ls : List K.Contents) → ls ≡ y.received_store → Onto K L x p y (record { end = y.end; sent_store = ks; received_store = ls })
  same_end ks ls st = alike (record { end = y.end; sent_store = ks; received_store = ls }) st refl refl refl refl j.half

module _ (K L : Kind) (reaches : Reaches K) (x : Holding K L) (p : Past K) (h : Holding L K) (q : Past L) (j : Joined K L x p h q) (o : Own L K h.end) where
  -- what a take leaves
  abbrev left : AfterTake L K → Holding L K
  left r = record { end = r.end; sent_store = h.sent_store; received_store = r.received_store }

  -- a sending of x is between fixed states
  honest : (s : ℕ) (u : Update) → Instructs K L x.end p s u → Honest K (state p) u
  honest s u i =
      let t = and_parts (leb u.throwaway u.old) (leb u.old u.new && leb u.new (u.throwaway + 15)) i.in_order in
      let w = and_parts (leb u.old u.new) (leb u.new (u.throwaway + 15)) t.1 in
      record { follows = j.onward u.old u.new (leb-true u.old u.new w.0) i.reached; diff = i.steps; short = i.short }

  held_true : HeldTrue L K h (state p)
  held_true n e = (j.holds n e).shows

  -- a state of x's that lands
  module _ (s now : ℕ) (u : Update) (i : Instructs K L x.end p s u) (base c : K.Contents) (new : h.end.received.held u.new ≡ false) (found : lookup h.end.received h.received_store u.old ≡ Some base) (leads : K.apply base u.diff ≡ Ok c) where
    -- the end with it
    abbrev with_new : Holding L K
    with_new = left (landed L K h now u c)

    anchor_is : with_new.end.received.anchor ≡ max h.end.received.anchor u.throwaway
    anchor_is = landed_anchor L K h now o j.received_length u i.in_order (found_held h.end.received h.received_store u.old base found) new c

    -- the other numbers are held from the new anchor on
    others : (n : ℕ) → (n ≡ u.new → ⊥) → with_new.end.received.held n ≡ (leb (max h.end.received.anchor u.throwaway) n && h.end.received.held n)
    others n ne = put_other (kept L K h now u) u.new n ne ∙ ap (λ (w : Numbers). w.held n) (kept_is L K h now u)

    pub land_holds : (n : ℕ) → with_new.end.received.held n ≡ true → Holds K L x.end p with_new n
    land_holds n e = record {
      fixed = ⊎_elim
          (λ (is : n ≡ u.new). subst (λ m. m ≤ x.end.top) (sym is) i.reached)
          (λ (ne : n ≡ u.new → ⊥). (j.holds n (and_parts (leb (max h.end.received.anchor u.throwaway) n) (h.end.received.held n) (sym (others n ne) ∙ e)).1).fixed)
          (cases_eq n u.new);
      shows = land_true L K reaches (state p) h o j.received_length held_true now u i.in_order base c (honest s u i) new found leads n e;
    }

    pub land_dropped : with_new.end.received.anchor ≤ x.end.sent.anchor
    land_dropped = omega (arith, anchor_is, j.dropped, i.needless)

    pub land_stays : (n : ℕ) → with_new.end.received.anchor ≤ n → h.end.received.held n ≡ true → with_new.end.received.held n ≡ true
    land_stays n le e =
        others n (λ is. both_ways (h.end.received.held u.new) new (subst (λ m. h.end.received.held m ≡ true) is e))
        ∙ and_from (leb (max h.end.received.anchor u.throwaway) n) (h.end.received.held n) (le-leb (max h.end.received.anchor u.throwaway) n (omega (arith, anchor_is))) e

    pub land_onto : Onto K L x p h with_new
    land_onto = record {
      stored = length_stored (kept L K h now u) h.received_store u.new c ∙ j.received_length;
      direction = refl;
      half = λ t e. absurd (both_ways false refl e);
      holds = land_holds;
      dropped = land_dropped;
      sendings = refl;
      newest = omega arith;
      higher = omega (arith, anchor_is);
      stays = land_stays;
    }

  -- a datagram of x's
  module _ (time : ℕ) (bytes : List ℕ) (c : Carries K L x.end p bytes) where
    abbrev s : ℕ
    s = c.sending

    abbrev whole : List ℕ
    whole = p.instruction c.sending

    -- its sending's instruction
    told : (u : Update) × Instructs K L x.end p c.sending u
    told = j.sendings c.sending c.some c.past

    whole_length : length whole ≡ 17 + length told.0.diff
    whole_length = ap length told.1.bytes ∙ instruction_length told.0

    -- it is read as the piece that it is
    pub piece_read_lem : read_datagram h.end.direction bytes ≡ Ok (parcel x.end.direction c.from s whole c.piece)
    piece_read_lem =
        ap (read_datagram h.end.direction) c.is
        ∙ datagram_read x.end.direction c.from s whole h.end.direction c.piece (ap (same_direction x.end.direction) j.directions ∙ opposite_apart x.end.direction) (omega (arith, whole_length, told.1.short)) c.one_of

    -- which pieces of its sending are held
    known : (has : ℕ → Bool) × (held_of h.end.half s ≡ gathered s whole has)
    known =
        ⊎_elim
        (λ e. let g = j.half s e in (g.has, g.are))
        (λ e. ((λ n. false), held_other h.end.half s e ∙ sym (gathered_nothing s whole)))
        (cases_Bool (collects h.end.half s))

    abbrev more : ℕ → Bool
    more = also known.0 c.piece

    offered_is : (g : Parcel) → ways.Carries L K h time bytes g → offered h.end.half g.piece ≡ cond (every (piece_count whole) more) (wholly whole) (partly (collecting s (gathered s whole more)))
    offered_is g r =
        ap (λ (z : Parcel). offered h.end.half z.piece) (parcel_same (read_datagram h.end.direction bytes) g (parcel x.end.direction c.from s whole c.piece) r.datagram piece_read_lem)
        ∙ (assembles.0 s whole (omega (arith, whole_length)) (omega (arith, whole_length, told.1.short))).0 h.end.half known.0 known.1 c.piece c.one_of

    -- an instruction that it makes whole is its sending's
    read_is : (g : Parcel) (bs : List ℕ) (u : Update) → ways.Reads L K h time bytes g bs u → u ≡ told.0
    read_is g bs u r =
        let same : bs ≡ whole = whole_same (every (piece_count whole) more) (offered h.end.half g.piece) bs whole (collecting s (gathered s whole more)) r.whole (offered_is g r.carries) in
        update_same (read_instruction bs) u told.0 r.instruction (ap read_instruction (same ∙ told.1.bytes) ∙ instruction_back told.0 told.1.in_order)

    reads_told : (g : Parcel) (bs : List ℕ) (u : Update) → ways.Reads L K h time bytes g bs u → Instructs K L x.end p s u
    reads_told g bs u r = subst (λ v. Instructs K L x.end p s v) (sym (read_is g bs u r)) told.1

    -- a part is held with those that were
    part_gathers : (now : ℕ) (half : Contents) → half ≡ collecting s (gathered s whole more) → (t : ℕ) → collects half t ≡ true → Gathers K L x.end p (collected L K h now half) t
    part_gathers now half is t e =
        let same : s ≡ t = eqb-true s t (sym (ap (λ (z : Contents). collects z t) is) ∙ e) in
        record {
          some = subst (λ n. 1 ≤ n) same c.some;
          past = subst (λ n. n ≤ x.end.sendings) same c.past;
          has = more;
          are = ap (λ (z : Contents). held_of z t) is ∙ subst (λ n. held_of (collecting s (gathered s whole more)) n ≡ gathered n (p.instruction n) more) same (held_own s (gathered s whole more));
        }

    pub take_onto : Onto K L x p h (left (taken L K h time bytes))
    take_onto =
        take_ways L K h time bytes (λ r. Onto K L x p h (left r))
        (λ f. same_end K L x p h q j h.sent_store h.received_store refl)
        (λ g half r e. alike K L x p h q j (left (record { answer = Ok (Part g.piece.number); end = collected L K h (max h.end.clock time) half; received_store = h.received_store })) refl refl refl refl refl (part_gathers (max h.end.clock time) half (part_same (every (piece_count whole) more) (offered h.end.half g.piece) half (collecting s (gathered s whole more)) whole e (offered_is g r))))
        (λ g bs u r y. passes u (Again u.new))
        (λ g bs u r n m. passes u (Baseless u.new))
        (λ g bs u base d r n l a. land_onto s (max h.end.clock time) u (reads_told g bs u r) base d n l a)
      where
        passes : (u : Update) (t : Taken) → Onto K L x p h (left (take.passed L K h (max h.end.clock time) u t))
        passes u t = alike K L x p h q j (left (take.passed L K h (max h.end.clock time) u t)) refl refl refl refl refl (λ n e. absurd (both_ways false refl e))

module _ (K L : Kind) (reaches : Reaches K) (x : Holding K L) (p : Past K) (y : Holding L K) (q : Past L) (forth : Joined K L x p y q) (back : Joined L K y q x p) (l : Lent) (time : ℕ) (bytes : List ℕ) where
  -- what a take's answer makes of the history
  abbrev after : AfterTake L K → Past L
  after r = after_take q time (p.instruction (piece_in y.end.direction bytes).sending) r.answer

  -- what is to hold after it
  abbrev Goal : AfterTake L K → Type 0
  Goal r = Joined K L x p (taken_to L K y l r) (after r)

  -- a refusal alters nothing, whatever was lent
  refusal : (f : TakeFault) → Goal (take.refuses L K (lent_to L K y l) 0 f)
  refusal f = joined_onto K L x p y q forth (taken_to L K y l r) (after r) (same_end K L x p y q forth y.sent_store (returned l.received r.received_store y.received_store) store) refl
    where
      r : AfterTake L K
      r = take.refuses L K (lent_to L K y l) 0 f

      store : returned l.received r.received_store y.received_store ≡ y.received_store
      store =
          ⊎_elim
          (λ e. cond-true (eqb l.received 16) r.received_store y.received_store e ∙ cond-true (eqb l.received 16) y.received_store (replicate l.received K.start) e)
          (λ e. cond-false (eqb l.received 16) r.received_store y.received_store e)
          (cases_Bool (eqb l.received 16))

  -- a store of another length isn't one that a call needs
  unlent : eqb l.received 16 ≡ false → ways.Called L K (lent_to L K y l) time → ⊥
  unlent e c =
      let st = cond-false (eqb l.received 16) y.received_store (replicate l.received K.start) e in
      let fit = eqb-true (length (lent_to L K y l).received_store) 16 (and_parts (eqb (length (lent_to L K y l).sent_store) 16) (eqb (length (lent_to L K y l).received_store) 16) c.lent).1 in
      both_ways (eqb l.received 16) e (eq-eqb l.received 16 (sym (ap length st ∙ length-replicate l.received K.start) ∙ fit))

  -- a datagram of x's
  theirs : Carries K L x.end p bytes → Goal (takes L K y l time bytes)
  theirs c = ⊎_elim fits other (cases_Bool (eqb l.received 16))
    where
      h : Holding L K
      h = lent_to L K y l

      r : AfterTake L K
      r = taken L K h time bytes

      other : eqb l.received 16 ≡ false → Goal r
      other e =
          take_ways L K h time bytes Goal
          refusal
          (λ g half k w. absurd (unlent e k.called))
          (λ g bs u k w. absurd (unlent e k.carries.called))
          (λ g bs u k n m. absurd (unlent e k.carries.called))
          (λ g bs u base d k n m a. absurd (unlent e k.carries.called))

      fits : eqb l.received 16 ≡ true → Goal r
      fits e =
          let at : Joined K L x p h q = joined_onto K L x p y q forth h q (same_end K L x p y q forth h.sent_store h.received_store (cond-true (eqb l.received 16) y.received_store (replicate l.received K.start) e)) refl in
          let z : Holding L K = record { end = r.end; sent_store = h.sent_store; received_store = r.received_store } in
          let then : Joined K L x p z (after r) = joined_onto K L x p h q at z (after r) (take_onto K L reaches x p h q at back.own time bytes c) (instruction_kept q time (p.instruction (piece_in y.end.direction bytes).sending) r.answer) in
          joined_onto K L x p z (after r) then (taken_to L K y l r) (after r) (same_end K L x p z (after r) then y.sent_store (returned l.received r.received_store y.received_store) (cond-true (eqb l.received 16) r.received_store y.received_store e)) refl

  -- a datagram of y's own
  ours : Carries L K y.end q bytes → Goal (takes L K y l time bytes)
  ours c =
      let told = back.sendings c.sending c.some c.past in
      let long = ap length told.1.bytes ∙ instruction_length told.0 in
      let away = own_refused L K (lent_to L K y l) time c.from c.sending (q.instruction c.sending) c.piece y.end.direction (same_direction_lem y.end.direction) (omega (arith, long, told.1.short)) c.one_of in
      subst Goal (sym (ap (taken L K (lent_to L K y l) time) c.is ∙ away.1)) (refusal away.0)

  -- a take keeps the direction in which its end receives
  pub take_received :
      Among L K bytes q.written ⊎ (Among L K bytes p.written ⊎ ((f : TakeFault) × ((takes L K y l time bytes).answer ≡ Err f))) →
      Joined K L x p (taken_to L K y l (takes L K y l time bytes)) (after_take q time (p.instruction (piece_in y.end.direction bytes).sending) (takes L K y l time bytes).answer)
  take_received supposed =
      ⊎_elim
      (λ m. ours (back.air bytes m))
      (⊎_elim
      (λ m. theirs (forth.air bytes (among_turned L K bytes p.written m)))
      (λ f. subst Goal (sym (take_refused L K (lent_to L K y l) time bytes f.0 f.1)) (refusal f.0)))
      supposed
