-- The datagrams of one sending, taken in order: each but the last is a part, and with the last the instruction is read.
use Rattle.std.proofs.Common.{◌≡◌, ℕ, zero, suc, ◌+◌, ◌<◌, ◌≤◌, max, Bool, true, false, cond, ◌&&◌, ◌||◌, eqb, ltb, List, length, None, Ok, sym, refl, ap, ◌∙◌, subst, ⊎_elim, arith, Some}
use Rattle.std.proofs.lemmas.Bool.{cond-true, cond-false, and_from, and_left, and_right, or_cases, or_left, or_right, cases_eq, cases_lt, eq-eqb, eqb-true, lt-ltb, le-ltb, ltb-true}
use Rattle.state.specs.Kind.{Kind}
use Rattle.window.specs.Numbers.{lookup}
use Rattle.packet.specs.declared.datagram.Direction.{Direction}
use Rattle.packet.specs.Pieces.{piece_count, piece}
use Rattle.packet.specs.Instructions.{Update, together, instruction_bytes}
use Rattle.packet.specs.Datagrams.{read_datagram}
use Rattle.packet.specs.Sendings.{parcel}
use Rattle.packet.proofs.Layouts.{instruction_length, instruction_back}
use Rattle.assembler.specs.Contents.{Contents, collecting, collects, held_of, none}
use Rattle.assembler.specs.Offers.{partly, wholly, offered}
use Rattle.assembler.specs.Assembling.{every, gathered, also}
use Rattle.assembler.proofs.Assembling.{assembles}
use Rattle.assembler.proofs.Offering.{held_own, held_other}
use Rattle.protocol.specs.declared.answer.Taken.TheVariants.{Part, Again, Baseless}
use Rattle.protocol.specs.End.{Holding}
use Rattle.protocol.specs.Taking.{collected, passed, landed, taken}
use Rattle.protocol.specs.Chain.{after_take}
use Rattle.protocol.proofs.Ways.{Called, Reads}
use Rattle.protocol.proofs.Outcomes.{takes_part, takes_again, takes_baseless, takes_land}
use Rattle.protocol.proofs.Keeping.{same_tests}

-- a test of every number below n, which one fails, or all pass
every_misses : (n : ℕ) (f : ℕ → Bool) (m : ℕ) → m < n → f m ≡ false → every n f ≡ false
every_misses zero f m lt e = absurd (omega arith)
every_misses (suc n) f m lt e =
    ⊎_elim
    (λ (q : m ≡ n). and_left (f n) (every n f) (subst (λ k. f k ≡ false) q e))
    (λ (q : m ≡ n → ⊥). and_right (f n) (every n f) (every_misses n f m (below q) e))
    (cases_eq m n)
  where
    below : (m ≡ n → ⊥) → m < n
    below q = ⊎_elim (λ (l : m < n). l) (λ (l : n ≤ m). absurd (q (omega arith))) (cases_lt m n)

every_passes : (n : ℕ) (f : ℕ → Bool) → ((m : ℕ) → m < n → f m ≡ true) → every n f ≡ true
every_passes zero f p = refl
every_passes (suc n) f p = and_from (f n) (every n f) (p n (omega arith)) (every_passes n f (λ m lt. p m (omega arith)))

-- those below k, and k
next : (k n : ℕ) → also (λ m. ltb m k) k n ≡ ltb n (k + 1)
next k n =
    same_tests (eqb n k || ltb n k) (ltb n (k + 1))
    (λ h. ⊎_elim (λ e. let q = eqb-true n k e in lt-ltb n (k + 1) (omega arith)) (λ e. let q = ltb-true n k e in lt-ltb n (k + 1) (omega arith)) (or_cases (eqb n k) (ltb n k) h))
    (λ h. let q = ltb-true n (k + 1) h in ⊎_elim (λ (l : n < k). or_right (eqb n k) (ltb n k) (lt-ltb n k l)) (λ (l : k ≤ n). or_left (eqb n k) (ltb n k) (eq-eqb n k (omega arith))) (cases_lt n k))

-- nothing is gathered below 0
gathered_none : (s : ℕ) (bs : List ℕ) → gathered s bs (λ n. ltb n 0) ≡ none
gathered_none s bs = λ i n. at n i
  where
    at : (n : ℕ) → gathered s bs (λ m. ltb m 0) n ≡ None
    at n = cond-false (ltb n (piece_count bs) && ltb n 0) _ None (and_right (ltb n (piece_count bs)) (ltb n 0) (le-ltb n 0 (omega arith)))

module _ (K L : Kind) (d : Direction) (first s : ℕ) (u : Update) (short : length u.diff ≤ 2031) where
  -- the instruction's bytes
  abbrev bytes_of : List ℕ
  bytes_of = instruction_bytes u

  -- a piece of the sending, offered where some of its pieces are held
  joins : (c : Contents) (has : ℕ → Bool) → held_of c s ≡ gathered s bytes_of has → (k : ℕ) → k < piece_count bytes_of → offered c (piece s bytes_of k) ≡ cond (every (piece_count bytes_of) (also has k)) (wholly bytes_of) (partly (collecting s (gathered s bytes_of (also has k))))
  joins = let n = instruction_length u in (assembles.0 s bytes_of (omega arith) (omega arith)).0

  -- an end that was h and has taken the first k datagrams of the sending
  pub record Midway (h h' : Holding K L) (k : ℕ) : Type 0 where
    pub now : ℕ
    pub half : Contents
    pub on : h.end.tally.clock ≤ now
    pub is : h' ≡ record { end = collected K L h.end h.received_store now half; sent_store = h.sent_store; received_store = h.received_store }
    pub held : held_of half s ≡ gathered s bytes_of (λ n. ltb n k)

  -- before the first it is h itself, if it isn't collecting pieces of that sending
  pub midway_start : (h : Holding K L) → collects h.end.incoming.half s ≡ false → Midway h h 0
  midway_start h other = record { now = h.end.tally.clock; half = h.end.incoming.half; on = omega arith; is = refl; held = held_other h.end.incoming.half s other ∙ sym (gathered_none s bytes_of) }

  module _ (h : Holding K L) (time : ℕ) (bytes : List ℕ) (k : ℕ) (below : k < piece_count bytes_of) (read : read_datagram h.end.direction bytes ≡ Ok (parcel d first s bytes_of k)) where
    -- an end with other pieces and another time
    abbrev at : ℕ → Contents → Holding K L
    at now half = record { end = collected K L h.end h.received_store now half; sent_store = h.sent_store; received_store = h.received_store }

    part_at : (now : ℕ) (half : Contents) → Called K L (at now half) time → held_of half s ≡ gathered s bytes_of (λ n. ltb n k) → k + 1 < piece_count bytes_of → taken K L (at now half) time bytes ≡ record { answer = Ok (Part k); end = collected K L h.end h.received_store (max now time) (collecting s (gathered s bytes_of (λ n. ltb n (k + 1)))); received_store = h.received_store }
    part_at now half c held more =
        takes_part K L (at now half) time bytes (parcel d first s bytes_of k) (collecting s (gathered s bytes_of (λ n. ltb n (k + 1)))) (record { called = c; datagram = read })
        (joins half (λ n. ltb n k) held k below
        ∙ cond-false (every (piece_count bytes_of) (also (λ n. ltb n k) k)) _ _ (every_misses (piece_count bytes_of) (also (λ n. ltb n k) k) (k + 1) more (next k (k + 1) ∙ le-ltb (k + 1) (k + 1) (omega arith)))
        ∙ ap (λ (has : ℕ → Bool). partly (collecting s (gathered s bytes_of has))) (λ i n. next k n i))

    reads_at : (now : ℕ) (half : Contents) → Called K L (at now half) time → held_of half s ≡ gathered s bytes_of (λ n. ltb n k) → k + 1 ≡ piece_count bytes_of → together u ≡ true → u.ack ≤ h.end.outgoing.top → Reads K L (at now half) time bytes (parcel d first s bytes_of k) bytes_of u
    reads_at now half c held end numbers sent = record {
      carries = record { called = c; datagram = read };
      whole = joins half (λ n. ltb n k) held k below ∙ cond-true (every (piece_count bytes_of) (also (λ n. ltb n k) k)) _ _ (every_passes (piece_count bytes_of) (also (λ n. ltb n k) k) (λ m lt. next k m ∙ lt-ltb m (k + 1) (omega arith)));
      instruction = instruction_back u numbers;
      numbers = numbers;
      ack_sent = sent;
    }

    module _ (h' : Holding K L) (m : Midway h h' k) (called : Called K L h' time) where
      called_at : Called K L (at m.now m.half) time
      called_at = subst (λ x. Called K L x time) m.is called

      -- with one datagram that isn't the last it has taken one more
      pub midway_more : k + 1 < piece_count bytes_of → Midway h (after_take K L h' (taken K L h' time bytes)) (k + 1)
      midway_more more = record {
        now = max m.now time;
        half = collecting s (gathered s bytes_of (λ n. ltb n (k + 1)));
        on = omega (arith, m.on);
        is = ap (λ (x : Holding K L). after_take K L x (taken K L x time bytes)) m.is ∙ ap (after_take K L (at m.now m.half)) (part_at m.now m.half called_at m.held more);
        held = held_own s (gathered s bytes_of (λ n. ltb n (k + 1)));
      }

      -- with the last the instruction is read, as if h had read it
      module _ (end : k + 1 ≡ piece_count bytes_of) (numbers : together u ≡ true) (sent : u.ack ≤ h.end.outgoing.top) where
        reads : Reads K L (at m.now m.half) time bytes (parcel d first s bytes_of k) bytes_of u
        reads = reads_at m.now m.half called_at m.held end numbers sent

        pub arrives_again : h.end.incoming.numbers.held u.new ≡ true → taken K L h' time bytes ≡ passed K L h.end h.received_store (max m.now time) u (Again u.new)
        arrives_again y = ap (λ (x : Holding K L). taken K L x time bytes) m.is ∙ takes_again K L (at m.now m.half) time bytes _ _ u reads y

        pub arrives_baseless : h.end.incoming.numbers.held u.new ≡ false → lookup h.end.incoming.numbers h.received_store u.old ≡ None → taken K L h' time bytes ≡ passed K L h.end h.received_store (max m.now time) u (Baseless u.new)
        arrives_baseless n l = ap (λ (x : Holding K L). taken K L x time bytes) m.is ∙ takes_baseless K L (at m.now m.half) time bytes _ _ u reads n l

        pub arrives_land : (base c : L.Contents) → h.end.incoming.numbers.held u.new ≡ false → lookup h.end.incoming.numbers h.received_store u.old ≡ Some base → L.apply base u.diff ≡ Ok c → taken K L h' time bytes ≡ landed K L h.end h.received_store (max m.now time) u c
        arrives_land base c n l a = ap (λ (x : Holding K L). taken K L x time bytes) m.is ∙ takes_land K L (at m.now m.half) time bytes _ _ u base c reads n l a
