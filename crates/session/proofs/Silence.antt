-- A tick after a silence: it sends, from the acknowledged state to the last one, which is the current state while the window isn't full.
use Rattle.std.proofs.Common.{◌≡◌, ℕ, ◌+◌, ◌-◌, ◌<◌, ◌≤◌, max, true, false, cond, not, eqb, ◌⊎◌, List, length, Some, None, Ok, Err, Option, sym, refl, ap, ◌∙◌, subst, inl, inr, ⊎_elim, arith}
use Rattle.std.proofs.lemmas.Bool.{cases_Bool, cases_lt, cond-true, cond-false, cond_both, and_from, and_cases, not-false, both_ways, eq-eqb, lt-leb, not_from_false}
use Rattle.state.specs.Kind.{Kind, Exact, Itself, Onward}
use Rattle.packet.specs.Pieces.{Piece, piece, piece_count}
use Rattle.packet.specs.Instructions.{Update, instruction_bytes}
use Rattle.packet.specs.Sendings.{datagrams_of}
use Rattle.packet.proofs.Layouts.{instruction_length}
use Rattle.packet.proofs.Sendings.{datagram_read}
use Rattle.protocol.specs.declared.answer.Ticked.TheVariants.{Sent}
use Rattle.endpoint.specs.End.{Holding, latest}
use Rattle.endpoint.specs.Ticking.{AfterTick, differs, full, fixes, new_number, new_state, top_state, assumed, update, sent_count, ticked}
use Rattle.endpoint.specs.Chain.{Chained, sent_state}
use Rattle.endpoint.proofs.Ways.{Sends, sent_as}
use Rattle.endpoint.proofs.Outcomes.{sends}
use Rattle.endpoint.proofs.Ticks.{update_back}
use Rattle.endpoint.proofs.Reaching.{late_old, late_sends}
use Rattle.endpoint.proofs.Written.{datagram_at, sent_cut, contents_join}
use Rattle.session.specs.History.{Past, opposite, piece_read, piece_in, instruction_in, new_in, or_else, wrote, after_tick}
use Rattle.session.specs.Law.{Fits, TwoLeft, wrote_by}
use Rattle.session.proofs.Shared.{opposite_apart}
use Rattle.session.proofs.Invariant.{state, Joined}

module _ (K L : Kind) (x : Holding K L) (p : Past K) (y : Holding L K) (q : Past L) (j : Joined K L x p y q) where
  -- where two sendings are left, at most 999,998 were made
  pub two_left : TwoLeft p → x.end.sendings ≤ 999998
  two_left none =
      ⊎_elim
      (λ (l : x.end.sendings < 999999). omega arith)
      (λ (l : 999999 ≤ x.end.sendings).
      let s = j.sendings 999999 (omega arith) l in
      absurd (omega (arith, instruction_length s.0, ap length (sym s.1.bytes ∙ none))))
      (cases_lt x.end.sendings 999999)

  -- what x has under a number from the acknowledged to the last is what it fixed
  pub sent_is : (n : ℕ) → x.end.sent.anchor ≤ n → n ≤ x.end.top → sent_state K L x n ≡ state p n
  sent_is n a b = ap (λ r. elim r [ Some z ↦ z | None ↦ K.start ]) (j.stored n a b)

  module _ (fit : length x.received_store ≡ 16) where
    -- its states follow each other
    pub chained : Chained K L x
    chained = record {
      sent_store = j.sent_length;
      received_store = fit;
      between = λ m n a b c. subst (λ z. K.follows z (sent_state K L x n) ≡ true) (sym (sent_is m a (omega arith))) (subst (λ z. K.follows (state p m) z ≡ true) (sym (sent_is n (omega arith) c)) (j.onward m n b c));
      onward = subst (λ z. K.follows z x.end.current ≡ true) (sym (sent_is x.end.top j.own.acknowledged (omega arith))) (j.ahead x.end.top (omega arith));
    }

    module _ (exact : Exact K) (itself : Itself K) (onto : Onward K) (fits : Fits K p) (left : x.end.sendings < 1000000) (time : ℕ) (late : p.used + 3000 ≤ time) (in_time : time ≤ latest) (out : List ℕ) (room : 2224 ≤ length out) where
      -- the time that the tick uses
      abbrev pub now : ℕ
      now = max x.end.clock time

      -- the instruction that goes out
      abbrev pub goes : Update
      goes = update K L x.end x.sent_store now

      -- the number and the state that it leads to
      abbrev pub top' : ℕ
      top' = new_number K L x.end x.sent_store now

      late_clock : x.end.clock + 3000 ≤ time
      late_clock = omega (arith, j.used)

      -- it starts from the acknowledged state
      pub silence_old : assumed K L x.end x.sent_store now ≡ x.end.sent.anchor
      silence_old = late_old K L itself onto x j.own chained time late_clock

      anchor_is : sent_state K L x x.end.sent.anchor ≡ state p x.end.sent.anchor
      anchor_is = sent_is x.end.sent.anchor (omega arith) j.own.acknowledged

      top_is : top_state K L x.end x.sent_store now ≡ state p x.end.top
      top_is = sent_is x.end.top j.own.acknowledged (omega arith)

      short_to : (t : K.Contents) → length (K.diff (state p x.end.sent.anchor) t) ≤ 2031 → length (K.diff (sent_state K L x x.end.sent.anchor) t) ≤ 2031
      short_to t = subst (λ b. length (K.diff b t) ≤ 2031) (sym anchor_is)

      short_new : length (K.diff (sent_state K L x x.end.sent.anchor) (new_state K L x.end x.sent_store now)) ≤ 2031
      short_new =
          cond_both (fixes K L x.end x.sent_store now) x.end.current (top_state K L x.end x.sent_store now) (λ t. length (K.diff (sent_state K L x x.end.sent.anchor) t) ≤ 2031)
          (λ _. short_to x.end.current (subst (λ t. length (K.diff (state p x.end.sent.anchor) t) ≤ 2031) (sym j.current) (fits.ahead x.end.sent.anchor (state p x.end.sent.anchor) (j.fixed x.end.sent.anchor j.own.acknowledged))))
          (λ _. short_to (top_state K L x.end x.sent_store now) (subst (λ t. length (K.diff (state p x.end.sent.anchor) t) ≤ 2031) (sym top_is) (fits.among x.end.sent.anchor x.end.top (state p x.end.sent.anchor) (state p x.end.top) j.own.acknowledged (j.fixed x.end.sent.anchor j.own.acknowledged) (j.fixed x.end.top (omega arith)))))

      -- all that a sending needs
      pub silence_sending : Sends K L x time out
      silence_sending = late_sends K L itself onto x j.own chained time late_clock out (record { in_time = in_time; lent = and_from (eqb (length x.sent_store) 16) (eqb (length x.received_store) 16) (eq-eqb (length x.sent_store) 16 j.sent_length) (eq-eqb (length x.received_store) 16 fit) }) room left short_new

      -- so the tick sends
      pub silence_sent : ticked K L x time out ≡ sent_as K L x now out
      silence_sent = sends K L x time out silence_sending

      pub silence_sends : (ticked K L x time out).answer ≡ Ok (Sent (sent_count K L x.end x.sent_store now))
      silence_sends = ap (λ (r : AfterTick K L). r.answer) silence_sent

      -- it writes the datagrams of its instruction
      pub silence_wrote : wrote_by (ticked K L x time out) (ticked K L x time out).answer ≡ datagrams_of x.end.direction x.end.datagrams (x.end.sendings + 1) (instruction_bytes goes)
      silence_wrote = ap (λ (r : AfterTick K L). wrote_by r r.answer) silence_sent ∙ sent_cut K L x time out silence_sending

      -- its instruction leads from the acknowledged number to the last, with the newest for an ack
      pub silence_update : (goes.old ≡ x.end.sent.anchor) × ((goes.new ≡ (ticked K L x time out).end.top) × ((goes.ack ≡ x.end.newest) × (goes.throwaway ≡ x.end.sent.anchor)))
      silence_update = (silence_old, (sym (ap (λ (r : AfterTick K L). r.end.top) silence_sent), (refl, refl)))

      -- each datagram is read at the other side as its piece
      piece_back : (k : ℕ) → k < piece_count (instruction_bytes goes) → piece_in (opposite x.end.direction) (datagram_at x.end.direction x.end.datagrams (x.end.sendings + 1) (instruction_bytes goes) k) ≡ piece (x.end.sendings + 1) (instruction_bytes goes) k
      piece_back k lt = ap piece_read (datagram_read x.end.direction x.end.datagrams (x.end.sendings + 1) (instruction_bytes goes) (opposite x.end.direction) k (opposite_apart x.end.direction) (omega (arith, instruction_length goes, silence_sending.short)) lt)

      -- so they give the instruction
      pub silence_instruction : instruction_in (opposite x.end.direction) (datagrams_of x.end.direction x.end.datagrams (x.end.sendings + 1) (instruction_bytes goes)) ≡ instruction_bytes goes
      silence_instruction = contents_join x.end.direction x.end.datagrams (x.end.sendings + 1) (instruction_bytes goes) (λ d. (piece_in (opposite x.end.direction) d).contents) (λ k lt. ap (λ (g : Piece). g.contents) (piece_back k lt))

      new_is : new_in (instruction_bytes goes) ≡ top'
      new_is = ap (λ r. elim r [ Ok u ↦ u.new | Err f ↦ 0 ]) (update_back K L x.end x.sent_store now j.own)

      -- the history after it
      abbrev pub p' : Past K
      p' = after_tick p (opposite x.end.direction) time (ticked K L x time out).answer (ticked K L x time out).buffer

      pub silence_past : p' ≡ wrote p (opposite x.end.direction) (datagrams_of x.end.direction x.end.datagrams (x.end.sendings + 1) (instruction_bytes goes)) time
      silence_past =
          ap (λ (r : AfterTick K L). after_tick p (opposite x.end.direction) time r.answer r.buffer) silence_sent
          ∙ ap (λ ds. wrote p (opposite x.end.direction) ds time) (sent_cut K L x time out silence_sending)

      -- the current state stays
      pub silence_current : p'.current ≡ p.current
      silence_current = ap (λ (r : Past K). r.current) silence_past

      -- the new number is fixed as it was, or else as the current state
      pub silence_fixed : p'.fixed top' ≡ or_else (p.fixed top') p.current
      silence_fixed =
          ap (λ (r : Past K). r.fixed top') silence_past
          ∙ ap (λ bs. cond (eqb top' (new_in bs)) (or_else (p.fixed top') p.current) (p.fixed top')) silence_instruction
          ∙ cond-true (eqb top' (new_in (instruction_bytes goes))) _ _ (eq-eqb top' (new_in (instruction_bytes goes)) (sym new_is))

      abbrev some : K.Contents → Option K.Contents
      some c = Some c

      -- while the window isn't full, the last number after it stands for the current state
      pub silence_fixes : x.end.top < x.end.sent.anchor + 15 → p'.fixed (ticked K L x time out).end.top ≡ Some p.current
      silence_fixes space =
          ap (λ (r : AfterTick K L). p'.fixed r.end.top) silence_sent
          ∙ silence_fixed
          ∙ ⊎_elim fresh_one same_one (cases_Bool (fixes K L x.end x.sent_store now))
        where
          fresh_one : fixes K L x.end x.sent_store now ≡ true → or_else (p.fixed top') p.current ≡ Some p.current
          fresh_one f =
              let n : top' ≡ x.end.top + 1 = cond-true (fixes K L x.end x.sent_store now) (x.end.top + 1) x.end.top f in
              ap (λ o. or_else o p.current) (j.unfixed top' (omega arith))

          not_full : full K L x.end x.sent_store now ≡ false
          not_full = lt-leb 15 (x.end.top - x.end.sent.anchor) (omega (arith, j.own.acknowledged))

          same_one : fixes K L x.end x.sent_store now ≡ false → or_else (p.fixed top') p.current ≡ Some p.current
          same_one f =
              let n : top' ≡ x.end.top = cond-false (fixes K L x.end x.sent_store now) (x.end.top + 1) x.end.top f in
              let alike : differs K L x.end x.sent_store now ≡ false =
              ⊎_elim (λ d. d) (λ g. absurd (both_ways (not (full K L x.end x.sent_store now)) g (not_from_false (full K L x.end x.sent_store now) not_full))) (and_cases (differs K L x.end x.sent_store now) (not (full K L x.end x.sent_store now)) f) in
              let equal : x.end.current ≡ top_state K L x.end x.sent_store now = (exact x.end.current (top_state K L x.end x.sent_store now)).0 (not-false (K.same x.end.current (top_state K L x.end x.sent_store now)) alike) in
              ap (λ o. or_else o p.current) (j.fixed top' (omega arith))
              ∙ ap some (ap (state p) n ∙ sym top_is ∙ sym equal ∙ j.current)

      -- what is fixed after it: what was, and the new number if it wasn't
      pub silence_fixed_at : (n : ℕ) → p'.fixed n ≡ cond (eqb n top') (or_else (p.fixed n) p.current) (p.fixed n)
      silence_fixed_at n =
          ap (λ (r : Past K). r.fixed n) silence_past
          ∙ ap (λ bs. cond (eqb n (new_in bs)) (or_else (p.fixed n) p.current) (p.fixed n)) silence_instruction
          ∙ ap (λ m. cond (eqb n m) (or_else (p.fixed n) p.current) (p.fixed n)) new_is

      -- what was fixed stays
      pub silence_stays : (n : ℕ) (c : K.Contents) → p.fixed n ≡ Some c → p'.fixed n ≡ Some c
      silence_stays n c e =
          silence_fixed_at n
          ∙ cond_both (eqb n top') (or_else (p.fixed n) p.current) (p.fixed n) (λ o. o ≡ Some c) (λ _. ap (λ o. or_else o p.current) e) (λ _. e)

      -- what is fixed was, or it is the last and the current state
      pub silence_came : (n : ℕ) (c : K.Contents) → p'.fixed n ≡ Some c → ((p.fixed n ≡ Some c) × (n ≤ x.end.top)) ⊎ ((c ≡ p.current) × (x.end.top < n))
      silence_came n c e = by (sym (silence_fixed_at n) ∙ e)
        where
          inner : (a b : K.Contents) → some a ≡ some b → a ≡ b
          inner a b s = cc

          nothing : {Z : Type 0} (b : K.Contents) → None ≡ some b → Z
          nothing b s = absurd (let z : ◌≡◌ {A = ℕ} 0 1 = cc in omega arith)

          by : cond (eqb n top') (or_else (p.fixed n) p.current) (p.fixed n) ≡ Some c → ((p.fixed n ≡ Some c) × (n ≤ x.end.top)) ⊎ ((c ≡ p.current) × (x.end.top < n))
          by s =
              ⊎_elim
              (λ (above : x.end.top < n).
              let z : p.fixed n ≡ None = j.unfixed n above in
              ⊎_elim
              (λ b. inr (sym (inner p.current c (sym (ap (λ o. or_else o p.current) z) ∙ sym (cond-true (eqb n top') _ _ b) ∙ s)), above))
              (λ b. nothing c (sym z ∙ sym (cond-false (eqb n top') _ _ b) ∙ s))
              (cases_Bool (eqb n top')))
              (λ (below : n ≤ x.end.top). inl (j.fixed n below ∙ sym (silence_stays n (state p n) (j.fixed n below)) ∙ e, below))
              (cases_lt x.end.top n)

      -- diffs fit as before
      pub silence_fits : Fits K p'
      silence_fits = record {
        among = λ i k b t le u v.
            ⊎_elim
            (λ (m : (p.fixed i ≡ Some b) × (i ≤ x.end.top)).
            ⊎_elim
            (λ (n : (p.fixed k ≡ Some t) × (k ≤ x.end.top)). fits.among i k b t le m.0 n.0)
            (λ (n : (t ≡ p.current) × (x.end.top < k)). subst (λ z. length (K.diff b z) ≤ 2031) (sym n.0) (fits.ahead i b m.0))
            (silence_came k t v))
            (λ (m : (b ≡ p.current) × (x.end.top < i)).
            ⊎_elim
            (λ (n : (p.fixed k ≡ Some t) × (k ≤ x.end.top)). absurd (omega (arith, le, m.1, n.1)))
            (λ (n : (t ≡ p.current) × (x.end.top < k)). subst (λ z. length (K.diff b z) ≤ 2031) (sym n.0) (subst (λ z. length (K.diff z p.current) ≤ 2031) (sym m.0) fits.here))
            (silence_came k t v))
            (silence_came i b u);
        ahead = λ i b u. subst (λ z. length (K.diff b z) ≤ 2031) (sym silence_current)
            (⊎_elim
            (λ (m : (p.fixed i ≡ Some b) × (i ≤ x.end.top)). fits.ahead i b m.0)
            (λ (m : (b ≡ p.current) × (x.end.top < i)). subst (λ z. length (K.diff z p.current) ≤ 2031) (sym m.0) fits.here)
            (silence_came i b u));
        here = subst (λ z. length (K.diff z z) ≤ 2031) (sym silence_current) fits.here;
      }
