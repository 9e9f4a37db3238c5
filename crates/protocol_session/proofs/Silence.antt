-- A tick after a silence: it sends, from the acknowledged state to the last one, which is the current state while the window isn't full.
use Rattle.std.proofs.Common.{◌≡◌, ℕ, ◌+◌, ◌-◌, ◌<◌, ◌≤◌, max, true, false, not, eqb, ◌⊎◌, List, length, Some, None, Option, sym, refl, ap, ◌∙◌, subst, inl, inr, ⊎_elim, arith}
use Rattle.std.proofs.lemmas.Bool.{cases_Bool, cases_lt, cond-true, cond-false, cond_both, and_from, and_cases, not-false, both_ways, eq-eqb, lt-leb, not_from_false}
use Rattle.state.specs.Kind.{Kind, Exact, Itself, Onward}
use Rattle.protocol.specs.End.{Outgoing, Holding, latest}
use Rattle.protocol.specs.Ticking.{AfterTick, full, top_state, differs, fixes, new_number, new_state, ticked}
use Rattle.protocol.specs.Chain.{Chained, sent_state}
use Rattle.protocol.proofs.Ways.{Sends, sent_as}
use Rattle.protocol.proofs.Outcomes.{sends}
use Rattle.protocol.proofs.Reaching.{late_old, late_sends}
use Rattle.protocol_session.specs.History.{Past, or_else, noted_tick}
use Rattle.protocol_session.specs.Law.{DiffsFit, wrote_by}
use Rattle.protocol_session.proofs.Invariant.{state, Joined}
use Rattle.protocol_session.proofs.Writes.{goes, goes_as, sent_past, wrote_as, wrote_is}

module _ (K L : Kind) (x : Holding K L) (p : Past K) (y : Holding L K) (q : Past L) (j : Joined K L x p y q) where
  abbrev o : Outgoing
  o = x.end.outgoing

  -- what x has under a number from the acknowledged to the last is what it fixed
  sent_is : (n : ℕ) → o.numbers.anchor ≤ n → n ≤ o.top → sent_state K L x n ≡ state p n
  sent_is n a b = ap (λ r. elim r [ Some z ↦ z | None ↦ K.start ]) (j.stored n a b)

  -- as the acknowledged and the last
  anchor_is : sent_state K L x o.numbers.anchor ≡ state p o.numbers.anchor
  anchor_is = sent_is o.numbers.anchor (omega arith) j.own.acknowledged

  top_is : top_state K o x.sent_store ≡ state p o.top
  top_is = sent_is o.top j.own.acknowledged (omega arith)

  -- a history after a sending
  module _ (time : ℕ) where
    -- the number that the sending leads to
    abbrev top' : ℕ
    top' = new_number K x.end x.sent_store

    -- the history
    abbrev p' : Past K
    p' = sent_past K L x p time

    abbrev some : K.Contents → Option K.Contents
    some c = Some c

    -- while the window isn't full, the new number stands for the current state
    pub silence_fixes : Exact K → o.top < o.numbers.anchor + 15 → p'.fixed top' ≡ Some p.current
    silence_fixes exact space =
        cond-true (eqb top' top') _ _ (eq-eqb top' top' refl)
        ∙ ⊎_elim fresh_one same_one (cases_Bool (fixes K x.end x.sent_store))
      where
        fresh_one : fixes K x.end x.sent_store ≡ true → or_else (p.fixed top') p.current ≡ Some p.current
        fresh_one f =
            let n : top' ≡ o.top + 1 = cond-true (fixes K x.end x.sent_store) (o.top + 1) o.top f in
            ap (λ z. or_else z p.current) (j.unfixed top' (omega arith))

        not_full : full o ≡ false
        not_full = lt-leb 15 (o.top - o.numbers.anchor) (omega (arith, j.own.acknowledged))

        same_one : fixes K x.end x.sent_store ≡ false → or_else (p.fixed top') p.current ≡ Some p.current
        same_one f =
            let n : top' ≡ o.top = cond-false (fixes K x.end x.sent_store) (o.top + 1) o.top f in
            let same : differs K x.end x.sent_store ≡ false = ⊎_elim (λ d. d) (λ g. absurd (both_ways (not (full o)) g (not_from_false (full o) not_full))) (and_cases (differs K x.end x.sent_store) (not (full o)) f) in
            let equal : x.end.current ≡ top_state K o x.sent_store = (exact x.end.current (top_state K o x.sent_store)).0 (not-false (K.same x.end.current (top_state K o x.sent_store)) same) in
            ap (λ z. or_else z p.current) (j.fixed top' (omega arith))
            ∙ ap some (ap (state p) n ∙ sym top_is ∙ sym equal ∙ j.current)

    -- what is fixed was, or it is above the last and the current state
    silence_came : (n : ℕ) (c : K.Contents) → p'.fixed n ≡ Some c → ((p.fixed n ≡ Some c) × (n ≤ o.top)) ⊎ ((c ≡ p.current) × (o.top < n))
    silence_came n c e = ⊎_elim above below (cases_lt o.top n)
      where
        inner : (a b : K.Contents) → some a ≡ some b → a ≡ b
        inner a b s = cc

        nothing : {Z : Type 0} (b : K.Contents) → None ≡ some b → Z
        nothing b s = absurd (let z : ◌≡◌ {A = ℕ} 0 1 = cc in omega arith)

        above : o.top < n → ((p.fixed n ≡ Some c) × (n ≤ o.top)) ⊎ ((c ≡ p.current) × (o.top < n))
        above lt =
            let z : p.fixed n ≡ None = j.unfixed n lt in
            ⊎_elim
            (λ b. inr (sym (inner p.current c (sym (ap (λ r. or_else r p.current) z) ∙ sym (cond-true (eqb n top') _ _ b) ∙ e)), lt))
            (λ b. nothing c (sym z ∙ sym (cond-false (eqb n top') _ _ b) ∙ e))
            (cases_Bool (eqb n top'))

        below : n ≤ o.top → ((p.fixed n ≡ Some c) × (n ≤ o.top)) ⊎ ((c ≡ p.current) × (o.top < n))
        below le =
            let was = j.fixed n le in
            inl (was ∙ sym (cond_both (eqb n top') (or_else (p.fixed n) p.current) (p.fixed n) (λ r. r ≡ Some (state p n)) (λ _. ap (λ r. or_else r p.current) was) (λ _. was)) ∙ e, le)

    -- diffs fit as before
    pub silence_fits : DiffsFit K p → DiffsFit K p'
    silence_fits fits = record {
      among = λ i k b t le u v.
          ⊎_elim
          (λ (m : (p.fixed i ≡ Some b) × (i ≤ o.top)).
          ⊎_elim
          (λ (n : (p.fixed k ≡ Some t) × (k ≤ o.top)). fits.among i k b t le m.0 n.0)
          (λ (n : (t ≡ p.current) × (o.top < k)). subst (λ z. length (K.diff b z) ≤ 2031) (sym n.0) (fits.ahead i b m.0))
          (silence_came k t v))
          (λ (m : (b ≡ p.current) × (o.top < i)).
          ⊎_elim
          (λ (n : (p.fixed k ≡ Some t) × (k ≤ o.top)). absurd (omega (arith, le, m.1, n.1)))
          (λ (n : (t ≡ p.current) × (o.top < k)). subst (λ z. length (K.diff b z) ≤ 2031) (sym n.0) (subst (λ z. length (K.diff z p.current) ≤ 2031) (sym m.0) fits.here))
          (silence_came k t v))
          (silence_came i b u);
      ahead = λ i b u.
          ⊎_elim
          (λ (m : (p.fixed i ≡ Some b) × (i ≤ o.top)). fits.ahead i b m.0)
          (λ (m : (b ≡ p.current) × (o.top < i)). subst (λ z. length (K.diff z p.current) ≤ 2031) (sym m.0) fits.here)
          (silence_came i b u);
      here = fits.here;
    }

  -- a tick at least 3,000 above every time that x has used
  module _ (fit : length x.received_store ≡ 16) (itself : Itself K) (onto : Onward K) (fits : DiffsFit K p) (left : p.sendings < 1000000) (time : ℕ) (late : p.used + 3000 ≤ time) (in_time : time ≤ latest) (out : List ℕ) (room : 2224 ≤ length out) where
    -- the time that it uses
    abbrev now : ℕ
    now = max x.end.tally.clock time

    -- the states sent follow each other
    chained : Chained K L x
    chained = record {
      sent_store = j.sent_length;
      received_store = fit;
      between = λ m n a b c. subst (λ z. K.follows z (sent_state K L x n) ≡ true) (sym (sent_is m a (omega arith))) (subst (λ z. K.follows (state p m) z ≡ true) (sym (sent_is n (omega arith) c)) (j.onward m n b c));
      onward = subst (λ z. K.follows z x.end.current ≡ true) (sym top_is) (subst (λ z. K.follows (state p o.top) z ≡ true) (sym j.current) (j.ahead o.top (omega arith)));
    }

    late_clock : x.end.tally.clock + 3000 ≤ time
    late_clock = omega (arith, j.used)

    -- it starts from the acknowledged state
    pub silence_old : (goes K L x p time).old ≡ o.numbers.anchor
    silence_old = late_old K L itself onto x j.own chained time late_clock

    short_to : (t : K.Contents) → length (K.diff (state p o.numbers.anchor) t) ≤ 2031 → length (K.diff (sent_state K L x o.numbers.anchor) t) ≤ 2031
    short_to t = subst (λ b. length (K.diff b t) ≤ 2031) (sym anchor_is)

    short_new : length (K.diff (sent_state K L x o.numbers.anchor) (new_state K x.end x.sent_store)) ≤ 2031
    short_new =
        let first = j.fixed o.numbers.anchor j.own.acknowledged in
        cond_both (fixes K x.end x.sent_store) x.end.current (top_state K o x.sent_store) (λ t. length (K.diff (sent_state K L x o.numbers.anchor) t) ≤ 2031)
        (λ _. short_to x.end.current (subst (λ t. length (K.diff (state p o.numbers.anchor) t) ≤ 2031) (sym j.current) (fits.ahead o.numbers.anchor (state p o.numbers.anchor) first)))
        (λ _. short_to (top_state K o x.sent_store) (subst (λ t. length (K.diff (state p o.numbers.anchor) t) ≤ 2031) (sym top_is) (fits.among o.numbers.anchor o.top (state p o.numbers.anchor) (state p o.top) j.own.acknowledged first (j.fixed o.top (omega arith)))))

    -- it has all that a sending needs
    silence_sending : Sends K L x time out
    silence_sending =
        late_sends K L itself onto x j.own chained time late_clock out
        (record { in_time = in_time; lent = and_from (eqb (length x.sent_store) 16) (eqb (length x.received_store) 16) (eq-eqb (length x.sent_store) 16 j.sent_length) (eq-eqb (length x.received_store) 16 fit) })
        room (omega (arith, j.counted)) short_new

    -- so it sends
    pub silence_sent : ticked K L x time out ≡ sent_as K L x now out
    silence_sent = sends K L x time out silence_sending

    -- it writes the datagrams of its instruction
    pub silence_wrote : wrote_by (ticked K L x time out) (ticked K L x time out).answer ≡ goes_as K L x p time
    silence_wrote = ap (λ (r : AfterTick K). wrote_by r r.answer) silence_sent ∙ wrote_as K L x p time out j.own j.direction j.counted silence_sending

    -- the history after it
    pub silence_past : noted_tick p time (ticked K L x time out).answer (ticked K L x time out).buffer ≡ sent_past K L x p time
    silence_past = ap (λ (r : AfterTick K). noted_tick p time r.answer r.buffer) silence_sent ∙ wrote_is K L x p time out j.own j.direction j.counted silence_sending
