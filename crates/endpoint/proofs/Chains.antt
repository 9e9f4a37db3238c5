-- Every call keeps the states that an end has sent in a chain.
use Rattle.std.proofs.Common.{◌≡◌, ℕ, ◌+◌, ◌<◌, ◌≤◌, max, Bool, true, false, not, ◌&&◌, eqb, leb, List, [], ◌∷◌, length, set, IfOk, Ok, Err, Result, sym, refl, ap, ◌∙◌, subst, ⊎_elim, arith, length-set, Some, None, Option}
use Rattle.std.proofs.lemmas.Bool.{cases_lt, cases_eq, cond_both, and_parts, and_right, eqb-true, both_ways, not_from_true}
use Rattle.std.proofs.lemmas.Result.{IfOk-at_ok}
use Rattle.state.specs.Kind.{Kind, Itself, Onward}
use Rattle.window.specs.Numbers.{empty, adding}
use Rattle.packet.specs.declared.datagram.Direction.{Direction}
use Rattle.protocol.specs.declared.answer.Ticked.{Ticked}
use Rattle.protocol.specs.declared.fault.TickRefusal.{TickRefusal}
use Rattle.protocol.specs.declared.fault.CallRefusal.TheVariants.{LateTime, WrongStore}
use Rattle.protocol.specs.declared.fault.TickRefusal.TheVariants.{Call, ShortBuffer, NotFollowing, NoSendingsLeft, LongDiff}
use Rattle.endpoint.specs.End.{End, Holding, latest, both_fit, state_at, fresh, opened, changed}
use Rattle.endpoint.specs.Due.{due}
use Rattle.endpoint.specs.Ticking.{AfterTick, facts, fixes, new_number, new_state, top_state, assumed, assumed_state, update, ticked}
use Rattle.endpoint.specs.Taking.{AfterTake, taken}
use Rattle.endpoint.specs.Own.{Own}
use Rattle.endpoint.specs.Chain.{after_change, after_tick, after_take, sent_state, Chained, Follows}
use Rattle.endpoint.proofs.Ways.{sent_as, tick_ways}
use Rattle.endpoint.proofs.Keeping.{own_taken}
use Rattle.endpoint.proofs.Ticks.{update_numbers, new_state_lem, old_states, sent_length, sent_anchor}
use Rattle.endpoint.proofs.Takes.{TakeLeaves, take_leaves}

module _ (K L : Kind) (itself : Itself K) (onto : Onward K) where
  -- what a look-up gives, and the start where there is nothing
  abbrev or_start : Option K.Contents → K.Contents
  or_start r = elim r [ Some x ↦ x | None ↦ K.start ]

  chained_fresh : (d : Direction) (time : ℕ) (ks : List K.Contents) (ls : List L.Contents) → length ks ≡ 16 → length ls ≡ 16 → Chained K L (record { end = fresh K L d time; sent_store = set ks 0 K.start; received_store = set ls 0 L.start })
  chained_fresh d time ks ls a b = record {
    sent_store = simp length-set a;
    received_store = simp length-set b;
    between = λ m n p q r. let s : m ≡ n = omega arith in subst (λ k. K.follows (at m) (at k) ≡ true) s (itself (at m));
    onward = first ks;
  }
    where
      at : ℕ → K.Contents
      at n = state_at K (adding (empty 16) 0) (set ks 0 K.start) n

      first : (xs : List K.Contents) → K.follows (state_at K (adding (empty 16) 0) (set xs 0 K.start) 0) K.start ≡ true
      first [] = itself K.start
      first (x ∷ xs) = itself K.start

  pub chained_opened : (d : Direction) (time : ℕ) (ks : List K.Contents) (ls : List L.Contents) (h : Holding K L) → opened K L d time ks ls ≡ Ok h → Chained K L h
  chained_opened d time ks ls h eq =
      IfOk-at_ok (λ (x : Holding K L). Chained K L x) eq
      (cond_both (leb time latest) _ _ (λ r. IfOk r (λ x. Chained K L x))
      (λ _. cond_both (both_fit ks ls) _ _ (λ r. IfOk r (λ x. Chained K L x))
      (λ f. let p = and_parts (eqb (length ks) 16) (eqb (length ls) 16) f in chained_fresh d time ks ls (eqb-true (length ks) 16 p.0) (eqb-true (length ls) 16 p.1))
      (λ _. tt))
      (λ _. tt))

  module _ (h : Holding K L) (c : Chained K L h) where
    pub chained_changed : (target : K.Contents) (e : End K L) → changed K L h.end target ≡ Ok e → Chained K L (after_change K L h e)
    chained_changed target e eq =
        IfOk-at_ok (λ (x : End K L). Chained K L (after_change K L h x)) eq
        (cond_both (K.follows h.end.current target) _ _ (λ r. IfOk r (λ x. Chained K L (after_change K L h x)))
        (λ f. record {
          sent_store = c.sent_store;
          received_store = c.received_store;
          between = c.between;
          onward = onto (sent_state K L h h.end.top) h.end.current target c.onward f;
        })
        (λ _. tt))

    module _ (o : Own K L h.end) where
      -- the new state of a sending follows every state sent
      pub new_follows : (now n : ℕ) → h.end.sent.anchor ≤ n → n ≤ h.end.top → K.follows (sent_state K L h n) (new_state K L h.end h.sent_store now) ≡ true
      new_follows now n a b =
          let last = c.between n h.end.top a b (omega arith) in
          cond_both (fixes K L h.end h.sent_store now) h.end.current (top_state K L h.end h.sent_store now) (λ x. K.follows (sent_state K L h n) x ≡ true)
          (λ _. onto (sent_state K L h n) (sent_state K L h h.end.top) h.end.current last c.onward)
          (λ _. last)

      pub assumed_follows : (now : ℕ) → K.follows (assumed_state K L h.end h.sent_store now) (new_state K L h.end h.sent_store now) ≡ true
      assumed_follows now = let u = update_numbers K L h.end h.sent_store now o in new_follows now (assumed K L h.end h.sent_store now) u.0 u.1.0

      chained_sent : (now : ℕ) (out : List ℕ) → Chained K L (after_tick K L h (sent_as K L h now out))
      chained_sent now out =
          let u = update_numbers K L h.end h.sent_store now o in
          let same = sent_anchor K L h.end h.sent_store now o in
          record {
            sent_store = sent_length K L h.end h.sent_store now o ∙ c.sent_store;
            received_store = c.received_store;
            between = λ m n p q r. ⊎_elim
                (λ (le : n < h.end.top + 1). subst (λ x. K.follows x (after n) ≡ true) (sym (was m (omega arith))) (subst (λ x. K.follows (sent_state K L h m) x ≡ true) (sym (was n (omega arith))) (c.between m n (omega arith) q (omega arith))))
                (λ (gt : h.end.top + 1 ≤ n). let top : n ≡ new_number K L h.end h.sent_store now = omega arith in ⊎_elim
                (λ (e : m ≡ n). subst (λ k. K.follows (after m) (after k) ≡ true) e (itself (after m)))
                (λ (ne : m ≡ n → ⊥). subst (λ k. K.follows (after m) (after k) ≡ true) (sym top) (subst (λ x. K.follows x (after (new_number K L h.end h.sent_store now)) ≡ true) (sym (was m (omega arith))) (subst (λ x. K.follows (sent_state K L h m) x ≡ true) (sym is) (new_follows now m (omega arith) (omega arith)))))
                (cases_eq m n))
                (cases_lt n (h.end.top + 1));
            onward = subst (λ x. K.follows x h.end.current ≡ true) (sym is) (cond_both (fixes K L h.end h.sent_store now) h.end.current (top_state K L h.end h.sent_store now) (λ x. K.follows x h.end.current ≡ true) (λ _. itself h.end.current) (λ _. c.onward));
          }
        where
          after : ℕ → K.Contents
          after n = sent_state K L (after_tick K L h (sent_as K L h now out)) n

          was : (n : ℕ) → n ≤ h.end.top → after n ≡ sent_state K L h n
          was n le = ap or_start (old_states K L h.end h.sent_store now o n le)

          is : after (new_number K L h.end h.sent_store now) ≡ new_state K L h.end h.sent_store now
          is = ap or_start (new_state_lem K L h.end h.sent_store now o c.sent_store)

      pub chained_ticked : (time : ℕ) (out : List ℕ) → Chained K L (after_tick K L h (ticked K L h time out))
      chained_ticked time out =
          tick_ways K L h time out (λ r. Chained K L (after_tick K L h r))
          (λ _. record { sent_store = c.sent_store; received_store = c.received_store; between = c.between; onward = c.onward })
          (λ _ _. record { sent_store = c.sent_store; received_store = c.received_store; between = c.between; onward = c.onward })
          (λ _. chained_sent (max h.end.clock time) out)

      chained_left : (r : AfterTake K L) → TakeLeaves K L h r → Own K L r.end → Chained K L (after_take K L h r)
      chained_left r l o' = record {
        sent_store = c.sent_store;
        received_store = l.store_length ∙ c.received_store;
        between = λ m n p q s. subst (λ x. K.follows x (after n) ≡ true) (sym (was m p)) (subst (λ x. K.follows (sent_state K L h m) x ≡ true) (sym (was n (omega arith))) (c.between m n (omega (arith, l.acknowledged)) q (omega (arith, l.top))));
        onward = subst (λ x. K.follows (after r.end.top) x ≡ true) (sym l.current) (subst (λ x. K.follows x h.end.current ≡ true) (sym (was r.end.top o'.acknowledged)) (subst (λ n. K.follows (sent_state K L h n) h.end.current ≡ true) (sym l.top) c.onward));
      }
        where
          after : ℕ → K.Contents
          after n = sent_state K L (after_take K L h r) n

          was : (n : ℕ) → r.end.sent.anchor ≤ n → after n ≡ sent_state K L h n
          was n le = ap or_start (l.states h.sent_store n le)

      pub chained_taken : (time : ℕ) (bytes : List ℕ) → Chained K L (after_take K L h (taken K L h time bytes))
      chained_taken time bytes = chained_left (taken K L h time bytes) (take_leaves K L h time bytes) (own_taken K L h o time bytes)

      pub chained_tick : (time : ℕ) (out : List ℕ) → (ticked K L h time out).answer ≡ Err NotFollowing → ⊥
      chained_tick time out =
          cond_both (leb time latest) _ _ Other
          (λ _. cond_both (both_fit h.sent_store h.received_store) _ _ Other
          (λ _. cond_both (leb 2224 (length out)) _ _ Other
          (λ _. cond_both (d && not (K.follows base new)) _ _ Other
          (λ t. absurd (both_ways (d && not (K.follows base new)) (and_right d (not (K.follows base new)) (not_from_true (K.follows base new) (assumed_follows now))) t))
          (λ _. cond_both (leb 1000000 h.end.sendings) _ _ Other (λ _. other NoSendingsLeft refl)
          (λ _. cond_both (not d) _ _ Other (λ _. answered _)
          (λ _. cond_both (leb (length (update K L h.end h.sent_store now).diff) 2031) _ _ Other (λ _. answered _) (λ _. other LongDiff refl)))))
          (λ _. other ShortBuffer refl))
          (λ _. other (Call WrongStore) refl))
          (λ _. other (Call LateTime) refl)
        where
          now : ℕ
          now = max h.end.clock time

          d : Bool
          d = due (facts K L h.end h.sent_store now)

          base : K.Contents
          base = assumed_state K L h.end h.sent_store now

          new : K.Contents
          new = new_state K L h.end h.sent_store now

          Other : AfterTick K L → Type 0
          Other r = r.answer ≡ Err NotFollowing → ⊥

          -- whether a refusal is that of a target which doesn't follow
          is_apart : TickRefusal → Bool
          is_apart (Call f) = false
          is_apart ShortBuffer = false
          is_apart NotFollowing = true
          is_apart NoSendingsLeft = false
          is_apart LongDiff = false

          other : (f : TickRefusal) → is_apart f ≡ false → ◌≡◌ {A = Result Ticked TickRefusal} (Err f) (Err NotFollowing) → ⊥
          other f q e = let s : f ≡ NotFollowing = cc in both_ways (is_apart f) q (ap is_apart s)

          answered : (t : Ticked) → ◌≡◌ {A = Result Ticked TickRefusal} (Ok t) (Err NotFollowing) → ⊥
          answered t e = let z : ◌≡◌ {A = ℕ} 0 1 = cc in omega arith

pub all_follow : (K L : Kind) → Itself K → Onward K → Follows K L
all_follow K L itself onto = record {
  opening = chained_opened K L itself onto;
  changing = λ h target e eq c. chained_changed K L itself onto h c target e eq;
  ticking = λ h time out o c. chained_ticked K L itself onto h c o time out;
  taking = λ h time bytes o c. chained_taken K L itself onto h c o time bytes;
  never_apart = λ h time out o c. chained_tick K L itself onto h c o time out;
}
