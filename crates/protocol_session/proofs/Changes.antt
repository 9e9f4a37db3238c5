-- Two ends that have just been opened, and a change: what holds between the two ends holds after them.
use Rattle.std.proofs.Common.{◌≡◌, ℕ, ◌≤◌, true, eqb, leb, List, [], ◌∷◌, length, set, IfOk, Some, None, Ok, Err, sym, refl, ap, ◌∙◌, subst, arith, length-set}
use Rattle.std.proofs.lemmas.Result.{IfOk-at_ok}
use Rattle.std.proofs.lemmas.Bool.{cond-false, cond_both, and_parts, eqb-true, ne_eqb, leb-true}
use Rattle.state.specs.Kind.{Kind, Itself, Onward}
use Rattle.std.specs.List.{slice_get}
use Rattle.window.specs.Numbers.{empty, adding, lookup}
use Rattle.packet.specs.declared.datagram.Direction.{Direction}
use Rattle.packet.specs.declared.datagram.Direction.TheVariants.{TowardDepot, TowardReader}
use Rattle.protocol.specs.End.{End, Holding, latest, both_fit, fresh, opened, changed, with_current}
use Rattle.protocol.specs.declared.fault.ChangeRefusal.TheVariants.{NotFollowing}
use Rattle.protocol.proofs.Keeping.{own_fresh}
use Rattle.protocol_session.specs.History.{Past, begun, opposite, moved_on, noted_change}
use Rattle.protocol_session.specs.Law.{begins}
use Rattle.protocol_session.specs.Runs.{changed_to}
use Rattle.protocol_session.proofs.Invariant.{state_of, state, Joined, Inv}
use Rattle.protocol_session.proofs.Still.{quiet_forth, remains_onto, alike}

-- what an opening leaves
abbrev pub newly_opened : (K L : Kind) → Direction → ℕ → List K.Contents → List L.Contents → Holding K L
newly_opened K L d time ks ls = record { end = fresh K d time; sent_store = set ks 0 K.start; received_store = set ls 0 L.start }

pub record IsOpened (K L : Kind) (d : Direction) (time : ℕ) (ks : List K.Contents) (ls : List L.Contents) (h : Holding K L) : Type 0 where
  pub is : h ≡ newly_opened K L d time ks ls
  pub sent_length : length ks ≡ 16
  pub received_length : length ls ≡ 16
  pub in_time : time ≤ latest

pub opened_is : (K L : Kind) (d : Direction) (time : ℕ) (ks : List K.Contents) (ls : List L.Contents) (h : Holding K L) → opened K L d time ks ls ≡ Ok h → IsOpened K L d time ks ls h
opened_is K L d time ks ls h eq =
    IfOk-at_ok (IsOpened K L d time ks ls) eq
    (cond_both (leb time latest) _ _ (λ r. IfOk r (IsOpened K L d time ks ls))
    (λ t. cond_both (both_fit ks ls) _ _ (λ r. IfOk r (IsOpened K L d time ks ls))
    (λ f. let p = and_parts (eqb (length ks) 16) (eqb (length ls) 16) f in record {
      is = refl;
      sent_length = eqb-true (length ks) 16 p.0;
      received_length = eqb-true (length ls) 16 p.1;
      in_time = leb-true time latest t;
    })
    (λ _. tt))
    (λ _. tt))

-- what is set at place 0 lies there
at_front : {X : Type 0} (xs : List X) (x : X) → length xs ≡ 16 → slice_get (set xs 0 x) 0 ≡ Some x
at_front [] x e = absurd (omega arith)
at_front (y ∷ xs) x e = refl

begun_state : (K : Kind) (d : Direction) (time n : ℕ) → state (begun K d time) n ≡ K.start
begun_state K d time n = cond_both (eqb n 0) (Some K.start) None (λ o. state_of K o ≡ K.start) (λ _. refl) (λ _. refl)

module _ (K L : Kind) (itself : Itself K) (d : Direction) (t t' : ℕ) (ks : List K.Contents) (ls : List L.Contents) (ls' : List L.Contents) (ks' : List K.Contents) where
  fresh_joined : t ≤ latest → length ks ≡ 16 → length ks' ≡ 16 → Joined K L (newly_opened K L d t ks ls) (begun K d t) (newly_opened L K (opposite d) t' ls' ks') (begun L (opposite d) t')
  fresh_joined le long long' = record {
    own = own_fresh K d t le;
    sent_length = length-set ks 0 K.start ∙ long;
    received_length = length-set ks' 0 K.start ∙ long';
    direction = refl;
    current = refl;
    counted = refl;
    acked = refl;
    used = refl;
    directions = refl;
    fixed = λ n small. let z : 0 ≡ n = omega arith in subst (λ m. (begun K d t).fixed m ≡ Some (state (begun K d t) m)) z refl;
    unfixed = λ n large. cond-false (eqb n 0) (Some K.start) None (ne_eqb n 0 (λ z. omega arith));
    onward = λ i j a b. subst (λ c. K.follows c (state (begun K d t) j) ≡ true) (sym (begun_state K d t i)) (subst (λ c. K.follows K.start c ≡ true) (sym (begun_state K d t j)) (itself K.start));
    ahead = λ i a. subst (λ c. K.follows c K.start ≡ true) (sym (begun_state K d t i)) (itself K.start);
    stored = λ n a b. let z : 0 ≡ n = omega arith in subst (λ m. lookup (adding (empty 16) 0) (set ks 0 K.start) m ≡ Some (state (begun K d t) m)) z (at_front ks K.start long);
    sendings = λ s a b. absurd (omega arith);
    air = λ x m. absurd m;
    half = tt;
    holds = λ n h. let e = eqb-true n 0 h in let z : 0 ≡ n = omega arith in record {
      fixed = omega arith;
      shows = subst (λ m. lookup (adding (empty 16) 0) (set ks' 0 K.start) m ≡ Some (state (begun K d t) m)) z (at_front ks' K.start long');
    };
    dropped = omega arith;
    acks = λ s a b. absurd (omega arith);
    confirmed = refl;
  }

  -- two ends that were opened in opposite directions
  opened_joined : (h : Holding K L) (h' : Holding L K) → opened K L d t ks ls ≡ Ok h → opened L K (opposite d) t' ls' ks' ≡ Ok h' → Joined K L h (begun K d t) h' (begun L (opposite d) t')
  opened_joined h h' e e' =
      let o = opened_is K L d t ks ls h e in
      let o' = opened_is L K (opposite d) t' ls' ks' h' e' in
      subst (λ x. Joined K L x (begun K d t) h' (begun L (opposite d) t')) (sym o.is) (subst (λ y. Joined K L (newly_opened K L d t ks ls) (begun K d t) y (begun L (opposite d) t')) (sym o'.is) (fresh_joined o.in_time o.sent_length o'.received_length))

opposite_twice : (d : Direction) → opposite (opposite d) ≡ d
opposite_twice TowardDepot = refl
opposite_twice TowardReader = refl

-- two ends opened in opposite directions, with what is known of them
pub opened_inv :
    (K L : Kind) → Itself K → Itself L → (d : Direction) (t t' : ℕ) (ks : List K.Contents) (ls : List L.Contents) (ls' : List L.Contents) (ks' : List K.Contents) (h : Holding K L) (h' : Holding L K) →
    opened K L d t ks ls ≡ Ok h → opened L K (opposite d) t' ls' ks' ≡ Ok h' → Inv K L (begins d t t' h h')
opened_inv K L one two d t t' ks ls ls' ks' h h' e e' = record {
  forth = opened_joined K L one d t t' ks ls ls' ks' h h' e e';
  back = subst (λ z. Joined L K h' (begun L (opposite d) t') h (begun K z t)) (opposite_twice d) (opened_joined L K two (opposite d) t' t ls' ks' ks ls h' h e' (ap (λ z. opened K L z t ks ls) (opposite_twice d) ∙ e));
}

module _ (K L : Kind) (x : Holding K L) (p : Past K) (y : Holding L K) (q : Past L) (t : K.Contents) where
  -- an end that was changed
  abbrev changed_end : End K
  changed_end = with_current K x.end t

  -- a change keeps the direction from the end that is changed
  pub change_forth : Onward K → Joined K L x p y q → Joined K L (changed_to K L x (changed K x.end t)) (noted_change p t (changed K x.end t)) y q
  change_forth onward j =
      cond_both (K.follows x.end.current t) (Ok changed_end) (Err NotFollowing) (λ r. Joined K L (changed_to K L x r) (noted_change p t r) y q)
      (λ f.
      quiet_forth j changed_end x.received_store t p.acked p.used
      (record { direction = refl; sendings = refl; top = refl; acknowledged = omega arith; states = λ ks n le. refl }) j.own refl j.acked j.used
      (λ i le. onward (state p i) p.current t (j.ahead i le) (subst (λ c. K.follows c t ≡ true) j.current f)) j.confirmed)
      (λ _. j)

  -- and the direction toward it
  pub change_back : Joined L K y q x p → Joined L K y q (changed_to K L x (changed K x.end t)) (noted_change p t (changed K x.end t))
  change_back j =
      cond_both (K.follows x.end.current t) (Ok changed_end) (Err NotFollowing) (λ r. Joined L K y q (changed_to K L x r) (noted_change p t r))
      (λ _. let z : Holding K L = record { end = changed_end; sent_store = x.sent_store; received_store = x.received_store } in remains_onto j z (moved_on p t) (alike j z refl refl refl refl j.half) refl refl)
      (λ _. j)
