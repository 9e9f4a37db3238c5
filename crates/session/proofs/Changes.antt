-- Two ends that have just been opened, and a change: what holds between the two ends holds after them.
use Rattle.std.proofs.Common.{◌≡◌, ℕ, ◌<◌, ◌≤◌, true, false, eqb, leb, List, [], ◌∷◌, length, set, IfOk, Some, None, Ok, Err, sym, refl, ap, ◌∙◌, subst, arith, length-set}
use Rattle.std.proofs.lemmas.Result.{IfOk-at_ok}
use Rattle.std.proofs.lemmas.Bool.{cond-true, cond-false, cond_both, and_parts, eqb-true, ne_eqb, leb-true, both_ways}
use Rattle.state.specs.Kind.{Kind, Itself, Onward}
use Rattle.std.specs.List.{slice_get}
use Rattle.window.specs.Numbers.{empty, adding, lookup}
use Rattle.packet.specs.declared.datagram.Direction.{Direction}
use Rattle.packet.specs.declared.datagram.Direction.TheVariants.{TowardDepot, TowardReader}
use Rattle.packet.specs.Pieces.{piece_count}
use Rattle.packet.specs.Instructions.{Update}
use Rattle.packet.specs.Datagrams.{datagram_bytes}
use Rattle.packet.specs.Sendings.{parcel}
use Rattle.assembler.specs.Contents.{collects, held_of}
use Rattle.assembler.specs.Assembling.{gathered}
use Rattle.endpoint.specs.End.{End, Holding, latest, both_fit, fresh, opened, changed, with_current}
use Rattle.protocol.specs.declared.fault.ChangeRefusal.TheVariants.{NotFollowing}
use Rattle.endpoint.proofs.Keeping.{own_fresh, own_changed, in_order}
use Rattle.session.specs.History.{Past, begun, opposite, after_change}
use Rattle.session.specs.Runs.{World, change, changed_to, move}
use Rattle.session.proofs.Invariant.{state_of, state, Instructs, Carries, Gathers, Holds, Acks, Joined, Inv}

-- what an opening leaves
abbrev pub newly_opened : (K L : Kind) → Direction → ℕ → List K.Contents → List L.Contents → Holding K L
newly_opened K L d time ks ls = record { end = fresh K L d time; sent_store = set ks 0 K.start; received_store = set ls 0 L.start }

pub record IsOpened (K L : Kind) (d : Direction) (time : ℕ) (ks : List K.Contents) (ls : List L.Contents) (h : Holding K L) : Type 0 where
  pub is : h ≡ newly_opened K L d time ks ls
  pub sent_length : length ks ≡ 16
  pub received_length : length ls ≡ 16
  pub in_time : time ≤ latest

pub opened_is : (K L : Kind) (d : Direction) (time : ℕ) (ks : List K.Contents) (ls : List L.Contents) (h : Holding K L) → opened K L d time ks ls ≡ Ok h → IsOpened K L d time ks ls h
opened_is K L d time ks ls h eq =
    IfOk-at_ok (IsOpened K L d time ks ls) eq
    (cond_both (leb time latest) _ _ (λ r. IfOk r (IsOpened K L d time ks ls))
    (λ t. cond_both (both_fit ks ls) _ _ (λ r. IfOk r (IsOpened K L d time ks ls))
    (λ f. let p = and_parts (eqb (length ks) 16) (eqb (length ls) 16) f in record {
      is = refl;
      sent_length = eqb-true (length ks) 16 p.0;
      received_length = eqb-true (length ls) 16 p.1;
      in_time = leb-true time latest t;
    })
    (λ _. tt))
    (λ _. tt))

-- what is set at place 0 lies there
at_front : {X : Type 0} (xs : List X) (x : X) → length xs ≡ 16 → slice_get (set xs 0 x) 0 ≡ Some x
at_front [] x e = absurd (omega arith)
at_front (y ∷ xs) x e = refl

begun_state : (K : Kind) (time n : ℕ) → state (begun K time) n ≡ K.start
begun_state K time n = cond_both (eqb n 0) (Some K.start) None (λ o. state_of K o ≡ K.start) (λ _. refl) (λ _. refl)

module _ (K L : Kind) (itself : Itself K) where
  fresh_joined : (d : Direction) (t t' : ℕ) (ks : List K.Contents) (ls : List L.Contents) (ls' : List L.Contents) (ks' : List K.Contents) → t ≤ latest → length ks ≡ 16 → length ks' ≡ 16 → Joined K L (newly_opened K L d t ks ls) (begun K t) (newly_opened L K (opposite d) t' ls' ks') (begun L t')
  fresh_joined d t t' ks ls ls' ks' le long long' = record {
    own = own_fresh K L d t le;
    sent_length = length-set ks 0 K.start ∙ long;
    received_length = length-set ks' 0 K.start ∙ long';
    directions = refl;
    current = refl;
    acked = refl;
    used = refl;
    fixed = λ n small. let z : 0 ≡ n = omega arith in subst (λ m. (begun K t).fixed m ≡ Some (state (begun K t) m)) z refl;
    unfixed = λ n large. cond-false (eqb n 0) (Some K.start) None (ne_eqb n 0 (λ z. omega arith));
    onward = λ i j a b. subst (λ c. K.follows c (state (begun K t) j) ≡ true) (sym (begun_state K t i)) (subst (λ c. K.follows K.start c ≡ true) (sym (begun_state K t j)) (itself K.start));
    ahead = λ i a. subst (λ c. K.follows c K.start ≡ true) (sym (begun_state K t i)) (itself K.start);
    stored = λ n a b. let z : 0 ≡ n = omega arith in subst (λ m. lookup (adding (empty 16) 0) (set ks 0 K.start) m ≡ Some (state (begun K t) m)) z (at_front ks K.start long);
    sendings = λ s a b. absurd (omega arith);
    air = λ x m. absurd m;
    half = λ s c. absurd (both_ways false refl c);
    holds = λ n h. let e = eqb-true n 0 h in let z : 0 ≡ n = omega arith in record {
      fixed = omega arith;
      shows = subst (λ m. lookup (adding (empty 16) 0) (set ks' 0 K.start) m ≡ Some (state (begun K t) m)) z (at_front ks' K.start long');
    };
    dropped = omega arith;
    acks = λ s a b. absurd (omega arith);
    confirmed = refl;
  }

  -- two ends that were opened in opposite directions
  pub opened_joined :
      (d : Direction) (t t' : ℕ) (ks : List K.Contents) (ls : List L.Contents) (ls' : List L.Contents) (ks' : List K.Contents) (h : Holding K L) (h' : Holding L K) →
      opened K L d t ks ls ≡ Ok h → opened L K (opposite d) t' ls' ks' ≡ Ok h' → Joined K L h (begun K t) h' (begun L t')
  opened_joined d t t' ks ls ls' ks' h h' e e' =
      let o = opened_is K L d t ks ls h e in
      let o' = opened_is L K (opposite d) t' ls' ks' h' e' in
      subst (λ x. Joined K L x (begun K t) h' (begun L t')) (sym o.is) (subst (λ y. Joined K L (newly_opened K L d t ks ls) (begun K t) y (begun L t')) (sym o'.is) (fresh_joined d t t' ks ls ls' ks' o.in_time o.sent_length o'.received_length))

-- an end that sends on, with its history: what was fixed and sent stays so
pub record Grows (K L : Kind) (x : End K L) (p : Past K) (x' : End K L) (p' : Past K) : Type 0 where
  pub direction : x'.direction ≡ x.direction
  pub top : x.top ≤ x'.top
  pub anchor : x.sent.anchor ≤ x'.sent.anchor
  pub sendings : x.sendings ≤ x'.sendings
  pub instruction : (s : ℕ) → s ≤ x.sendings → p'.instruction s ≡ p.instruction s
  pub states : (n : ℕ) → n ≤ x.top → state p' n ≡ state p n

module _ {K L : Kind} {x : End K L} {p : Past K} {x' : End K L} {p' : Past K} (g : Grows K L x p x' p') where
  pub instructs_still : (s : ℕ) (u : Update) → s ≤ x.sendings → u.old ≤ u.new → Instructs K L x p s u → Instructs K L x' p' s u
  instructs_still s u le ord i = record {
    bytes = g.instruction s le ∙ i.bytes;
    in_order = i.in_order;
    reached = omega (arith, i.reached, g.top);
    needless = omega (arith, i.needless, g.anchor);
    steps = i.steps ∙ ap (λ c. K.diff c (state p u.new)) (sym (g.states u.old (omega (arith, i.reached)))) ∙ ap (K.diff (state p' u.old)) (sym (g.states u.new i.reached));
    short = i.short;
  }

  pub carries_still : (d : List ℕ) → Carries K L x p d → Carries K L x' p' d
  carries_still d c = record {
    sending = c.sending;
    piece = c.piece;
    from = c.from;
    some = c.some;
    past = omega (arith, c.past, g.sendings);
    one_of = subst (λ bs. c.piece < piece_count bs) (sym (g.instruction c.sending c.past)) c.one_of;
    is = c.is ∙ ap (λ w. datagram_bytes (parcel w c.from c.sending (p.instruction c.sending) c.piece)) (sym g.direction) ∙ ap (λ bs. datagram_bytes (parcel x'.direction c.from c.sending bs c.piece)) (sym (g.instruction c.sending c.past));
  }

  pub gathers_still : (y : End L K) (s : ℕ) → Gathers K L x p y s → Gathers K L x' p' y s
  gathers_still y s a = record {
    some = a.some;
    past = omega (arith, a.past, g.sendings);
    has = a.has;
    are = a.are ∙ ap (λ bs. gathered s bs a.has) (sym (g.instruction s a.past));
  }

  pub holds_still : (y : Holding L K) (n : ℕ) → Holds K L x p y n → Holds K L x' p' y n
  holds_still y n a = record {
    fixed = omega (arith, a.fixed, g.top);
    shows = a.shows ∙ ap (λ c. Some c) (sym (g.states n a.fixed));
  }

-- an end that goes on receiving as before: the direction toward it stays as it was
pub back_still :
    {K L : Kind} {x : Holding K L} {p : Past K} {y : Holding L K} {q : Past L} → Joined L K y q x p → (x' : Holding K L) (p' : Past K) →
    x'.received_store ≡ x.received_store → x'.end.direction ≡ x.end.direction → x'.end.received ≡ x.end.received → x'.end.half ≡ x.end.half →
    ((s : ℕ) → 1 ≤ s → s ≤ x'.end.sendings → Acks L K x'.end p' s) → Joined L K y q x' p'
back_still {K} {L} {x} {p} {y} {q} j x' p' store direction received half acks = record {
  own = j.own;
  sent_length = j.sent_length;
  received_length = ap length store ∙ j.received_length;
  directions = direction ∙ j.directions;
  current = j.current;
  acked = j.acked;
  used = j.used;
  fixed = j.fixed;
  unfixed = j.unfixed;
  onward = j.onward;
  ahead = j.ahead;
  stored = j.stored;
  sendings = j.sendings;
  air = j.air;
  half = λ s c. let a = j.half s (subst (λ h. collects h s ≡ true) half c) in record {
    some = a.some;
    past = a.past;
    has = a.has;
    are = ap (λ h. held_of h s) half ∙ a.are;
  };
  holds = λ n c. let a = j.holds n (subst (λ w. w.held n ≡ true) received c) in record {
    fixed = a.fixed;
    shows = ap (λ w. lookup w x'.received_store n) received ∙ ap (λ ks. lookup x.end.received ks n) store ∙ a.shows;
  };
  dropped = subst (λ w. w.anchor ≤ y.end.sent.anchor) (sym received) j.dropped;
  acks = acks;
  confirmed = subst (λ w. w.held y.end.sent.anchor ≡ true) (sym received) j.confirmed;
}

module _ (K L : Kind) (x : Holding K L) (p : Past K) (y : Holding L K) (q : Past L) (t : K.Contents) where
  with_current_forth :
      Onward K → Joined K L x p y q → K.follows x.end.current t ≡ true →
      Joined K L (record { end = with_current K L x.end t; sent_store = x.sent_store; received_store = x.received_store }) (after_change p {E = End K L} t (Ok (with_current K L x.end t))) y q
  with_current_forth onward j f =
      let g : Grows K L x.end p (with_current K L x.end t) (after_change p {E = End K L} t (Ok (with_current K L x.end t))) = record {
        direction = refl;
        top = omega arith;
        anchor = omega arith;
        sendings = omega arith;
        instruction = λ s _. refl;
        states = λ n _. refl;
      } in
      record {
        own = own_changed K L x.end (with_current K L x.end t) t (cond-true (K.follows x.end.current t) _ _ f) j.own;
        sent_length = j.sent_length;
        received_length = j.received_length;
        directions = j.directions;
        current = refl;
        acked = j.acked;
        used = j.used;
        fixed = j.fixed;
        unfixed = j.unfixed;
        onward = j.onward;
        ahead = λ i le. onward (state p i) x.end.current t (j.ahead i le) f;
        stored = j.stored;
        sendings = λ s a b. let i = j.sendings s a b in (i.0, instructs_still g s i.0 b (in_order i.0 i.1.in_order).1.0 i.1);
        air = λ d m. carries_still g d (j.air d m);
        half = λ s c. gathers_still g y.end s (j.half s c);
        holds = λ n c. holds_still g y n (j.holds n c);
        dropped = j.dropped;
        acks = j.acks;
        confirmed = j.confirmed;
      }

  -- a change keeps the direction from the end that is changed
  pub change_forth : Onward K → Joined K L x p y q → Joined K L (changed_to K L x (changed K L x.end t)) (after_change p t (changed K L x.end t)) y q
  change_forth onward j =
      cond_both (K.follows x.end.current t) (Ok (with_current K L x.end t)) (Err NotFollowing) (λ r. Joined K L (changed_to K L x r) (after_change p t r) y q)
      (λ f. with_current_forth onward j f)
      (λ _. j)

  pub changed_forth : (e : End K L) → changed K L x.end t ≡ Ok e → Onward K → Joined K L x p y q → Joined K L (record { end = e; sent_store = x.sent_store; received_store = x.received_store }) (after_change p {E = End K L} t (Ok e)) y q
  changed_forth e eq onward j = subst (λ r. Joined K L (changed_to K L x r) (after_change p t r) y q) eq (change_forth onward j)

  -- and the direction toward it
  pub change_back : Joined L K y q x p → Joined L K y q (changed_to K L x (changed K L x.end t)) (after_change p t (changed K L x.end t))
  change_back j =
      cond_both (K.follows x.end.current t) (Ok (with_current K L x.end t)) (Err NotFollowing) (λ r. Joined L K y q (changed_to K L x r) (after_change p t r))
      (λ f. back_still j (record { end = with_current K L x.end t; sent_store = x.sent_store; received_store = x.received_store }) (after_change p {E = End K L} t (Ok (with_current K L x.end t))) refl refl refl refl (λ s a b. let k = j.acks s a b in record { old = k.old; kept = k.kept }))
      (λ _. j)

  pub changed_back : (e : End K L) → changed K L x.end t ≡ Ok e → Joined L K y q x p → Joined L K y q (record { end = e; sent_store = x.sent_store; received_store = x.received_store }) (after_change p {E = End K L} t (Ok e))
  changed_back e eq j = subst (λ r. Joined L K y q (changed_to K L x r) (after_change p t r)) eq (change_back j)

opposite_twice : (d : Direction) → opposite (opposite d) ≡ d
opposite_twice TowardDepot = refl
opposite_twice TowardReader = refl

-- two ends opened in opposite directions, with what is known of them
pub opened_inv :
    (K L : Kind) → Itself K → Itself L → (d : Direction) (t t' : ℕ) (ks : List K.Contents) (ls : List L.Contents) (ls' : List L.Contents) (ks' : List K.Contents) (h : Holding K L) (h' : Holding L K) →
    opened K L d t ks ls ≡ Ok h → opened L K (opposite d) t' ls' ks' ≡ Ok h' → Inv K L (record { one = h; two = h'; past_one = begun K t; past_two = begun L t' })
opened_inv K L one two d t t' ks ls ls' ks' h h' e e' = record {
  forth = opened_joined K L one d t t' ks ls ls' ks' h h' e e';
  back = opened_joined L K two (opposite d) t' t ls' ks' ks ls h' h e' (ap (λ z. opened K L z t ks ls) (opposite_twice d) ∙ e);
}

-- a change keeps both directions
pub change_inv : (K L : Kind) → Onward K → (w : World K L) (t : K.Contents) → Inv K L w → Inv K L (move K L w (change t))
change_inv K L onward w t i = record {
  forth = change_forth K L w.one w.past_one w.two w.past_two t onward i.forth;
  back = change_back K L w.one w.past_one w.two w.past_two t i.back;
}
