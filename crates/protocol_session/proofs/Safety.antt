-- What the invariant says of what is shown, and that the number shown never falls.
use Rattle.std.proofs.Common.{◌≡◌, ℕ, ◌≤◌, Bool, true, false, cond, eqb, List, [], ◌∷◌, ◌++◌, length, Some, Ok, Err, Result, refl, ap, ◌∙◌, subst, le_trans, le_refl, arith, None, Option}
use Rattle.std.proofs.lemmas.Bool.{cond-true, eq-eqb}
use Rattle.state.specs.Kind.{Kind}
use Rattle.window.specs.Numbers.{lookup}
use Rattle.protocol.specs.declared.fault.CallRefusal.{CallRefusal}
use Rattle.protocol.specs.declared.fault.CallRefusal.TheVariants.{WrongStore}
use Rattle.protocol.specs.End.{Holding, changed, looked, state_at, with_current}
use Rattle.protocol.specs.Own.{Own}
use Rattle.protocol.specs.declared.fault.ChangeRefusal.TheVariants.{NotFollowing}
use Rattle.protocol.proofs.Takes.{take_leaves}
use Rattle.protocol.proofs.Ticks.{tick_leaves}
use Rattle.protocol_session.specs.History.{Past}
use Rattle.protocol_session.specs.Law.{NoWrongState, HoldsAcknowledged, NoStepBack}
use Rattle.protocol_session.specs.Runs.{World, flipped, Call, change, tick, take, look, Step, first, second, move, step, run, changed_to, lent_to, SupposedOf, SupposedAll}
use Rattle.protocol_session.proofs.Invariant.{Joined, state}

module _ (K L : Kind) (x : Holding K L) (p : Past K) (y : Holding L K) (q : Past L) (j : Joined K L x p y q) (own-y : Own y.end) where
  found : lookup y.end.incoming.numbers y.received_store y.end.incoming.newest ≡ Some (state p y.end.incoming.newest)
  found = (j.holds y.end.incoming.newest own-y.newest_held).shows

  pub looks : looked K y.end.incoming y.received_store ≡ Ok (y.end.incoming.newest, state p y.end.incoming.newest)
  looks =
      let on : Option K.Contents → Result (ℕ × K.Contents) CallRefusal = λ o. Ok (y.end.incoming.newest, elim o [ Some c ↦ c | None ↦ K.start ]) in
      cond-true (eqb (length y.received_store) 16) _ _ (eq-eqb _ 16 j.received_length) ∙ ap on found

  -- what y shows is what x fixed
  pub right : NoWrongState p y
  right = (y.end.incoming.newest, (state p y.end.incoming.newest, (looks, j.fixed y.end.incoming.newest (j.holds y.end.incoming.newest own-y.newest_held).fixed)))

  -- y holds what x has as acknowledged
  pub acknowledged : HoldsAcknowledged p y
  acknowledged =
      let h = j.holds x.end.outgoing.numbers.anchor j.confirmed in (
        state p p.acked,
        subst (λ (n : ℕ). p.fixed n ≡ Some (state p n)) j.acked (j.fixed x.end.outgoing.numbers.anchor h.fixed),
        subst (λ (n : ℕ). lookup y.end.incoming.numbers y.received_store n ≡ Some (state p n)) j.acked h.shows,
      )

-- the number that an end shows never falls under a call, on it or on the other
module _ (K L : Kind) where
  changed_newest : (h : Holding K L) (t : K.Contents) → (changed_to K L h (changed K h.end t)).end.incoming.newest ≡ h.end.incoming.newest
  changed_newest h t = by (K.follows h.end.current t)
    where
      by : (b : Bool) → (changed_to K L h (cond b (Ok (with_current K h.end t)) (Err NotFollowing))).end.incoming.newest ≡ h.end.incoming.newest
      by true = refl
      by false = refl

  moved_newest : (w : World K L) (c : Call K L) → Own w.one.end → w.one.end.incoming.newest ≤ (move K L w c).one.end.incoming.newest
  moved_newest w (change t) o = omega (arith, changed_newest w.one t)
  moved_newest w (tick l time out) o = omega (arith, (tick_leaves K L (lent_to K L w.one l) o time out).newest)
  moved_newest w (take l time bytes) o = (take_leaves K L (lent_to K L w.one l) time bytes).newest
  moved_newest w (look n) o = le_refl _

-- the number that a look tells is the newest
shown_is : (K L : Kind) (h : Holding K L) (n : ℕ) (c : L.Contents) → looked L h.end.incoming h.received_store ≡ Ok (n, c) → h.end.incoming.newest ≡ n
shown_is K L h n c is = by (eqb (length h.received_store) 16) is
  where
    get : Result (ℕ × L.Contents) CallRefusal → ℕ
    get (Ok v) = v.0
    get (Err f) = 0

    by : (b : Bool) → cond {A = Result (ℕ × L.Contents) CallRefusal} b (Ok (h.end.incoming.newest, state_at L h.end.incoming.numbers h.received_store h.end.incoming.newest)) (Err WrongStore) ≡ Ok (n, c) → h.end.incoming.newest ≡ n
    by true e = ap get e
    by false e = absurd (let z : ◌≡◌ {A = ℕ} 0 1 = cc in omega arith)

pub no_back : (K L : Kind) (before after : Holding K L) → before.end.incoming.newest ≤ after.end.incoming.newest → NoStepBack before after
no_back K L before after up m n c c' b a = omega (arith, shown_is K L before m c b, shown_is K L after n c' a)

-- what follows from an invariant of worlds that every supposed step keeps
module _ (K L : Kind) (I : World K L → Type 0)
    (own-one : (w : World K L) → I w → Own w.one.end) (own-two : (w : World K L) → I w → Own w.two.end)
    (keeps : (w : World K L) (c : Step K L) → SupposedOf K L w c → I w → I (step K L w c)) where
  step_newest : (w : World K L) (c : Step K L) → I w → (w.one.end.incoming.newest ≤ (step K L w c).one.end.incoming.newest) × (w.two.end.incoming.newest ≤ (step K L w c).two.end.incoming.newest)
  step_newest w (first c) i = (moved_newest K L w c (own-one w i), rest c)
    where
      rest : (c : Call K L) → w.two.end.incoming.newest ≤ (move K L w c).two.end.incoming.newest
      rest (change t) = le_refl _
      rest (tick l time out) = le_refl _
      rest (take l time bytes) = le_refl _
      rest (look n) = le_refl _
  step_newest w (second c) i = (rest c, moved_newest L K (flipped w) c (own-two w i))
    where
      rest : (c : Call L K) → w.one.end.incoming.newest ≤ (flipped (move L K (flipped w) c)).one.end.incoming.newest
      rest (change t) = le_refl _
      rest (tick l time out) = le_refl _
      rest (take l time bytes) = le_refl _
      rest (look n) = le_refl _

  pub run_keeps : (w : World K L) (calls : List (Step K L)) → SupposedAll K L w calls → I w → I (run K L w calls)
  run_keeps w [] s i = i
  run_keeps w (c ∷ more) s i = run_keeps (step K L w c) more s.1 (keeps w c s.0 i)

  run_newest : (w : World K L) (calls : List (Step K L)) → SupposedAll K L w calls → I w → (w.one.end.incoming.newest ≤ (run K L w calls).one.end.incoming.newest) × (w.two.end.incoming.newest ≤ (run K L w calls).two.end.incoming.newest)
  run_newest w [] s i = (le_refl _, le_refl _)
  run_newest w (c ∷ more) s i =
      let a = step_newest w c i in
      let b = run_newest (step K L w c) more s.1 (keeps w c s.0 i) in
      (le_trans a.0 b.0, le_trans a.1 b.1)

  -- from any moment of a run to its end
  pub never_back : (w : World K L) (before after : List (Step K L)) → SupposedAll K L w (before ++ after) → I w
      → NoStepBack (run K L w before).one (run K L w (before ++ after)).one × NoStepBack (run K L w before).two (run K L w (before ++ after)).two
  never_back w [] after s i =
      let r = run_newest w after s i in
      (no_back K L w.one (run K L w after).one r.0, no_back L K w.two (run K L w after).two r.1)
  never_back w (c ∷ before) after s i = never_back (step K L w c) before after s.1 (keeps w c s.0 i)
