-- Numbers that stand for fixed states: what a tick sends leads from one to another, and what a take holds is what they are.
use Rattle.std.proofs.Common.{◌≡◌, ℕ, ◌≤◌, max, true, false, leb, List, length, Ok, Err, Result, sym, ap, ◌∙◌, subst, ⊎_elim, arith, Some, Option}
use Rattle.std.proofs.lemmas.Bool.{cases_eq, and_parts, cond-true, both_ways}
use Rattle.state.specs.declared.fault.StateFault.{StateFault}
use Rattle.state.specs.Kind.{Kind, Itself, Onward, Reaches}
use Rattle.window.specs.Numbers.{Numbers, lookup}
use Rattle.packet.specs.Instructions.{Update, together}
use Rattle.packet.specs.Datagrams.{Parcel}
use Rattle.protocol.specs.declared.answer.Taken.{Taken}
use Rattle.protocol.specs.declared.fault.TakeFault.{TakeFault}
use Rattle.protocol.specs.declared.fault.TakeFault.TheVariants as fault
use Rattle.endpoint.specs.End.{Holding}
use Rattle.endpoint.specs.Ticking.{new_number, new_state, assumed, assumed_state, update}
use Rattle.endpoint.specs.Taking.{AfterTake, kept, landed, taken}
use Rattle.endpoint.specs.Own.{Own}
use Rattle.endpoint.specs.Chain.{Chained, sent_state, after_take}
use Rattle.endpoint.proofs.Ways.{Sends, Reads, is_state, take_ways, take_paths}
use Rattle.window.proofs.Laws.{put_other}
use Rattle.endpoint.proofs.Keeping.{found_held, kept_is}
use Rattle.endpoint.proofs.Ticks.{update_numbers}
use Rattle.endpoint.proofs.Takes.{landed_new, landed_other}

-- an instruction between two of the states that the numbers stand for
pub record Honest (M : Kind) (fixed : ℕ → M.Contents) (u : Update) : Type 0 where
  pub follows : M.follows (fixed u.old) (fixed u.new) ≡ true
  pub diff : u.diff ≡ M.diff (fixed u.old) (fixed u.new)
  pub short : length u.diff ≤ 2031

-- its diff leads to its new state
pub honest_reaches : (M : Kind) (fixed : ℕ → M.Contents) (u : Update) → Reaches M → Honest M fixed u → M.apply (fixed u.old) u.diff ≡ Ok (fixed u.new)
honest_reaches M fixed u reaches t = ap (M.apply (fixed u.old)) t.diff ∙ reaches (fixed u.old) (fixed u.new) t.follows (omega (arith, t.short, ap length t.diff))

module _ (K L : Kind) (h : Holding K L) where
  -- the states sent are those that the numbers stand for
  abbrev pub SentTrue : (ℕ → K.Contents) → Type 0
  SentTrue fixed = (n : ℕ) → h.end.sent.anchor ≤ n → n ≤ h.end.top → sent_state K L h n ≡ fixed n

  -- the states held are those that the numbers stand for
  abbrev pub HeldTrue : (ℕ → L.Contents) → Type 0
  HeldTrue fixed = (n : ℕ) → h.end.received.held n ≡ true → lookup h.end.received h.received_store n ≡ Some (fixed n)

-- what a tick sends leads from one to another of the states that it has under its numbers then
module _ (K L : Kind) (itself : Itself K) (onto : Onward K) (h : Holding K L) (o : Own K L h.end) (c : Chained K L h) where
  pub tick_honest : (time : ℕ) (out : List ℕ) (fixed : ℕ → K.Contents) → Sends K L h time out → SentTrue K L h fixed → fixed (new_number K L h.end h.sent_store (max h.end.clock time)) ≡ new_state K L h.end h.sent_store (max h.end.clock time) → Honest K fixed (update K L h.end h.sent_store (max h.end.clock time))
  tick_honest time out fixed s t new =
      let u = update_numbers K L h.end h.sent_store (max h.end.clock time) o in
      let base = t (assumed K L h.end h.sent_store (max h.end.clock time)) u.0 u.1.0 in
      record {
        follows = subst (λ x. K.follows x (fixed (new_number K L h.end h.sent_store (max h.end.clock time))) ≡ true) base (subst (λ x. K.follows (assumed_state K L h.end h.sent_store (max h.end.clock time)) x ≡ true) (sym new) s.follows);
        diff = ap (λ x. K.diff x (new_state K L h.end h.sent_store (max h.end.clock time))) base ∙ ap (K.diff (fixed (assumed K L h.end h.sent_store (max h.end.clock time)))) (sym new);
        short = s.short;
      }

module _ (K L : Kind) (reaches : Reaches L) (fixed : ℕ → L.Contents) (h : Holding K L) (o : Own K L h.end) (fit : length h.received_store ≡ 16) (t : HeldTrue K L h fixed) where
  -- a base that is found is the fixed one
  base_is : (n : ℕ) (base : L.Contents) → lookup h.end.received h.received_store n ≡ Some base → base ≡ fixed n
  base_is n base l = let q = t n (found_held h.end.received h.received_store n base l) in cc

  applied_is : (u : Update) (base : L.Contents) → Honest L fixed u → lookup h.end.received h.received_store u.old ≡ Some base → L.apply base u.diff ≡ Ok (fixed u.new)
  applied_is u base k l = ap (λ b. L.apply b u.diff) (base_is u.old base l) ∙ honest_reaches L fixed u reaches k

  -- a state that lands is the one that its number stands for, and the others stay
  pub land_true : (now : ℕ) (u : Update) (numbers : together u ≡ true) (base c : L.Contents) → Honest L fixed u → h.end.received.held u.new ≡ false → lookup h.end.received h.received_store u.old ≡ Some base → L.apply base u.diff ≡ Ok c → HeldTrue K L (after_take K L h (landed K L h now u c)) fixed
  land_true now u numbers base c k new l a n held =
      ⊎_elim
      (λ (e : n ≡ u.new). subst (λ m. lookup after.end.received after.received_store m ≡ Some (fixed m)) (sym e) (landed_new K L h now o fit u numbers old new c ∙ ap held_as_lem is))
      (λ (ne : n ≡ u.new → ⊥).
      let was = sym (ap (λ (w : Numbers). w.held n) (kept_is K L h now u)) ∙ sym (put_other (kept K L h now u) u.new n ne) ∙ held in
      let p = and_parts (leb (max h.end.received.anchor u.throwaway) n) (h.end.received.held n) was in
      landed_other K L h now o fit u numbers old new c n ne ∙ cond-true (leb (max h.end.received.anchor u.throwaway) n) _ _ p.0 ∙ t n p.1)
      (cases_eq n u.new)
    where
      after : AfterTake K L
      after = landed K L h now u c

      old : h.end.received.held u.old ≡ true
      old = found_held h.end.received h.received_store u.old base l

      held_as_lem : L.Contents → Option L.Contents
      held_as_lem x = Some x

      is : c ≡ fixed u.new
      is = let q = applied_is u base k l in cc

  -- whatever a take reads, if each instruction that it may read whole is between fixed states
  pub take_true : (time : ℕ) (bytes : List ℕ) → ((g : Parcel) (bs : List ℕ) (u : Update) → Reads K L h time bytes g bs u → Honest L fixed u) → HeldTrue K L (after_take K L h (taken K L h time bytes)) fixed
  take_true time bytes honest =
      take_ways K L h time bytes (λ r. HeldTrue K L (after_take K L h r) fixed)
      (λ _. t)
      (λ g half k e. t)
      (λ g bs u r y. t)
      (λ g bs u r n m. t)
      (λ g bs u base c r n l a. land_true (max h.end.clock time) u r.numbers base c (honest g bs u r) n l a)

  -- and then the take isn't refused by its diff
  pub take_applies : (time : ℕ) (bytes : List ℕ) → ((g : Parcel) (bs : List ℕ) (u : Update) → Reads K L h time bytes g bs u → Honest L fixed u) → (f : StateFault) → (taken K L h time bytes).answer ≡ Err (fault.State f) → ⊥
  take_applies time bytes honest f =
      take_paths K L h time bytes (λ r. r.answer ≡ Err (fault.State f) → ⊥)
      (λ g n e. other g n e)
      (λ g half k w. answered _)
      (λ g bs u r y. answered _)
      (λ g bs u r n m. answered _)
      (λ g bs u base c r n l a. answered _)
      (λ g bs u base x r n l a e. clash (L.apply base u.diff) (fixed u.new) x (applied_is u base (honest g bs u r) l) a)
    where
      other : (g : TakeFault) → is_state g ≡ false → ◌≡◌ {A = Result Taken TakeFault} (Err g) (Err (fault.State f)) → ⊥
      other g n e = let s : g ≡ fault.State f = cc in both_ways (is_state g) n (ap is_state s)

      answered : (a : Taken) → ◌≡◌ {A = Result Taken TakeFault} (Ok a) (Err (fault.State f)) → ⊥
      answered a e = let z : ◌≡◌ {A = ℕ} 0 1 = cc in omega arith

      clash : (r : Result L.Contents StateFault) (c : L.Contents) (x : StateFault) → r ≡ Ok c → r ≡ Err x → ⊥
      clash r c x p q = let z : ◌≡◌ {A = ℕ} 0 1 = cc in omega arith
