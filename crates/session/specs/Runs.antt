-- Runs: whatever is called on two ends, in whatever order, and what becomes of them and of their histories.
use Rattle.std.specs.Prelude.{◌≡◌, ℕ, cond, ◌⊎◌, List, [], ◌∷◌, replicate, Ok, Err, Result, ◌==◌}
use Rattle.state.specs.Kind.{Kind}
use Rattle.protocol.specs.declared.fault.ChangeRefusal.{ChangeRefusal}
use Rattle.protocol.specs.declared.fault.TakeFault.{TakeFault}
use Rattle.endpoint.specs.End.{End, Holding, changed}
use Rattle.endpoint.specs.Ticking.{AfterTick, ticked}
use Rattle.endpoint.specs.Taking.{AfterTake, taken}
use Rattle.session.specs.History.{Past, piece_in, opposite, after_change, after_tick, after_take}

-- the lengths of the stores that a call is handed
pub record Lent : Type 0 where
  pub sent : ℕ
  pub received : ℕ

-- a call on an end that sends states of the kind K and receives states of the kind L
pub data Call (K L : Kind) : Type 0 where
  change : K.Contents → Call K L
  tick : Lent → ℕ → List ℕ → Call K L
  take : Lent → ℕ → List ℕ → Call K L
  look : ℕ → Call K L

-- a store of a length: the end's own where it is 16
abbrev pub handed : (K : Kind) → ℕ → List K.Contents → List K.Contents
handed K n own = cond (n == 16) own (replicate n K.start)

-- the end's own store after a call that was handed one of that length
abbrev pub returned : {X : Type 0} → ℕ → List X → List X → List X
returned n left own = cond (n == 16) left own

-- two ends and their histories; the first sends K, the second L
pub record World (K L : Kind) : Type 0 where
  pub one : Holding K L
  pub two : Holding L K
  pub past_one : Past K
  pub past_two : Past L

-- the same with the second end as the first
abbrev pub flipped : {K L : Kind} → World K L → World L K
flipped w = record { one = w.two; two = w.one; past_one = w.past_two; past_two = w.past_one }

module _ (K L : Kind) where
  abbrev pub lent_to : Holding K L → Lent → Holding K L
  lent_to h l = record { end = h.end; sent_store = handed K l.sent h.sent_store; received_store = handed L l.received h.received_store }

  -- an end that was changed, or left as it was
  abbrev pub changed_to : Holding K L → Result (End K L) ChangeRefusal → Holding K L
  changed_to h (Ok e) = record { end = e; sent_store = h.sent_store; received_store = h.received_store }
  changed_to h (Err f) = h

  -- a tick and a take with the stores that are handed
  abbrev pub ticks : Holding K L → Lent → ℕ → List ℕ → AfterTick K L
  ticks h l time out = ticked K L (lent_to h l) time out

  abbrev pub takes : Holding K L → Lent → ℕ → List ℕ → AfterTake K L
  takes h l time bytes = taken K L (lent_to h l) time bytes

  abbrev pub ticked_to : Holding K L → Lent → AfterTick K L → Holding K L
  ticked_to h l r = record { end = r.end; sent_store = returned l.sent r.sent_store h.sent_store; received_store = h.received_store }

  abbrev pub taken_to : Holding K L → Lent → AfterTake K L → Holding K L
  taken_to h l r = record { end = r.end; sent_store = h.sent_store; received_store = returned l.received r.received_store h.received_store }

  -- a call on the first end
  abbrev pub move : World K L → Call K L → World K L
  move w (change t) = record {
    one = changed_to w.one (changed K L w.one.end t);
    two = w.two;
    past_one = after_change w.past_one t (changed K L w.one.end t);
    past_two = w.past_two;
  }
  move w (tick l time out) = record {
    one = ticked_to w.one l (ticks w.one l time out);
    two = w.two;
    past_one = after_tick w.past_one (opposite w.one.end.direction) time (ticks w.one l time out).answer (ticks w.one l time out).buffer;
    past_two = w.past_two;
  }
  move w (take l time bytes) = record {
    one = taken_to w.one l (takes w.one l time bytes);
    two = w.two;
    past_one = after_take w.past_one time (w.past_two.instruction (piece_in w.one.end.direction bytes).sending) (takes w.one l time bytes).answer;
    past_two = w.past_two;
  }
  move w (look n) = w

  -- whether bytes are among datagrams
  abbrev pub Among : List ℕ → List (List ℕ) → Type 0
  Among x [] = ⊥
  Among x (y ∷ ys) = (x ≡ y) ⊎ Among x ys

  -- what is supposed of a call: a take's bytes were written by a tick of either end, or the take refuses them
  abbrev pub Supposed : World K L → Call K L → Type 0
  Supposed w (change t) = Unit {0}
  Supposed w (tick l time out) = Unit {0}
  Supposed w (take l time bytes) = Among bytes w.past_one.written ⊎ (Among bytes w.past_two.written ⊎ ((f : TakeFault) × ((takes w.one l time bytes).answer ≡ Err f)))
  Supposed w (look n) = Unit {0}

-- a call on either end
pub data Step (K L : Kind) : Type 0 where
  first : Call K L → Step K L
  second : Call L K → Step K L

module _ (K L : Kind) where
  abbrev pub step : World K L → Step K L → World K L
  step w (first c) = move K L w c
  step w (second c) = flipped (move L K (flipped w) c)

  abbrev pub SupposedOf : World K L → Step K L → Type 0
  SupposedOf w (first c) = Supposed K L w c
  SupposedOf w (second c) = Supposed L K (flipped w) c

  -- a run of any length
  abbrev pub run : World K L → List (Step K L) → World K L
  run w [] = w
  run w (s ∷ more) = run (step w s) more

  abbrev pub SupposedAll : World K L → List (Step K L) → Type 0
  SupposedAll w [] = Unit {0}
  SupposedAll w (s ∷ more) = SupposedOf w s × SupposedAll (step w s) more
