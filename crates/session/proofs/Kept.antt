-- Every call of a run keeps what holds between the two ends, given that each kind of call keeps each direction.
use Rattle.std.proofs.Common.{◌≡◌, ℕ, ◌⊎◌, List, [], ◌∷◌, Err}
use Rattle.state.specs.Kind.{Kind}
use Rattle.protocol.specs.declared.fault.TakeFault.{TakeFault}
use Rattle.endpoint.specs.End.{Holding, changed}
use Rattle.session.specs.History.{Past, opposite, piece_in, after_change, after_tick, after_take}
use Rattle.session.specs.Runs.{Lent, Call, change, tick, take, look, World, flipped, Among, changed_to, ticks, takes, ticked_to, taken_to, move, Supposed, Step, first, second, step, SupposedOf, run, SupposedAll}
use Rattle.session.proofs.Shared.{inv_flip}
use Rattle.session.proofs.Invariant.{Joined, Inv}
use Rattle.session.proofs.Acknowledges.{take_sent}

-- each call on the end x keeps both directions between it and y; of a take, that in which x sends is proved
pub record Keeps (K L : Kind) : Type 0 where
  pub change_sent :
      (x : Holding K L) (p : Past K) (y : Holding L K) (q : Past L) → Joined K L x p y q → Joined L K y q x p →
      (t : K.Contents) → Joined K L (changed_to K L x (changed K L x.end t)) (after_change p t (changed K L x.end t)) y q
  pub change_received :
      (x : Holding K L) (p : Past K) (y : Holding L K) (q : Past L) → Joined K L x p y q → Joined L K y q x p →
      (t : K.Contents) → Joined L K y q (changed_to K L x (changed K L x.end t)) (after_change p t (changed K L x.end t))
  pub tick_sent :
      (x : Holding K L) (p : Past K) (y : Holding L K) (q : Past L) → Joined K L x p y q → Joined L K y q x p →
      (l : Lent) (time : ℕ) (out : List ℕ) → Joined K L (ticked_to K L x l (ticks K L x l time out)) (after_tick p (opposite x.end.direction) time (ticks K L x l time out).answer (ticks K L x l time out).buffer) y q
  pub tick_received :
      (x : Holding K L) (p : Past K) (y : Holding L K) (q : Past L) → Joined K L x p y q → Joined L K y q x p →
      (l : Lent) (time : ℕ) (out : List ℕ) → Joined L K y q (ticked_to K L x l (ticks K L x l time out)) (after_tick p (opposite x.end.direction) time (ticks K L x l time out).answer (ticks K L x l time out).buffer)
  pub take_received :
      (x : Holding K L) (p : Past K) (y : Holding L K) (q : Past L) → Joined K L x p y q → Joined L K y q x p →
      (l : Lent) (time : ℕ) (bytes : List ℕ) →
      Among K L bytes p.written ⊎ (Among K L bytes q.written ⊎ ((f : TakeFault) × ((takes K L x l time bytes).answer ≡ Err f))) →
      Joined L K y q (taken_to K L x l (takes K L x l time bytes)) (after_take p time (q.instruction (piece_in x.end.direction bytes).sending) (takes K L x l time bytes).answer)

-- a call on the first end
pub inv_move : (K L : Kind) → Keeps K L → (w : World K L) (c : Call K L) → Inv K L w → Supposed K L w c → Inv K L (move K L w c)
inv_move K L k w (change t) i s = record {
  forth = k.change_sent w.one w.past_one w.two w.past_two i.forth i.back t;
  back = k.change_received w.one w.past_one w.two w.past_two i.forth i.back t;
}
inv_move K L k w (tick l time out) i s = record {
  forth = k.tick_sent w.one w.past_one w.two w.past_two i.forth i.back l time out;
  back = k.tick_received w.one w.past_one w.two w.past_two i.forth i.back l time out;
}
inv_move K L k w (take l time bytes) i s = record {
  forth = take_sent K L w.one w.past_one w.two w.past_two i.forth i.back l time bytes s;
  back = k.take_received w.one w.past_one w.two w.past_two i.forth i.back l time bytes s;
}
inv_move K L k w (look n) i s = i

module _ (K L : Kind) (forth : Keeps K L) (back : Keeps L K) where
  -- a call on either end
  pub inv_step : (w : World K L) (s : Step K L) → Inv K L w → SupposedOf K L w s → Inv K L (step K L w s)
  inv_step w (first c) i s = inv_move K L forth w c i s
  inv_step w (second c) i s = inv_flip L K (move L K (flipped w) c) (inv_move L K back (flipped w) c (inv_flip K L w i) s)

  -- a run
  pub inv_run : (w : World K L) (calls : List (Step K L)) → Inv K L w → SupposedAll K L w calls → Inv K L (run K L w calls)
  inv_run w [] i s = i
  inv_run w (c ∷ more) i s = inv_run (step K L w c) more (inv_step w c i s.0) s.1
