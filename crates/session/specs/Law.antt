-- The session law: what two ends can count on over any radio, about what they show and how they catch up.
use Rattle.std.specs.Prelude.{◌≡◌, ℕ, ◌+◌, ◌≤◌, List, [], ◌∷◌, ◌++◌, length, Some, Ok, Err, Result}
use Rattle.state.specs.Kind.{Kind}
use Rattle.window.specs.Numbers.{lookup}
use Rattle.packet.specs.declared.datagram.Direction.{Direction}
use Rattle.protocol.specs.declared.answer.Ticked.TheVariants.{Idle, Sent}
use Rattle.endpoint.specs.End.{Holding, latest, opened, looked}
use Rattle.protocol.specs.declared.answer.Ticked.{Ticked}
use Rattle.protocol.specs.declared.fault.TickRefusal.{TickRefusal}
use Rattle.endpoint.specs.Ticking.{AfterTick, ticked}
use Rattle.session.specs.History.{Past, begun, opposite, datagrams_in}
use Rattle.session.specs.Runs.{Lent, change, tick, take, look, World, flipped, Step, first, second, step, run, SupposedAll}

module _ {K L : Kind} where
  -- y shows a state that x has fixed, exactly as it was fixed
  abbrev pub NoWrongState : Past K → Holding L K → Type 0
  NoWrongState p y = (n : ℕ) × ((c : K.Contents) × ((looked L K y.end y.received_store ≡ Ok (n, c)) × (p.fixed n ≡ Some c)))

  -- y holds what x has as acknowledged, exactly as x fixed it
  abbrev pub HoldsAcknowledged : Past K → Holding L K → Type 0
  HoldsAcknowledged p y = (c : K.Contents) × (p.fixed p.acked ≡ Some c) × (lookup y.end.received y.received_store p.acked ≡ Some c)

  -- y shows x's current state
  abbrev pub UpToDate : Past K → Holding L K → Type 0
  UpToDate p y = (n : ℕ) × (looked L K y.end y.received_store ≡ Ok (n, p.current))

-- the diffs that may be needed have at most 2,031 bytes: between fixed states, onward or in place, from these to the current one, and from that to itself
pub record Fits (K : Kind) (p : Past K) : Type 0 where
  pub among : (i j : ℕ) (b t : K.Contents) → i ≤ j → p.fixed i ≡ Some b → p.fixed j ≡ Some t → length (K.diff b t) ≤ 2031
  pub ahead : (i : ℕ) (b : K.Contents) → p.fixed i ≡ Some b → length (K.diff b p.current) ≤ 2031
  pub here : length (K.diff p.current p.current) ≤ 2031

-- a look of either end
abbrev pub IsLook : {K L : Kind} → Step K L → Type 0
IsLook (first (change t)) = ⊥
IsLook (first (tick l time out)) = ⊥
IsLook (first (take l time bytes)) = ⊥
IsLook (first (look n)) = Unit {0}
IsLook (second (change t)) = ⊥
IsLook (second (tick l time out)) = ⊥
IsLook (second (take l time bytes)) = ⊥
IsLook (second (look n)) = Unit {0}

-- the stores that an end is lent are its own
abbrev pub own : Lent
own = record { sent = 16; received = 16 }

-- what a tick wrote
abbrev pub wrote_by : {K L : Kind} → AfterTick K L → Result Ticked TickRefusal → List (List ℕ)
wrote_by r (Ok Idle) = []
wrote_by r (Ok (Sent n)) = datagrams_in n r.buffer
wrote_by r (Err f) = []

-- the second end takes datagrams in order, at times that aren't too late, with looks of either end anywhere
pub data Takes (K L : Kind) : World K L → List (List ℕ) → World K L → Type 0 where
  none : (w : World K L) → Takes K L w [] w
  looks : (w v : World K L) (ds : List (List ℕ)) (c : Step K L) → IsLook c → Takes K L (step K L w c) ds v → Takes K L w ds v
  takes : (w v : World K L) (d : List ℕ) (ds : List (List ℕ)) (time : ℕ) → time ≤ latest → Takes K L (step K L w (second (take own time d))) ds v → Takes K L w (d ∷ ds) v

-- half an exchange: a tick of the first end, at least 3,000 above every time that it has used, and the second end takes all that it wrote
pub data Half (K L : Kind) : World K L → World K L → Type 0 where
  looks : (w v : World K L) (c : Step K L) → IsLook c → Half K L (step K L w c) v → Half K L w v
  ticks : (w v : World K L) (time : ℕ) (out : List ℕ) → w.past_one.used + 3000 ≤ time → time ≤ latest → 2224 ≤ length out
      → Takes K L (step K L w (first (tick own time out))) (wrote_by (ticked K L w.one time out) (ticked K L w.one time out).answer) v → Half K L w v

-- an exchange: half of it with the first end first, then half with the second
pub record Exchange (K L : Kind) (w v : World K L) : Type 0 where
  pub middle : World K L
  pub forth : Half K L w middle
  pub back : Half L K (flipped middle) (flipped v)

-- two sendings are left: the last but one of 1,000,000 has not been made
abbrev pub TwoLeft : {K : Kind} → Past K → Type 0
TwoLeft p = p.instruction 999999 ≡ []

-- after two exchanges without a change, the first end first, each end shows the other's current state
abbrev pub CatchesUp : (K L : Kind) → World K L → Type 0
CatchesUp K L w =
    Fits K w.past_one → Fits L w.past_two → TwoLeft w.past_one → TwoLeft w.past_two
    → (u v : World K L) → Exchange K L w u → Exchange K L u v → UpToDate w.past_one v.two × UpToDate w.past_two v.one

-- the number shown never falls from one moment to a later one
abbrev pub NoStepBack : {K L : Kind} → Holding K L → Holding K L → Type 0
NoStepBack {K} {L} before after =
    (m n : ℕ) (c c' : L.Contents) → looked K L before.end before.received_store ≡ Ok (m, c) → looked K L after.end after.received_store ≡ Ok (n, c') → m ≤ n

-- what holds after a list of calls, and from each moment before
pub record Holds (K L : Kind) (w₀ : World K L) (calls : List (Step K L)) : Type 0 where
  pub first_right : NoWrongState (run K L w₀ calls).past_one (run K L w₀ calls).two
  pub second_right : NoWrongState (run K L w₀ calls).past_two (run K L w₀ calls).one
  pub first_held : HoldsAcknowledged (run K L w₀ calls).past_one (run K L w₀ calls).two
  pub second_held : HoldsAcknowledged (run K L w₀ calls).past_two (run K L w₀ calls).one
  pub no_step_back : (before after : List (Step K L)) → calls ≡ before ++ after
      → NoStepBack (run K L w₀ before).one (run K L w₀ calls).one × NoStepBack (run K L w₀ before).two (run K L w₀ calls).two
  pub first_first : CatchesUp K L (run K L w₀ calls)
  pub second_first : CatchesUp L K (flipped (run K L w₀ calls))

-- two ends opened in opposite directions, at any times and over any stores that aren't refused, and any list of calls
abbrev pub SessionLaw : Kind → Kind → Type 0
SessionLaw K L =
    (d : Direction) (t t' : ℕ) (ks : List K.Contents) (ls : List L.Contents) (ls' : List L.Contents) (ks' : List K.Contents) (x : Holding K L) (y : Holding L K)
    → opened K L d t ks ls ≡ Ok x → opened L K (opposite d) t' ls' ks' ≡ Ok y
    → (calls : List (Step K L)) → SupposedAll K L (record { one = x; two = y; past_one = begun K t; past_two = begun L t' }) calls
    → Holds K L (record { one = x; two = y; past_one = begun K t; past_two = begun L t' }) calls
