-- What holds between two ends at every moment of a run, for the direction from the end x to the end y.
use Rattle.std.proofs.Common.{◌≡◌, ℕ, ◌<◌, ◌≤◌, true, List, length, Some, None, Option}
use Rattle.state.specs.Kind.{Kind}
use Rattle.window.specs.Numbers.{lookup}
use Rattle.packet.specs.Pieces.{piece_count}
use Rattle.packet.specs.Instructions.{Update, together, instruction_bytes}
use Rattle.packet.specs.Datagrams.{datagram_bytes}
use Rattle.packet.specs.Sendings.{parcel}
use Rattle.protocol.specs.End.{Outgoing, Incoming, Holding}
use Rattle.protocol.specs.Own.{Own}
use Rattle.protocol.proofs.Halves.{HalfOf}
use Rattle.protocol_session.specs.History.{Past, opposite, ack_in}
use Rattle.protocol_session.specs.Runs.{World, Among}

-- the state fixed under a number, and the start where none is
abbrev pub state_of : (K : Kind) → Option K.Contents → K.Contents
state_of K None = K.start
state_of K (Some c) = c

abbrev pub state : {K : Kind} → Past K → ℕ → K.Contents
state {K} p n = state_of K (p.fixed n)

-- a sending: its instruction leads from a fixed state to another, within the reach of what goes out
pub record Instructs {K : Kind} (o : Outgoing) (p : Past K) (s : ℕ) (u : Update) : Type 0 where
  pub bytes : p.instruction s ≡ instruction_bytes u
  pub in_order : together u ≡ true
  pub reached : u.new ≤ o.top
  pub needless : u.throwaway ≤ o.numbers.anchor
  pub steps : u.diff ≡ K.diff (state p u.old) (state p u.new)
  pub short : length u.diff ≤ 2031

-- a datagram that was written: a piece of one of the sendings
pub record Carries {K : Kind} (p : Past K) (d : List ℕ) : Type 0 where
  pub sending : ℕ
  pub piece : ℕ
  pub from : ℕ
  pub some : 1 ≤ sending
  pub past : sending ≤ p.sendings
  pub one_of : piece < piece_count (p.instruction sending)
  pub is : d ≡ datagram_bytes (parcel p.direction from sending (p.instruction sending) piece)

-- a number that the other end holds
pub record Holds {K : Kind} (o : Outgoing) (p : Past K) (i : Incoming) (store : List K.Contents) (n : ℕ) : Type 0 where
  pub fixed : n ≤ o.top
  pub shows : lookup i.numbers store n ≡ Some (state p n)

-- an ack that was sent
pub record Acks {L : Kind} (i : Incoming) (q : Past L) (s : ℕ) : Type 0 where
  pub old : ack_in (q.instruction s) ≤ i.newest
  pub kept : i.numbers.anchor ≤ ack_in (q.instruction s) → i.numbers.held (ack_in (q.instruction s)) ≡ true

-- x with its history p sends to y with its history q
pub record Joined (K L : Kind) (x : Holding K L) (p : Past K) (y : Holding L K) (q : Past L) : Type 0 where
  -- x's own bounds, and its store's length and y's
  pub own : Own x.end
  pub sent_length : length x.sent_store ≡ 16
  pub received_length : length y.received_store ≡ 16
  -- x's fields are its history's
  pub direction : x.end.direction ≡ p.direction
  pub current : x.end.current ≡ p.current
  pub counted : x.end.tally.sendings ≡ p.sendings
  pub acked : x.end.outgoing.numbers.anchor ≡ p.acked
  pub used : x.end.tally.clock ≡ p.used
  -- y sends in the other direction
  pub directions : y.end.direction ≡ opposite p.direction
  -- exactly the numbers up to the last are fixed
  pub fixed : (n : ℕ) → n ≤ x.end.outgoing.top → p.fixed n ≡ Some (state p n)
  pub unfixed : (n : ℕ) → x.end.outgoing.top < n → p.fixed n ≡ None
  -- each fixed state follows those before it, and the current one follows all
  pub onward : (i j : ℕ) → i ≤ j → j ≤ x.end.outgoing.top → K.follows (state p i) (state p j) ≡ true
  pub ahead : (i : ℕ) → i ≤ x.end.outgoing.top → K.follows (state p i) p.current ≡ true
  -- x's window has them
  pub stored : (n : ℕ) → x.end.outgoing.numbers.anchor ≤ n → n ≤ x.end.outgoing.top → lookup x.end.outgoing.numbers x.sent_store n ≡ Some (state p n)
  -- x's sendings, and the datagrams that are in the air
  pub sendings : (s : ℕ) → 1 ≤ s → s ≤ p.sendings → (u : Update) × Instructs x.end.outgoing p s u
  pub air : (d : List ℕ) → Among K L d p.written → Carries p d
  -- what y has half made, and what it holds
  pub half : HalfOf p.sendings p.instruction y.end.incoming.half
  pub holds : (n : ℕ) → y.end.incoming.numbers.held n ≡ true → Holds x.end.outgoing p y.end.incoming y.received_store n
  pub dropped : y.end.incoming.numbers.anchor ≤ x.end.outgoing.numbers.anchor
  -- the acks of y's sendings, and what x has as acknowledged
  pub acks : (s : ℕ) → 1 ≤ s → s ≤ q.sendings → Acks y.end.incoming q s
  pub confirmed : y.end.incoming.numbers.held x.end.outgoing.numbers.anchor ≡ true

-- both directions
pub record Inv (K L : Kind) (w : World K L) : Type 0 where
  pub forth : Joined K L w.one w.past_one w.two w.past_two
  pub back : Joined L K w.two w.past_two w.one w.past_one
