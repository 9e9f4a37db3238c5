-- What holds between two ends at every moment of a run, for the direction from the end x to the end y.
use Rattle.std.proofs.Common.{◌≡◌, ℕ, ◌<◌, ◌≤◌, Bool, true, List, length, Some, None, Option}
use Rattle.state.specs.Kind.{Kind}
use Rattle.window.specs.Numbers.{lookup}
use Rattle.packet.specs.Pieces.{piece_count}
use Rattle.packet.specs.Instructions.{Update, together, instruction_bytes}
use Rattle.packet.specs.Datagrams.{datagram_bytes}
use Rattle.packet.specs.Sendings.{parcel}
use Rattle.assembler.specs.Contents.{collects, held_of}
use Rattle.assembler.specs.Assembling.{gathered}
use Rattle.endpoint.specs.End.{End, Holding}
use Rattle.endpoint.specs.Own.{Own}
use Rattle.session.specs.History.{Past, opposite, ack_in}
use Rattle.session.specs.Runs.{World, Among}

-- the state fixed under a number, and the start where none is
abbrev pub state_of : (K : Kind) → Option K.Contents → K.Contents
state_of K None = K.start
state_of K (Some c) = c

abbrev pub state : {K : Kind} → Past K → ℕ → K.Contents
state {K} p n = state_of K (p.fixed n)

-- a sending of x: its instruction leads from a fixed state to another, within its reach
pub record Instructs (K L : Kind) (x : End K L) (p : Past K) (s : ℕ) (u : Update) : Type 0 where
  pub bytes : p.instruction s ≡ instruction_bytes u
  pub in_order : together u ≡ true
  pub reached : u.new ≤ x.top
  pub needless : u.throwaway ≤ x.sent.anchor
  pub steps : u.diff ≡ K.diff (state p u.old) (state p u.new)
  pub short : length u.diff ≤ 2031

-- a datagram of x: a piece of one of its sendings
pub record Carries (K L : Kind) (x : End K L) (p : Past K) (d : List ℕ) : Type 0 where
  pub sending : ℕ
  pub piece : ℕ
  pub from : ℕ
  pub some : 1 ≤ sending
  pub past : sending ≤ x.sendings
  pub one_of : piece < piece_count (p.instruction sending)
  pub is : d ≡ datagram_bytes (parcel x.direction from sending (p.instruction sending) piece)

-- pieces of x's sending s that y has half made
pub record Gathers (K L : Kind) (x : End K L) (p : Past K) (y : End L K) (s : ℕ) : Type 0 where
  pub some : 1 ≤ s
  pub past : s ≤ x.sendings
  pub has : ℕ → Bool
  pub are : held_of y.half s ≡ gathered s (p.instruction s) has

-- a number that y holds
pub record Holds (K L : Kind) (x : End K L) (p : Past K) (y : Holding L K) (n : ℕ) : Type 0 where
  pub fixed : n ≤ x.top
  pub shows : lookup y.end.received y.received_store n ≡ Some (state p n)

-- an ack that y sent
pub record Acks (K L : Kind) (y : End L K) (q : Past L) (s : ℕ) : Type 0 where
  pub old : ack_in (q.instruction s) ≤ y.newest
  pub kept : y.received.anchor ≤ ack_in (q.instruction s) → y.received.held (ack_in (q.instruction s)) ≡ true

-- x with its history p sends to y with its history q
pub record Joined (K L : Kind) (x : Holding K L) (p : Past K) (y : Holding L K) (q : Past L) : Type 0 where
  -- x's own bounds, and its store's length and y's
  pub own : Own K L x.end
  pub sent_length : length x.sent_store ≡ 16
  pub received_length : length y.received_store ≡ 16
  pub directions : y.end.direction ≡ opposite x.end.direction
  -- x's fields are its history's
  pub current : x.end.current ≡ p.current
  pub acked : x.end.sent.anchor ≡ p.acked
  pub used : x.end.clock ≡ p.used
  -- exactly the numbers up to the last are fixed
  pub fixed : (n : ℕ) → n ≤ x.end.top → p.fixed n ≡ Some (state p n)
  pub unfixed : (n : ℕ) → x.end.top < n → p.fixed n ≡ None
  -- each fixed state follows those before it, and the current one follows all
  pub onward : (i j : ℕ) → i ≤ j → j ≤ x.end.top → K.follows (state p i) (state p j) ≡ true
  pub ahead : (i : ℕ) → i ≤ x.end.top → K.follows (state p i) x.end.current ≡ true
  -- x's window has them
  pub stored : (n : ℕ) → x.end.sent.anchor ≤ n → n ≤ x.end.top → lookup x.end.sent x.sent_store n ≡ Some (state p n)
  -- x's sendings, and the datagrams that are in the air
  pub sendings : (s : ℕ) → 1 ≤ s → s ≤ x.end.sendings → (u : Update) × Instructs K L x.end p s u
  pub air : (d : List ℕ) → Among K L d p.written → Carries K L x.end p d
  -- what y has half made, and what it holds
  pub half : (s : ℕ) → collects y.end.half s ≡ true → Gathers K L x.end p y.end s
  pub holds : (n : ℕ) → y.end.received.held n ≡ true → Holds K L x.end p y n
  pub dropped : y.end.received.anchor ≤ x.end.sent.anchor
  -- the acks of y's sendings, and what x has as acknowledged
  pub acks : (s : ℕ) → 1 ≤ s → s ≤ y.end.sendings → Acks K L y.end q s
  pub confirmed : y.end.received.held x.end.sent.anchor ≡ true

-- both directions
pub record Inv (K L : Kind) (w : World K L) : Type 0 where
  pub forth : Joined K L w.one w.past_one w.two w.past_two
  pub back : Joined L K w.two w.past_two w.one w.past_one
