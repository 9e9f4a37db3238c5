-- The half-made instruction of an end that takes what another wrote: pieces of one of the other's sendings.
use Rattle.std.proofs.Common.{◌≡◌, ℕ, ◌<◌, ◌≤◌, Bool, true, false, cond, ◌&&◌, eqb, ltb, List, length, None, Ok, Err, sym, refl, ap, ◌∙◌, subst, ⊎_elim, arith}
use Rattle.std.proofs.lemmas.Bool.{cond-true, cond-false, and_right, cases_Bool, ne_eqb, eqb-true}
use Rattle.state.specs.Kind.{Kind}
use Rattle.packet.specs.declared.datagram.Direction.{Direction}
use Rattle.packet.specs.declared.refusal.ReadFault.{ReadFault}
use Rattle.packet.specs.declared.refusal.ReadFault.TheVariants as reading
use Rattle.packet.specs.declared.refusal.DatagramFault.TheVariants.{OwnDirection}
use Rattle.packet.specs.Pieces.{piece_count, piece}
use Rattle.packet.specs.Instructions.{Update, together, instruction_bytes, read_instruction}
use Rattle.packet.specs.Datagrams.{Parcel, same_direction, datagram_bytes, read_datagram}
use Rattle.packet.specs.Sendings.{parcel}
use Rattle.packet.proofs.Layouts.{datagram_own, instruction_back}
use Rattle.packet.proofs.Sound.{piece_sound}
use Rattle.assembler.specs.Contents.{Contents, nothing, collecting, collects, held_of, none}
use Rattle.assembler.specs.Offers.{Outcome, partly, wholly, offered}
use Rattle.assembler.specs.Assembling.{every, gathered, also}
use Rattle.assembler.proofs.Assembling.{assembles}
use Rattle.protocol.specs.declared.fault.TakeFault.{TakeFault}
use Rattle.endpoint.specs.End.{Holding}
use Rattle.endpoint.specs.Taking as take
use Rattle.endpoint.specs.Taking.{taken}
use Rattle.endpoint.proofs.Ways.{Carries, Reads, take_ways}

-- bytes that aren't read as a datagram are refused
pub unread_refused : (K L : Kind) (h : Holding K L) (time : ℕ) (bytes : List ℕ) (f : ReadFault) → read_datagram h.end.direction bytes ≡ Err f → (g : TakeFault) × (taken K L h time bytes ≡ take.refuses K L h 0 g)
unread_refused K L h time bytes f e =
    take_ways K L h time bytes (λ r. (g : TakeFault) × (r ≡ take.refuses K L h 0 g))
    (λ g. (g, refl))
    (λ g half k w. absurd (apart g k.datagram))
    (λ g bs u r y. absurd (apart g r.carries.datagram))
    (λ g bs u r n m. absurd (apart g r.carries.datagram))
    (λ g bs u base c r n l a. absurd (apart g r.carries.datagram))
  where
    apart : (g : Parcel) → read_datagram h.end.direction bytes ≡ Ok g → ⊥
    apart g q = let z : ◌≡◌ {A = ℕ} 0 1 = cc in omega arith

-- so an end refuses what it wrote itself
pub own_refused : (K L : Kind) (h : Holding K L) (time first s : ℕ) (bs : List ℕ) (k : ℕ) (d : Direction) → same_direction d h.end.direction ≡ true → length bs ≤ 2048 → k < piece_count bs → (g : TakeFault) × (taken K L h time (datagram_bytes (parcel d first s bs k)) ≡ take.refuses K L h 0 g)
own_refused K L h time first s bs k d own short below = unread_refused K L h time (datagram_bytes (parcel d first s bs k)) (reading.Datagram OwnDirection) (datagram_own _ refl (parcel d first s bs k) h.end.direction own (omega arith) (piece_sound s bs k short below))

-- nothing is gathered of no numbers
gathered_nothing : (s : ℕ) (bs : List ℕ) → gathered s bs (λ n. false) ≡ none
gathered_nothing s bs = λ i n. at n i
  where
    at : (n : ℕ) → gathered s bs (λ m. false) n ≡ None
    at n = cond-false (ltb n (piece_count bs) && false) _ None (and_right (ltb n (piece_count bs)) false refl)

-- an outcome that is the whole, or a part
whole_same : (b : Bool) (r : Outcome) (bs is : List ℕ) (c : Contents) → r ≡ wholly bs → r ≡ cond b (wholly is) (partly c) → bs ≡ is
whole_same true r bs is c p q = cc
whole_same false r bs is c p q = let z : ◌≡◌ {A = ℕ} 0 1 = cc in absurd (omega arith)

part_same : (b : Bool) (r : Outcome) (c is : Contents) (bs : List ℕ) → r ≡ partly c → r ≡ cond b (wholly bs) (partly is) → c ≡ is
part_same true r c is bs p q = let z : ◌≡◌ {A = ℕ} 0 1 = cc in absurd (omega arith)
part_same false r c is bs p q = cc

module _ (sent : ℕ) (instruction : ℕ → List ℕ) where
  -- nothing, or pieces of the instruction of one of the sendings so far
  abbrev pub HalfOf : Contents → Type 0
  HalfOf nothing = Unit {0}
  HalfOf (collecting s held) = (s ≤ sent) × ((has : ℕ → Bool) × (held ≡ gathered s (instruction s) has))

  -- what is held of any sending is pieces of its instruction
  pub half_held : (c : Contents) → HalfOf c → (s : ℕ) → (has : ℕ → Bool) × (held_of c s ≡ gathered s (instruction s) has)
  half_held nothing p s = ((λ n. false), sym (gathered_nothing s (instruction s)))
  half_held (collecting o held) p s =
      ⊎_elim
      (λ e. (p.1.0, cond-true (eqb o s) held none e ∙ subst (λ x. held ≡ gathered x (instruction x) p.1.0) (eqb-true o s e) p.1.1))
      (λ e. ((λ n. false), cond-false (eqb o s) held none e ∙ sym (gathered_nothing s (instruction s))))
      (cases_Bool (eqb o s))

  -- no later sending is collected
  pub half_later : (c : Contents) → HalfOf c → (s : ℕ) → sent < s → collects c s ≡ false
  half_later nothing p s lt = refl
  half_later (collecting o held) p s lt = ne_eqb o s (λ e. omega (arith, p.0))

-- it is so still when there are more sendings
pub half_more : (sent sent' : ℕ) (instruction instruction' : ℕ → List ℕ) (c : Contents) → sent ≤ sent' → ((s : ℕ) → s ≤ sent → instruction' s ≡ instruction s) → HalfOf sent instruction c → HalfOf sent' instruction' c
half_more sent sent' ins ins' nothing le same p = tt
half_more sent sent' ins ins' (collecting s held) le same p = (omega (arith, p.0), (p.1.0, p.1.1 ∙ ap (λ bs. gathered s bs p.1.0) (sym (same s p.0))))

module _ (K L : Kind) (h : Holding K L) (sent : ℕ) (instruction : ℕ → List ℕ) (half : HalfOf sent instruction h.end.half) (time : ℕ) (bytes : List ℕ) where
  -- bytes that are read as a piece of a sending
  module _ (d : Direction) (first s k : ℕ) (known : s ≤ sent) (some : 1 ≤ length (instruction s)) (short : length (instruction s) ≤ 2048) (below : k < piece_count (instruction s)) (read : read_datagram h.end.direction bytes ≡ Ok (parcel d first s (instruction s) k)) where
    -- which of its pieces are held
    abbrev has : ℕ → Bool
    has = (half_held sent instruction h.end.half half s).0

    joins : offered h.end.half (piece s (instruction s) k) ≡ cond (every (piece_count (instruction s)) (also has k)) (wholly (instruction s)) (partly (collecting s (gathered s (instruction s) (also has k))))
    joins = (assembles.0 s (instruction s) some short).0 h.end.half has (half_held sent instruction h.end.half half s).1 k below

    -- the parcel that a take reads
    parcel_is : (g : Parcel) → Carries K L h time bytes g → g ≡ parcel d first s (instruction s) k
    parcel_is g c = let q = c.datagram in cc

    offered_is : (g : Parcel) → Carries K L h time bytes g → offered h.end.half g.piece ≡ cond (every (piece_count (instruction s)) (also has k)) (wholly (instruction s)) (partly (collecting s (gathered s (instruction s) (also has k))))
    offered_is g c = ap (λ (x : Parcel). offered h.end.half x.piece) (parcel_is g c) ∙ joins

    -- an instruction that is read whole is the sending's
    pub reads_instruction : (g : Parcel) (bs : List ℕ) (u : Update) → Reads K L h time bytes g bs u → bs ≡ instruction s
    reads_instruction g bs u r = whole_same (every (piece_count (instruction s)) (also has k)) (offered h.end.half g.piece) bs (instruction s) _ r.whole (offered_is g r.carries)

    -- and says what the sending's said
    pub reads_update : (v : Update) → together v ≡ true → instruction s ≡ instruction_bytes v → (g : Parcel) (bs : List ℕ) (u : Update) → Reads K L h time bytes g bs u → u ≡ v
    reads_update v numbers is g bs u r =
        let same : read_instruction bs ≡ Ok v = ap read_instruction (reads_instruction g bs u r ∙ is) ∙ instruction_back v numbers in
        let it = r.instruction in
        cc

    -- and the half-made instruction stays pieces of a sending
    pub half_taken : HalfOf sent instruction (taken K L h time bytes).end.half
    half_taken =
        take_ways K L h time bytes (λ r. HalfOf sent instruction r.end.half)
        (λ _. half)
        (λ g c r e. subst (HalfOf sent instruction) (sym (part_same (every (piece_count (instruction s)) (also has k)) (offered h.end.half g.piece) c _ (instruction s) e (offered_is g r))) (known, (also has k, refl)))
        (λ g bs u r y. tt)
        (λ g bs u r n m. tt)
        (λ g bs u base c r n l a. tt)
