-- What half an exchange leaves: a tick after a silence, and all of its datagrams taken.
use Rattle.std.proofs.Common.{◌≡◌, ℕ, zero, suc, ◌+◌, ◌<◌, ◌≤◌, max, false, ◌&&◌, eqb, ltb, List, [], ◌∷◌, ◌++◌, length, get_or, Some, None, Ok, Err, Option, Result, sym, refl, ap, ◌∙◌, subst, inl, inr, arith}
use Rattle.std.proofs.lemmas.Bool.{and_right, cond-false, cond-true, eq-eqb, le-ltb}
use Rattle.state.specs.Kind.{Kind, Exact, Itself, Onward, Reaches}
use Rattle.packet.specs.declared.refusal.InstructionFault.{InstructionFault}
use Rattle.packet.specs.Pieces.{piece_count, piece}
use Rattle.packet.specs.Instructions.{Update, instruction_bytes, read_instruction}
use Rattle.packet.specs.Datagrams.{datagram_bytes}
use Rattle.packet.specs.Sendings.{parcel, datagrams_of}
use Rattle.packet.proofs.Layouts.{instruction_back}
use Rattle.packet.proofs.Sendings.{datagram_nth, datagram_count}
use Rattle.assembler.specs.Contents.{Held, Contents, nothing, collecting, collects, held_of, held_as}
use Rattle.assembler.specs.Assembling.{gathered}
use Rattle.protocol.specs.End.{Holding, latest}
use Rattle.protocol.specs.Ticking.{AfterTick, new_number, ticked}
use Rattle.protocol.proofs.Ways.{sent_as}
use Rattle.protocol.proofs.Ticks.{TickLeaves, tick_leaves, update_back, some_pieces}
use Rattle.protocol.proofs.Halves.{half_later}
use Rattle.protocol_session.specs.History.{Past}
use Rattle.protocol_session.specs.Law.{DiffsFit, Half, Takes, own, wrote_by}
use Rattle.protocol_session.specs.Law.Half.{looks, ticks}
use Rattle.protocol_session.specs.Runs.{World, Among, tick, Step, first, step, SupposedOf}
use Rattle.protocol_session.proofs.Shared.{look_stays}
use Rattle.protocol_session.proofs.Invariant.{Inv, Instructs}
use Rattle.protocol_session.proofs.Arrival.{Ready as Arriving, Rests, Final, rest_taken, datagrams_from}
use Rattle.protocol_session.proofs.Catching.{Ready, Halfway}
use Rattle.protocol_session.proofs.Silence.{silence_fixes, silence_fits, silence_old, silence_sent, silence_wrote, silence_past}
use Rattle.protocol_session.proofs.Writes.{goes, goes_as, sent_past}

-- one of a list stands in it, whatever stands behind
among_here : (K L : Kind) (ds rest : List (List ℕ)) (k : ℕ) → k < length ds → Among K L (get_or ds k []) (ds ++ rest)
among_here K L [] rest k lt = absurd (omega arith)
among_here K L (d ∷ ds) rest zero lt = inl refl
among_here K L (d ∷ ds) rest (suc k) lt = inr (among_here K L ds rest k (omega arith))

-- nothing of a sending is held
none_held : (c : Contents) (s : ℕ) (bs : List ℕ) → collects c s ≡ false → held_of c s ≡ gathered s bs (λ n. ltb n 0)
none_held c s bs no' = λ i k. (by c no' k ∙ sym (cond-false (ltb k (piece_count bs) && ltb k 0) (Some (held_as (piece s bs k))) None (and_right _ _ (le-ltb k 0 (omega arith))))) i
  where
    by : (c : Contents) → collects c s ≡ false → (k : ℕ) → held_of c s k ≡ None
    by nothing e k = refl
    by (collecting o held) e k = ap (λ (h : ℕ → Option Held). h k) (cond-false (eqb o s) held (λ m. None) e)

module _ (K L : Kind) (exact : Exact K) (itself : Itself K) (onward : Onward K) (reaches : Reaches K)
    (keeps : (w : World K L) (c : Step K L) → SupposedOf K L w c → Inv K L w → Inv K L (step K L w c)) where
  module _ (w : World K L) (r : Ready K L w) (time : ℕ) (out : List ℕ) (late : w.past_one.used + 3000 ≤ time) (in_time : time ≤ latest) (room : 2224 ≤ length out) where
    abbrev x : Holding K L
    x = w.one

    abbrev p : Past K
    p = w.past_one

    abbrev i : Inv K L w
    i = r.inv

    -- the instruction that goes out, and its number
    abbrev u : Update
    u = goes K L x p time

    abbrev s : ℕ
    s = p.sendings + 1

    abbrev w₁ : World K L
    w₁ = step K L w (first (tick own time out))

    inv₁ : Inv K L w₁
    inv₁ = keeps w (first (tick own time out)) tt i

    went : ticked K L x time out ≡ sent_as K L x (max x.end.tally.clock time) out
    went = silence_sent K L x p w.two w.past_two i.forth i.back.received_length itself onward r.fits r.left time late in_time out room

    leaves : TickLeaves K L x (ticked K L x time out)
    leaves = tick_leaves K L x i.forth.own time out

    -- the history after the tick
    past_is : w₁.past_one ≡ sent_past K L x p time
    past_is = silence_past K L x p w.two w.past_two i.forth i.back.received_length itself onward r.fits r.left time late in_time out room

    -- the number that it leads to is the last then
    top_is : w₁.one.end.outgoing.top ≡ new_number K x.end x.sent_store
    top_is = ap (λ (a : AfterTick K). a.end.outgoing.top) went

    instruction_is : w₁.past_one.instruction s ≡ instruction_bytes u
    instruction_is = ap (λ (h : Past K). h.instruction s) past_is ∙ cond-true (eqb s s) _ _ (eq-eqb s s refl)

    -- the new sending's instruction is the one that the tick tells
    instructs : Instructs w₁.one.end.outgoing w₁.past_one s u
    instructs =
        let have = inv₁.forth.sendings s (omega arith) (omega (arith, ap (λ (h : Past K). h.sendings) past_is)) in
        let get : Result Update InstructionFault → Update = λ a. elim a [ Ok v ↦ v | Err f ↦ u ] in
        let same : have.0 ≡ u =
        ap get (sym (instruction_back have.0 have.1.in_order) ∙ ap read_instruction (sym have.1.bytes ∙ instruction_is) ∙ update_back K x.end x.sent_store i.forth.own (max x.end.tally.clock time)) in
        subst (Instructs w₁.one.end.outgoing w₁.past_one s) same have.1

    in_air : (k : ℕ) → k < piece_count (instruction_bytes u) → Among K L (datagram_bytes (parcel p.direction x.end.tally.datagrams s (instruction_bytes u) k)) w₁.past_one.written
    in_air k lt =
        let Q : List ℕ → Type 0 = λ d. Among K L d (goes_as K L x p time ++ p.written) in
        let here = among_here K L (goes_as K L x p time) p.written k (omega (arith, datagram_count p.direction x.end.tally.datagrams s (instruction_bytes u))) in
        subst (Among K L (datagram_bytes (parcel p.direction x.end.tally.datagrams s (instruction_bytes u) k))) (sym (ap (λ (h : Past K). h.written) past_is))
        (subst Q (datagram_nth p.direction x.end.tally.datagrams s (instruction_bytes u) k lt) here)

    same_direction_lem : w₁.past_one.direction ≡ p.direction
    same_direction_lem = ap (λ (h : Past K). h.direction) past_is

    -- the second end is ready for all of it
    arriving : Arriving K L x.end.tally.datagrams s u w₁ 0
    arriving = record {
      inv = inv₁;
      is = instructs;
      old = silence_old K L x p w.two w.past_two i.forth i.back.received_length itself onward r.fits r.left time late in_time out room ∙ sym leaves.anchor;
      new = sym top_is;
      ack = omega (arith, (i.back.holds x.end.incoming.newest i.forth.own.newest_held).fixed);
      held = none_held w.two.end.incoming.half s (instruction_bytes u) (half_later p.sendings p.instruction w.two.end.incoming.half i.forth.half s (omega arith));
      air = λ k lt. subst (λ d. Among K L (datagram_bytes (parcel d x.end.tally.datagrams s (instruction_bytes u) k)) w₁.past_one.written) (sym same_direction_lem) (in_air k lt);
    }

    wrote_all : wrote_by (ticked K L x time out) (ticked K L x time out).answer ≡ datagrams_from w₁.past_one.direction x.end.tally.datagrams s (instruction_bytes u) 0 (piece_count (instruction_bytes u))
    unfolding datagrams_of
    wrote_all =
        silence_wrote K L x p w.two w.past_two i.forth i.back.received_length itself onward r.fits r.left time late in_time out room
        ∙ ap (λ d. datagrams_from d x.end.tally.datagrams s (instruction_bytes u) 0 (piece_count (instruction_bytes u))) (sym same_direction_lem)

    all_arrived : (v : World K L) → Takes K L w₁ (wrote_by (ticked K L x time out) (ticked K L x time out).answer) v → Rests K L w₁ v × Final K L u.ack w₁ v
    all_arrived v t =
        let a = rest_taken K L x.end.tally.datagrams s u reaches keeps t 0 (piece_count (instruction_bytes u)) (omega arith) wrote_all arriving in
        (a.0, a.1 (some_pieces K x.end x.sent_store i.forth.own (max x.end.tally.clock time)))

    ticked_half : (v : World K L) → Takes K L w₁ (wrote_by (ticked K L x time out) (ticked K L x time out).answer) v → Halfway K L w v
    ticked_half v t =
        let a = all_arrived v t in
        let rests = a.0 in
        let same-top : v.one.end.outgoing.top ≡ w₁.one.end.outgoing.top = ap (λ (h : Holding K L). h.end.outgoing.top) rests.one in
        let past : v.past_one ≡ sent_past K L x p time = rests.past_one_lem ∙ past_is in
        record {
          inv = rests.inv;
          shows = a.1.newest ∙ sym same-top;
          fixes = λ space.
              ap (λ (h : Past K). h.fixed v.one.end.outgoing.top) past
              ∙ ap (sent_past K L x p time).fixed (same-top ∙ top_is)
              ∙ silence_fixes K L x p w.two w.past_two i.forth time exact space;
          same_current = ap (λ (h : Past K). h.current) past;
          same_newest = ap (λ (h : Holding K L). h.end.incoming.newest) rests.one ∙ leaves.newest;
          fits = subst (DiffsFit K) (sym past) (silence_fits K L x p w.two w.past_two i.forth time r.fits);
          sent = ap (λ (h : Past K). h.sendings) past;
          other_current = rests.past_two_lem.current;
          other_fixed = rests.past_two_lem.fixed;
          other_top = rests.top;
          other_fits = λ f. record {
            among = λ j k b c le e e'. f.among j k b c le (sym (ap (λ (g : ℕ → Option L.Contents). g j) rests.past_two_lem.fixed) ∙ e) (sym (ap (λ (g : ℕ → Option L.Contents). g k) rests.past_two_lem.fixed) ∙ e');
            ahead = λ j b e. let P : L.Contents → Type 0 = λ c. length (L.diff b c) ≤ 2031 in subst P (sym rests.past_two_lem.current) (f.ahead j b (sym (ap (λ (g : ℕ → Option L.Contents). g j) rests.past_two_lem.fixed) ∙ e));
            here = let P : L.Contents → Type 0 = λ c. length (L.diff c c) ≤ 2031 in subst P (sym rests.past_two_lem.current) f.here;
          };
          other_sent = rests.past_two_lem.sendings;
          acknowledged = a.1.acked;
        }

  by_half : {w v : World K L} → Half K L w v → Ready K L w → Halfway K L w v
  by_half (looks w v c l h) r =
      let P : World K L → Type 0 = λ z. Ready K L z in
      let Q : World K L → Type 0 = λ z. Halfway K L z v in
      subst Q (look_stays w l) (by_half h (subst P (sym (look_stays w l)) r))
  by_half (ticks w v time out late in_time room t) r = ticked_half w r time out late in_time room v t

  pub halved : (w v : World K L) → Ready K L w → Half K L w v → Halfway K L w v
  halved w v r h = by_half h r
