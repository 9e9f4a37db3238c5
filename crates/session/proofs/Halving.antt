-- What half an exchange leaves: a tick after a silence, and all of its datagrams taken.
use Rattle.std.proofs.Common.{◌≡◌, ℕ, zero, suc, ◌+◌, ◌<◌, ◌≤◌, max, false, ◌&&◌, eqb, ltb, List, [], ◌∷◌, ◌++◌, length, get_or, Some, None, Ok, Err, Option, Result, sym, refl, ap, ◌∙◌, subst, inl, inr, arith}
use Rattle.std.proofs.lemmas.Bool.{and_right, cases_Bool, cond-false, cond-true, eq-eqb, le-ltb}
use Rattle.state.specs.Kind.{Kind, Exact, Itself, Onward, Reaches}
use Rattle.packet.specs.declared.refusal.InstructionFault.{InstructionFault}
use Rattle.packet.specs.Pieces.{piece_count, piece}
use Rattle.packet.specs.Instructions.{Update, instruction_bytes, read_instruction}
use Rattle.packet.specs.Datagrams.{datagram_bytes}
use Rattle.packet.specs.Sendings.{parcel, datagrams_of}
use Rattle.packet.proofs.Layouts.{instruction_back}
use Rattle.packet.proofs.Sendings.{datagram_nth, datagram_count}
use Rattle.assembler.specs.Contents.{Held, Contents, nothing, collecting, collects, held_of, held_as}
use Rattle.assembler.specs.Assembling.{gathered}
use Rattle.endpoint.specs.End.{Holding, latest}
use Rattle.endpoint.specs.Ticking.{AfterTick, ticked, update}
use Rattle.endpoint.proofs.Ways.{Sends, sent_as}
use Rattle.endpoint.proofs.Ticks.{TickLeaves, tick_leaves, update_back, some_pieces}
use Rattle.session.specs.History.{Past, opposite, after_tick}
use Rattle.session.specs.Law.{Fits, Half, Takes, own, wrote_by}
use Rattle.session.specs.Law.Half.{looks, ticks}
use Rattle.session.specs.Runs.{World, Among, tick, Step, first, step, SupposedOf}
use Rattle.session.proofs.Shared.{look_stays}
use Rattle.session.proofs.Invariant.{Inv, Instructs}
use Rattle.session.proofs.Arrival.{Ready as Arriving, Rests, Final, rest_taken, datagrams_from}
use Rattle.session.proofs.Catching.{Ready, Halfway}
use Rattle.session.proofs.Silence as silence
use Rattle.session.proofs.Writes.{sent_past, wrote_is}

-- one of a list stands in it, whatever stands behind
among_here : (K L : Kind) (ds rest : List (List ℕ)) (k : ℕ) → k < length ds → Among K L (get_or ds k []) (ds ++ rest)
among_here K L [] rest k lt = absurd (omega arith)
among_here K L (d ∷ ds) rest zero lt = inl refl
among_here K L (d ∷ ds) rest (suc k) lt = inr (among_here K L ds rest k (omega arith))

-- nothing of a sending is held
none_held : (c : Contents) (s : ℕ) (bs : List ℕ) → collects c s ≡ false → held_of c s ≡ gathered s bs (λ n. ltb n 0)
none_held c s bs no' = λ i k. (by c no' k ∙ sym (cond-false (ltb k (piece_count bs) && ltb k 0) (Some (held_as (piece s bs k))) None (and_right _ _ (le-ltb k 0 (omega arith))))) i
  where
    by : (c : Contents) → collects c s ≡ false → (k : ℕ) → held_of c s k ≡ None
    by nothing e k = refl
    by (collecting o held) e k = ap (λ (h : ℕ → Option Held). h k) (cond-false (eqb o s) held (λ m. None) e)

module _ (K L : Kind) (exact : Exact K) (itself : Itself K) (onward : Onward K) (reaches : Reaches K)
    (keeps : (w : World K L) (c : Step K L) → SupposedOf K L w c → Inv K L w → Inv K L (step K L w c)) where
  module _ (w : World K L) (r : Ready K L w) (time : ℕ) (out : List ℕ) (late : w.past_one.used + 3000 ≤ time) (in_time : time ≤ latest) (room : 2224 ≤ length out) where
    abbrev x : Holding K L
    x = w.one

    abbrev p : Past K
    p = w.past_one

    abbrev i : Inv K L w
    i = r.inv

    abbrev u : Update
    u = update K L x.end x.sent_store (max x.end.clock time)

    abbrev s : ℕ
    s = x.end.sendings + 1

    abbrev w₁ : World K L
    w₁ = step K L w (first (tick own time out))

    inv₁ : Inv K L w₁
    inv₁ = keeps w (first (tick own time out)) tt i

    sending : Sends K L x time out
    sending = silence.silence_sending K L x p w.two w.past_two i.forth i.back.received_length exact itself onward r.fits r.left time late in_time out room

    went : ticked K L x time out ≡ sent_as K L x (max x.end.clock time) out
    went = silence.silence_sent K L x p w.two w.past_two i.forth i.back.received_length exact itself onward r.fits r.left time late in_time out room

    leaves : TickLeaves K L x (ticked K L x time out)
    leaves = tick_leaves K L x i.forth.own time out

    -- the history after the tick
    past_is : w₁.past_one ≡ sent_past K L x p time out i.forth.own sending
    past_is =
        ap (λ (a : AfterTick K L). after_tick p (opposite x.end.direction) time a.answer a.buffer) went ∙ wrote_is K L x p time out i.forth.own sending

    sendings_are : w₁.one.end.sendings ≡ s
    sendings_are = ap (λ (a : AfterTick K L). a.end.sendings) went

    instruction_is : w₁.past_one.instruction s ≡ instruction_bytes u
    instruction_is = ap (λ (h : Past K). h.instruction s) past_is ∙ cond-true (eqb s s) _ _ (eq-eqb s s refl)

    -- the new sending's instruction is the one that the tick tells
    instructs : Instructs K L w₁.one.end w₁.past_one s u
    instructs =
        let have = inv₁.forth.sendings s (omega arith) (omega (arith, sendings_are)) in
        let get : Result Update InstructionFault → Update = λ a. elim a [ Ok v ↦ v | Err f ↦ u ] in
        let same : have.0 ≡ u =
        ap get (sym (instruction_back have.0 have.1.in_order) ∙ ap read_instruction (sym have.1.bytes ∙ instruction_is) ∙ update_back K L x.end x.sent_store (max x.end.clock time) i.forth.own) in
        let P : Update → Type 0 = λ v. Instructs K L w₁.one.end w₁.past_one s v in
        subst P same have.1

    other_half : collects w.two.end.half s ≡ false
    other_half =
        elim (cases_Bool (collects w.two.end.half s)) [ inl t ↦ absurd (omega (arith, (i.forth.half s t).past)) | inr f ↦ f ]

    tells : (u.old ≡ x.end.sent.anchor) × ((u.new ≡ (ticked K L x time out).end.top) × ((u.ack ≡ x.end.newest) × (u.throwaway ≡ x.end.sent.anchor)))
    tells = silence.silence_update K L x p w.two w.past_two i.forth i.back.received_length exact itself onward r.fits r.left time late in_time out room

    in_air : (k : ℕ) → k < piece_count (instruction_bytes u) → Among K L (datagram_bytes (parcel w₁.one.end.direction x.end.datagrams s (instruction_bytes u) k)) w₁.past_one.written
    in_air k lt =
        let ds : List (List ℕ) = datagrams_of x.end.direction x.end.datagrams s (instruction_bytes u) in
        let P : List (List ℕ) → Type 0 = λ ws. Among K L (datagram_bytes (parcel w₁.one.end.direction x.end.datagrams s (instruction_bytes u) k)) ws in
        let Q : List ℕ → Type 0 = λ d. Among K L d (ds ++ p.written) in
        let here = among_here K L ds p.written k (omega (arith, datagram_count x.end.direction x.end.datagrams s (instruction_bytes u))) in
        subst P (sym (ap (λ (h : Past K). h.written) past_is))
        (subst Q (datagram_nth x.end.direction x.end.datagrams s (instruction_bytes u) k lt ∙ ap (λ d. datagram_bytes (parcel d x.end.datagrams s (instruction_bytes u) k)) (sym leaves.direction)) here)

    -- the second end is ready for all of it
    arriving : Arriving K L x.end.datagrams s u w₁ 0
    arriving = record {
      inv = inv₁;
      is = instructs;
      old = tells.0 ∙ sym leaves.anchor;
      new = tells.1.0;
      ack = omega (arith, (i.back.holds x.end.newest i.forth.own.newest_held).fixed);
      held = none_held w.two.end.half s (instruction_bytes u) other_half;
      air = in_air;
    }

    wrote_all : wrote_by (ticked K L x time out) (ticked K L x time out).answer ≡ datagrams_from w₁.one.end.direction x.end.datagrams s (instruction_bytes u) 0 (piece_count (instruction_bytes u))
    unfolding datagrams_of
    wrote_all =
        silence.silence_wrote K L x p w.two w.past_two i.forth i.back.received_length exact itself onward r.fits r.left time late in_time out room
        ∙ ap (λ d. datagrams_from d x.end.datagrams s (instruction_bytes u) 0 (piece_count (instruction_bytes u))) (sym leaves.direction)

    all_arrived : (v : World K L) → Takes K L w₁ (wrote_by (ticked K L x time out) (ticked K L x time out).answer) v → Rests K L w₁ v × Final K L u.ack w₁ v
    all_arrived v t =
        let a = rest_taken K L x.end.datagrams s u reaches keeps t 0 (piece_count (instruction_bytes u)) (omega arith) wrote_all arriving in
        (a.0, a.1 (some_pieces K L x.end x.sent_store (max x.end.clock time) i.forth.own))

    ticked_half : (v : World K L) → Takes K L w₁ (wrote_by (ticked K L x time out) (ticked K L x time out).answer) v → Halfway K L w v
    ticked_half v t =
        let a = all_arrived v t in
        let rests = a.0 in
        let top_is : v.one.end.top ≡ w₁.one.end.top = ap (λ (h : Holding K L). h.end.top) rests.one in
        record {
          inv = rests.inv;
          shows = a.1.newest ∙ sym top_is;
          fixes = λ room'.
              ap (λ (h : Past K). h.fixed v.one.end.top) rests.past_one_lem
              ∙ ap w₁.past_one.fixed top_is
              ∙ silence.silence_fixes K L x p w.two w.past_two i.forth i.back.received_length exact itself onward r.fits r.left time late in_time out room room';
          same_current = ap (λ (h : Past K). h.current) (rests.past_one_lem ∙ past_is);
          same_newest = ap (λ (h : Holding K L). h.end.newest) rests.one ∙ leaves.newest;
          fits =
              let P : Past K → Type 0 = λ h. Fits K h in
              subst P (sym rests.past_one_lem) (silence.silence_fits K L x p w.two w.past_two i.forth i.back.received_length exact itself onward r.fits r.left time late in_time out room);
          sent = ap (λ (h : Holding K L). h.end.sendings) rests.one ∙ sendings_are;
          other_current = rests.past_two_lem.current;
          other_fixed = rests.past_two_lem.fixed;
          other_top = rests.top;
          other_fits = λ f. record {
            among = λ j k b c le e e'. f.among j k b c le (sym (ap (λ (g : ℕ → Option L.Contents). g j) rests.past_two_lem.fixed) ∙ e) (sym (ap (λ (g : ℕ → Option L.Contents). g k) rests.past_two_lem.fixed) ∙ e');
            ahead = λ j b e. let P : L.Contents → Type 0 = λ c. length (L.diff b c) ≤ 2031 in subst P (sym rests.past_two_lem.current) (f.ahead j b (sym (ap (λ (g : ℕ → Option L.Contents). g j) rests.past_two_lem.fixed) ∙ e));
            here = let P : L.Contents → Type 0 = λ c. length (L.diff c c) ≤ 2031 in subst P (sym rests.past_two_lem.current) f.here;
          };
          other_sent = rests.sendings;
          acknowledged = omega (arith, a.1.acked, tells.1.1.0);
        }

  by_half : {w v : World K L} → Half K L w v → Ready K L w → Halfway K L w v
  by_half (looks w v c l h) r =
      let P : World K L → Type 0 = λ z. Ready K L z in
      let Q : World K L → Type 0 = λ z. Halfway K L z v in
      subst Q (look_stays w c l) (by_half h (subst P (sym (look_stays w c l)) r))
  by_half (ticks w v time out late in_time room t) r = ticked_half w r time out late in_time room v t

  pub halved : (w v : World K L) → Ready K L w → Half K L w v → Halfway K L w v
  halved w v r h = by_half h r
