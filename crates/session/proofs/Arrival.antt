-- The datagrams of one sending, taken in order by the second end: then it shows the first end's last number.
use Rattle.std.proofs.Common.{◌≡◌, ℕ, zero, suc, ◌+◌, ◌<◌, ◌≤◌, max, true, false, ltb, List, [], ◌∷◌, map, length, Ok, Err, Result, sym, refl, ap, ◌∙◌, subst, inl, inr, ⊎_elim, arith}
use Rattle.std.specs.List.{range_with_len}
use Rattle.std.proofs.lemmas.Bool.{and_from, eq-eqb, cases_Bool}
use Rattle.state.specs.Kind.{Kind, Reaches}
use Rattle.window.specs.Numbers.{put}
use Rattle.packet.specs.declared.datagram.Direction.{Direction}
use Rattle.packet.specs.Pieces.{piece_count}
use Rattle.packet.specs.Instructions.{Update, instruction_bytes}
use Rattle.packet.specs.Datagrams.{datagram_bytes, read_datagram}
use Rattle.packet.specs.Sendings.{parcel}
use Rattle.packet.proofs.Layouts.{instruction_length}
use Rattle.packet.proofs.Sendings.{datagram_read}
use Rattle.assembler.specs.Contents.{held_of}
use Rattle.assembler.specs.Assembling.{gathered}
use Rattle.protocol.specs.declared.answer.Taken.{Taken}
use Rattle.protocol.specs.declared.answer.Taken.TheVariants.{Part, Shown, Filled, Again, Baseless}
use Rattle.protocol.specs.declared.fault.TakeFault.{TakeFault}
use Rattle.endpoint.specs.End.{Holding, latest}
use Rattle.endpoint.specs.Taking.{kept, pending_from, taken}
use Rattle.endpoint.proofs.Ways.{Called}
use Rattle.endpoint.proofs.Keeping.{in_order}
use Rattle.endpoint.proofs.Takes.{take_leaves, settled_anchor}
use Rattle.endpoint.proofs.Arriving.{Midway, midway_more, arrives_again, arrives_land}
use Rattle.session.specs.History as history
use Rattle.session.specs.History.{Past, opposite}
use Rattle.session.specs.Runs.{World, take, Step, second, step, SupposedOf, Among}
use Rattle.session.specs.Law.{Takes, none, looks, takes, own}
use Rattle.session.proofs.Shared.{among_turned, look_stays, opposite_other}
use Rattle.session.proofs.Invariant.{state, Inv, Instructs}

-- what a take leaves of a history
pub record Remains {K : Kind} (p q : Past K) : Type 0 where
  pub current : q.current ≡ p.current
  pub fixed : q.fixed ≡ p.fixed
  pub written : q.written ≡ p.written
  pub instruction : q.instruction ≡ p.instruction

pub take_remains : {K : Kind} (p : Past K) (time : ℕ) (bs : List ℕ) (r : Result Taken TakeFault) → Remains p (history.after_take p time bs r)
take_remains p time bs (Ok (Part k)) = record { current = refl; fixed = refl; written = refl; instruction = refl }
take_remains p time bs (Ok (Shown n)) = record { current = refl; fixed = refl; written = refl; instruction = refl }
take_remains p time bs (Ok (Filled n)) = record { current = refl; fixed = refl; written = refl; instruction = refl }
take_remains p time bs (Ok (Again n)) = record { current = refl; fixed = refl; written = refl; instruction = refl }
take_remains p time bs (Ok (Baseless n)) = record { current = refl; fixed = refl; written = refl; instruction = refl }
take_remains p time bs (Err f) = record { current = refl; fixed = refl; written = refl; instruction = refl }

-- what takes of the second end leave
pub record Rests (K L : Kind) (w v : World K L) : Type 0 where
  pub inv : Inv K L v
  pub one : v.one ≡ w.one
  pub past_one_lem : v.past_one ≡ w.past_one
  pub direction : v.two.end.direction ≡ w.two.end.direction
  pub current : v.two.end.current ≡ w.two.end.current
  pub top : v.two.end.top ≡ w.two.end.top
  pub sendings : v.two.end.sendings ≡ w.two.end.sendings
  pub datagrams : v.two.end.datagrams ≡ w.two.end.datagrams
  pub past_two_lem : Remains w.past_two v.past_two

-- the second end shows the first's last number, and has the ack as acknowledged
pub record Final (K L : Kind) (ack : ℕ) (w v : World K L) : Type 0 where
  pub newest : v.two.end.newest ≡ w.one.end.top
  pub acked : ack ≤ v.two.end.sent.anchor

module _ (K L : Kind) where
  rests_none : (w : World K L) → Inv K L w → Rests K L w w
  rests_none w i = record { inv = i; one = refl; past_one_lem = refl; direction = refl; current = refl; top = refl; sendings = refl; datagrams = refl; past_two_lem = record { current = refl; fixed = refl; written = refl; instruction = refl } }

  rests_on : (w m v : World K L) → Rests K L w m → Rests K L m v → Rests K L w v
  rests_on w m v a b = record {
    inv = b.inv;
    one = b.one ∙ a.one;
    past_one_lem = b.past_one_lem ∙ a.past_one_lem;
    direction = b.direction ∙ a.direction;
    current = b.current ∙ a.current;
    top = b.top ∙ a.top;
    sendings = b.sendings ∙ a.sendings;
    datagrams = b.datagrams ∙ a.datagrams;
    past_two_lem = record {
      current = b.past_two_lem.current ∙ a.past_two_lem.current;
      fixed = b.past_two_lem.fixed ∙ a.past_two_lem.fixed;
      written = b.past_two_lem.written ∙ a.past_two_lem.written;
      instruction = b.past_two_lem.instruction ∙ a.past_two_lem.instruction;
    };
  }

  rests_taken : (w : World K L) (time : ℕ) (d : List ℕ) → Inv K L (step K L w (second (take own time d))) → Rests K L w (step K L w (second (take own time d)))
  rests_taken w time d i =
      let t = take_leaves L K w.two time d in
      record { inv = i; one = refl; past_one_lem = refl; direction = t.direction; current = t.current; top = t.top; sendings = t.sendings; datagrams = t.datagrams; past_two_lem = take_remains w.past_two time (w.past_one.instruction (history.piece_in w.two.end.direction d).sending) (taken L K w.two time d).answer }

  nothing_left : {w v : World K L} {ds : List (List ℕ)} → Takes K L w ds v → ds ≡ [] → v ≡ w
  nothing_left (none w) e = refl
  nothing_left (looks w v ds c l t) e = nothing_left t e ∙ look_stays w c l
  nothing_left (takes w v d ds time le t) e = let z : ◌≡◌ {A = ℕ} 0 1 = cc in absurd (omega arith)

-- two lists that are one
head_same : (x : List ℕ) (xs : List (List ℕ)) (y : List ℕ) (ys : List (List ℕ)) → (x ∷ xs) ≡ (y ∷ ys) → x ≡ y
head_same x xs y ys e = cc

tail_same : (x : List ℕ) (xs : List (List ℕ)) (y : List ℕ) (ys : List (List ℕ)) → (x ∷ xs) ≡ (y ∷ ys) → xs ≡ ys
tail_same x xs y ys e = cc

-- the datagrams of a sending from one on, so many
abbrev pub datagrams_from : Direction → ℕ → ℕ → List ℕ → ℕ → ℕ → List (List ℕ)
datagrams_from d from s bs j n = map (λ k. datagram_bytes (parcel d from s bs k)) (range_with_len j n)

module _ (K L : Kind) (from s : ℕ) (u : Update) where
  -- the first end has sent the instruction u, from the acknowledged number to its last, and the second has its first j pieces
  pub record Ready (w : World K L) (j : ℕ) : Type 0 where
    pub inv : Inv K L w
    pub is : Instructs K L w.one.end w.past_one s u
    pub old : u.old ≡ w.one.end.sent.anchor
    pub new : u.new ≡ w.one.end.top
    pub ack : u.ack ≤ w.two.end.top
    pub held : held_of w.two.end.half s ≡ gathered s (instruction_bytes u) (λ n. ltb n j)
    pub air : (k : ℕ) → k < piece_count (instruction_bytes u) → Among K L (datagram_bytes (parcel w.one.end.direction from s (instruction_bytes u) k)) w.past_one.written

  module _ (w : World K L) (j time : ℕ) (r : Ready w j) (le : time ≤ latest) (below : j < piece_count (instruction_bytes u)) where
    abbrev d : List ℕ
    d = datagram_bytes (parcel w.one.end.direction from s (instruction_bytes u) j)

    abbrev after : World K L
    after = step K L w (second (take own time d))

    read : read_datagram w.two.end.direction d ≡ Ok (parcel w.one.end.direction from s (instruction_bytes u) j)
    read =
        let n = instruction_length u in
        datagram_read w.one.end.direction from s (instruction_bytes u) w.two.end.direction j (opposite_other w.one.end.direction w.two.end.direction r.inv.forth.directions) (omega (arith, r.is.short)) below

    called : Called L K w.two time
    called = record { in_time = le; lent = and_from _ _ (eq-eqb (length w.two.sent_store) 16 r.inv.back.sent_length) (eq-eqb (length w.two.received_store) 16 r.inv.forth.received_length) }

    start : Midway L K w.one.end.direction from s u r.is.short w.two w.two j
    start = record { now = w.two.end.clock; half = w.two.end.half; on = omega arith; is = refl; held = r.held }

    -- one more piece
    more : j + 1 < piece_count (instruction_bytes u) → Inv K L after → Ready after (j + 1)
    more lt i =
        let m = midway_more L K w.one.end.direction from s u r.is.short w.two time d j below read w.two start called lt in
        record {
          inv = i;
          is = r.is;
          old = r.old;
          new = r.new;
          ack = omega (arith, r.ack, (take_leaves L K w.two time d).top);
          held = ap (λ (h : Holding L K). held_of h.end.half s) m.is ∙ m.held;
          air = r.air;
        }

    newest_most : w.two.end.newest ≤ w.one.end.top
    newest_most = (r.inv.forth.holds w.two.end.newest r.inv.back.own.newest_held).fixed

    -- the time of the take
    abbrev now : ℕ
    now = max w.two.end.clock time

    module _ (last : j + 1 ≡ piece_count (instruction_bytes u)) where
      again : w.two.end.received.held u.new ≡ true → Final K L u.ack w after
      again y =
          let e = arrives_again L K w.one.end.direction from s u r.is.short w.two time d j below read w.two start called last r.is.in_order r.ack y in
          let n = r.inv.back.own.newest_largest u.new y in
          record {
            newest = ap (λ x. x.end.newest) e ∙ (omega (arith, n, newest_most, r.new));
            acked = let a = ap (λ x. x.end.sent.anchor) e ∙ settled_anchor L K w.two now u.ack w.two.end.received w.two.end.newest w.two.end.pending in omega (arith, a);
          }

      land : Reaches K → w.two.end.received.held u.new ≡ false → Final K L u.ack w after
      land reaches n =
          let base = (r.inv.forth.holds u.old (subst (λ m. w.two.end.received.held m ≡ true) (sym r.old) r.inv.forth.confirmed)).shows in
          let follows = r.inv.forth.onward u.old u.new (in_order u r.is.in_order).1.0 r.is.reached in
          let applies = ap (K.apply (state w.past_one u.old)) r.is.steps ∙ reaches (state w.past_one u.old) (state w.past_one u.new) follows (omega (arith, r.is.short, ap length r.is.steps)) in
          let e = arrives_land L K w.one.end.direction from s u r.is.short w.two time d j below read w.two start called last r.is.in_order r.ack (state w.past_one u.old) (state w.past_one u.new) n base applies in
          record {
            newest = ap (λ x. x.end.newest) e ∙ (omega (arith, newest_most, r.new));
            acked = let a = ap (λ x. x.end.sent.anchor) e ∙ settled_anchor L K w.two now u.ack (put (kept L K w.two now u) u.new) (max w.two.end.newest u.new) (pending_from w.two.end.pending now) in omega (arith, a);
          }

      ends : Reaches K → Final K L u.ack w after
      ends reaches = ⊎_elim (λ y. again y) (λ n. land reaches n) (cases_Bool (w.two.end.received.held u.new))

  module _ (reaches : Reaches K) (keeps : (w : World K L) (c : Step K L) → SupposedOf K L w c → Inv K L w → Inv K L (step K L w c)) where
    kept_by : (w : World K L) (j time : ℕ) (r : Ready w j) (le : time ≤ latest) (below : j < piece_count (instruction_bytes u)) → Inv K L (after w j time r le below)
    kept_by w j time r le below = keeps w (second (take own time (d w j time r le below))) (inr (inl (among_turned K L (d w j time r le below) w.past_one.written (r.air j below)))) r.inv

    -- the rest of the datagrams, taken
    pub rest_taken : {w v : World K L} {ds : List (List ℕ)} → Takes K L w ds v → (j n : ℕ) → j + n ≡ piece_count (instruction_bytes u) → ds ≡ datagrams_from w.one.end.direction from s (instruction_bytes u) j n → Ready w j → Rests K L w v × (1 ≤ n → Final K L u.ack w v)
    rest_taken (none w) j zero sum e r = (rests_none K L w r.inv, λ some. absurd (omega arith))
    rest_taken (none w) j (suc n) sum e r = let z : ◌≡◌ {A = ℕ} 0 1 = cc in absurd (omega arith)
    rest_taken (looks w v ds c l t) j n sum e r =
        subst (λ x. Rests K L x v × (1 ≤ n → Final K L u.ack x v)) (look_stays w c l)
        (rest_taken t j n sum (e ∙ ap (λ (x : World K L). datagrams_from x.one.end.direction from s (instruction_bytes u) j n) (sym (look_stays w c l))) (subst (λ x. Ready x j) (sym (look_stays w c l)) r))
    rest_taken (takes w v b ds time le t) j zero sum e r = let z : ◌≡◌ {A = ℕ} 0 1 = cc in absurd (omega arith)
    rest_taken (takes w v b ds time le t) j (suc zero) sum e r =
        let below : j < piece_count (instruction_bytes u) = omega (arith, sum) in
        let is = head_same b ds (d w j time r le below) [] e in
        let i = subst (λ x. Inv K L (step K L w (second (take own time x)))) (sym is) (kept_by w j time r le below) in
        let f = subst (λ x. Final K L u.ack w (step K L w (second (take own time x)))) (sym is) (ends w j time r le below (omega (arith, sum)) reaches) in
        subst (λ x. Rests K L w x × (1 ≤ 1 → Final K L u.ack w x)) (sym (nothing_left K L t (tail_same b ds (d w j time r le below) [] e))) (rests_taken K L w time b i, λ some. f)
    rest_taken (takes w v b ds time le t) j (suc (suc n)) sum e r =
        let below : j < piece_count (instruction_bytes u) = omega (arith, sum) in
        let behind = datagrams_from w.one.end.direction from s (instruction_bytes u) (j + 1) (suc n) in
        let is = head_same b ds (d w j time r le below) behind e in
        let k = kept_by w j time r le below in
        let i = subst (λ x. Inv K L (step K L w (second (take own time x)))) (sym is) k in
        let ready = subst (λ x. Ready (step K L w (second (take own time x))) (j + 1)) (sym is) (more w j time r le below (omega (arith, sum)) k) in
        let a = rest_taken t (j + 1) (suc n) (omega (arith, sum)) (tail_same b ds (d w j time r le below) behind e) ready in
        (rests_on K L w (step K L w (second (take own time b))) v (rests_taken K L w time b i) a.0, λ some. let f = a.1 (omega arith) in record { newest = f.newest; acked = f.acked })
