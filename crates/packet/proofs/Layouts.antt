-- Each layout is read back as it was written, and only such bytes are read.
use Rattle.std.proofs.Common.{◌≡◌, ℕ, ◌+◌, ◌%◌, ◌<◌, ◌≤◌, Bool, true, false, cond, leb, ◌⊎◌, List, ◌∷◌, ◌++◌, length, get_or, take, drop, Ok, Err, Result, sym, refl, ap, ◌∙◌, subst, inl, inr, ⊎_elim, arith}
use Rattle.std.proofs.lemmas.List.{drop_more, drop-drop, drop_at, length-drop, length-append, take-append-drop, get_or-drop}
use Rattle.std.proofs.lemmas.Bool.{cond-true, cond-false, and_parts, and_from, le-leb, lt-leb, leb-true, eqb-true, cases_lt}
use Rattle.std.proofs.lemmas.Bool.Decides.{nat_tests}
use Rattle.state.specs.BigEndian.{two, four, of_two, of_four}
use Rattle.packet.specs.declared.refusal.InstructionFault.{InstructionFault}
use Rattle.packet.specs.declared.refusal.InstructionFault.TheVariants.{NumbersApart}
use Rattle.packet.specs.declared.refusal.FragmentFault.{FragmentFault}
use Rattle.packet.specs.declared.refusal.FragmentFault.TheVariants.{Malformed}
use Rattle.packet.specs.declared.refusal.DatagramFault.TheVariants.{OwnDirection}
use Rattle.packet.specs.declared.refusal.ReadFault.{ReadFault}
use Rattle.packet.specs.declared.refusal.ReadFault.TheVariants.{Datagram}
use Rattle.packet.specs.declared.datagram.Direction.{Direction}
use Rattle.packet.specs.declared.datagram.Direction.TheVariants.{TowardDepot, TowardReader}
use Rattle.packet.specs.Eight.{eight, of_eight}
use Rattle.packet.specs.Pieces.{Piece}
use Rattle.packet.specs.Instructions.{Update, together, instruction_bytes, headed, fields_of, read_instruction}
use Rattle.packet.specs.Fragments.{field_of, sound, fragment_bytes, piece_in, read_fragment}
use Rattle.packet.specs.Datagrams.{Parcel, top_bit, top_of, direction_of, same_direction, datagram_around, carried, read_datagram}
use Rattle.packet.specs.Layouts.{Bytes, Takeable, InstructionStands, FragmentStands, DatagramStands}
use Rattle.packet.proofs.Numbers.{two_back, four_back, eight_back, two_below, eight_below, from_two, from_four, from_eight}
use Rattle.packet.proofs.Sound.{sound_within}

-- what an answer that is Ok came from
ok_from : {A E : Type 0} (b : Bool) (x : Result A E) (e : E) (v : A) → cond b x (Err e) ≡ Ok v → (b ≡ true) × (x ≡ Ok v)
ok_from true x e v h = (refl, h)
ok_from false x e v h = let z : ◌≡◌ {A = ℕ} 0 1 = cc in absurd (omega arith)

ok_same : {A E : Type 0} (x v : A) → ◌≡◌ {A = Result A E} (Ok x) (Ok v) → x ≡ v
ok_same x v h = cc

ok_else : {A E : Type 0} (b : Bool) (e : E) (x : Result A E) (v : A) → cond b (Err e) x ≡ Ok v → (b ≡ false) × (x ≡ Ok v)
ok_else true e x v h = let z : ◌≡◌ {A = ℕ} 0 1 = cc in absurd (omega arith)
ok_else false e x v h = (refl, h)

fields_back : (u : Update) → fields_of (instruction_bytes u) ≡ u
unfolding instruction_bytes fields_of
fields_back u = λ i. record { old = four_back u.old i; new = four_back u.new i; ack = four_back u.ack i; throwaway = four_back u.throwaway i; diff = u.diff }

pub instruction_length : (u : Update) → length (instruction_bytes u) ≡ 17 + length u.diff
unfolding instruction_bytes
instruction_length u = omega arith

instruction_headed : (u : Update) → headed (instruction_bytes u) ≡ true
unfolding instruction_bytes
instruction_headed u = and_from _ _ (le-leb 17 (length (instruction_bytes u)) (omega arith)) refl

pub instruction_back : (u : Update) → together u ≡ true → read_instruction (instruction_bytes u) ≡ Ok u
instruction_back u h =
    let rest : Update → Result Update InstructionFault = λ v. cond (together v) (Ok v) (Err NumbersApart) in
    cond-true _ _ _ (instruction_headed u) ∙ ap rest (fields_back u) ∙ cond-true (together u) _ _ h

fields_only : (bs : List ℕ) → Bytes bs → 17 ≤ length bs → get_or bs 0 0 ≡ 2 → bs ≡ instruction_bytes (fields_of bs)
unfolding instruction_bytes fields_of
fields_only bs fit long version =
    drop_more bs 0 0 (omega arith)
    ∙ ap (λ v. v ∷ drop 1 bs) version
    ∙ ap (λ z. 2 ∷ z) (from_four bs fit 1 (omega arith)
    ∙ ap (λ z. four (of_four bs 1) ++ z) (from_four bs fit 5 (omega arith)
    ∙ ap (λ z. four (of_four bs 5) ++ z) (from_four bs fit 9 (omega arith)
    ∙ ap (λ z. four (of_four bs 9) ++ z) (from_four bs fit 13 (omega arith)))))

pub instruction_only : (bs : List ℕ) (u : Update) → Bytes bs → read_instruction bs ≡ Ok u → (together u ≡ true) × (bs ≡ instruction_bytes u)
instruction_only bs u fit h =
    let a = ok_from _ _ _ u h in
    let b = ok_from _ _ _ u a.1 in
    let is : fields_of bs ≡ u = ok_same (fields_of bs) u b.1 in
    let headed = and_parts _ _ a.0 in
    (sym (ap together is) ∙ b.0, fields_only bs fit (leb-true 17 (length bs) headed.0) (eqb-true (get_or bs 0 0) 2 headed.1) ∙ ap instruction_bytes is)

pub instruction_stands : InstructionStands
instruction_stands = (instruction_back, instruction_only)

last_back : (last : Bool) (k : ℕ) → k ≤ 7 → leb 32768 (cond last 32768 0 + k) ≡ last
last_back true k h = le-leb 32768 (32768 + k) (omega arith)
last_back false k h = lt-leb 32768 (0 + k) (omega arith)

number_back : (last : Bool) (k : ℕ) → k ≤ 7 → (cond last 32768 0 + k) % 32768 ≡ k
number_back true k h = omega arith
number_back false k h = omega arith

field_again : (f : ℕ) → f < 65536 → f ≡ cond (leb 32768 f) 32768 0 + f % 32768
field_again f h = grind (arith, nat_tests)

piece_back : (p : Piece) → p.number ≤ 7 → piece_in (fragment_bytes p) ≡ p
unfolding fragment_bytes piece_in
piece_back p h =
    let sending = eight_back p.sending (two (field_of p) ++ p.contents) in
    let number = ap (λ n. n % 32768) (two_back (field_of p)) ∙ number_back p.last p.number h in
    let last = ap (leb 32768) (two_back (field_of p)) ∙ last_back p.last p.number h in
    λ i. record { sending = sending i; number = number i; last = last i; contents = p.contents }

pub fragment_back : (p : Piece) → sound p ≡ true → read_fragment (fragment_bytes p) ≡ Ok p
fragment_back p h =
    let read : Piece → Result Piece FragmentFault = λ q. cond (sound q) (Ok q) (Err Malformed) in
    ap read (piece_back p (sound_within p h).0) ∙ cond-true (sound p) _ _ h

piece_only : (bs : List ℕ) → Bytes bs → 10 ≤ length bs → bs ≡ fragment_bytes (piece_in bs)
unfolding fragment_bytes piece_in
piece_only bs fit long =
    from_eight bs fit 0 (omega arith)
    ∙ ap (λ z. eight (of_eight bs 0) ++ z) (from_two bs fit 8 (omega arith) ∙ ap (λ f. two f ++ drop 10 bs) (field_again (of_two bs 8) (two_below bs fit 8)))

contents_in : (bs : List ℕ) → length (piece_in bs).contents + 10 ≤ length bs ⊎ length (piece_in bs).contents ≡ 0
unfolding piece_in
contents_in bs = ⊎_elim (λ (h : length bs < 10). inr (simp length-drop (omega arith))) (λ (h : 10 ≤ length bs). inl (simp length-drop (omega arith))) (cases_lt (length bs) 10)

pub fragment_only : (bs : List ℕ) (p : Piece) → Bytes bs → read_fragment bs ≡ Ok p → (sound p ≡ true) × (bs ≡ fragment_bytes p)
fragment_only bs p fit h =
    let a = ok_from _ _ _ p h in
    let is : piece_in bs ≡ p = ok_same (piece_in bs) p a.1 in
    let within = sound_within (piece_in bs) a.0 in
    let long : 10 ≤ length bs = ⊎_elim (λ (l : length (piece_in bs).contents + 10 ≤ length bs). omega arith) (λ (z : length (piece_in bs).contents ≡ 0). absurd (omega (arith, within.1))) (contents_in bs) in
    (sym (ap sound is) ∙ a.0, piece_only bs fit long ∙ ap fragment_bytes is)

pub fragment_stands : FragmentStands
fragment_stands = (fragment_back, fragment_only)

pub fragment_length : (p : Piece) → length (fragment_bytes p) ≡ 10 + length p.contents
unfolding fragment_bytes
fragment_length p = omega arith

direction_back : (d : Direction) (n : ℕ) → n < top_bit → direction_of (top_of d + n) ≡ d
direction_back TowardDepot n h = cond-false _ _ _ (lt-leb top_bit (0 + n) (omega arith))
direction_back TowardReader n h = cond-true _ _ _ (le-leb top_bit (top_bit + n) (omega arith))

low_back : (d : Direction) (n : ℕ) → n < top_bit → (top_of d + n) % top_bit ≡ n
low_back TowardDepot n h = omega arith
low_back TowardReader n h = omega arith

module _ (unread : List ℕ) (four-of-them : length unread ≡ 4) (g : Parcel) where
  around_word : of_eight (datagram_around unread g) 0 ≡ top_of g.direction + g.number
  unfolding datagram_around
  around_word = eight_back (top_of g.direction + g.number) (unread ++ fragment_bytes g.piece)

  around_rest : drop 12 (datagram_around unread g) ≡ fragment_bytes g.piece
  unfolding datagram_around
  around_rest = drop_at (eight (top_of g.direction + g.number) ++ unread) (fragment_bytes g.piece) 12 (omega arith)

  pub around_length : length (datagram_around unread g) ≡ 22 + length g.piece.contents
  unfolding datagram_around
  around_length = omega (arith, length-append unread (fragment_bytes g.piece), fragment_length g.piece)

  around_carried : g.number < top_bit → sound g.piece ≡ true → carried (datagram_around unread g) (read_fragment (drop 12 (datagram_around unread g))) ≡ Ok g
  around_carried h rules =
      let bs = datagram_around unread g in
      let ok : Parcel → Result Parcel ReadFault = λ v. Ok v in
      let direction = ap direction_of around_word ∙ direction_back g.direction g.number h in
      let number = ap (λ w. w % top_bit) around_word ∙ low_back g.direction g.number h in
      ap (λ z. carried bs (read_fragment z)) around_rest ∙ ap (carried bs) (fragment_back g.piece rules) ∙ ap ok (λ i. record { direction = direction i; number = number i; piece = g.piece })

  pub datagram_back : (sends : Direction) → Takeable sends g → read_datagram sends (datagram_around unread g) ≡ Ok g
  datagram_back sends t =
      let within = sound_within g.piece t.rules in
      let long = and_from _ _ (le-leb 22 (length (datagram_around unread g)) (omega (arith, around_length))) (le-leb (length (datagram_around unread g)) 278 (omega (arith, around_length))) in
      let direction = ap direction_of around_word ∙ direction_back g.direction g.number t.number in
      cond-true _ _ _ long ∙ cond-false _ _ _ (ap (λ d. same_direction d sends) direction ∙ t.other) ∙ around_carried t.number t.rules

  -- an end refuses what goes the way that it sends itself
  pub datagram_own : (sends : Direction) → same_direction g.direction sends ≡ true → g.number < top_bit → sound g.piece ≡ true → read_datagram sends (datagram_around unread g) ≡ Err (Datagram OwnDirection)
  datagram_own sends own below rules =
      let within = sound_within g.piece rules in
      let long = and_from _ _ (le-leb 22 (length (datagram_around unread g)) (omega (arith, around_length))) (le-leb (length (datagram_around unread g)) 278 (omega (arith, around_length))) in
      let direction = ap direction_of around_word ∙ direction_back g.direction g.number below in
      cond-true _ _ _ long ∙ cond-true _ _ _ (ap (λ d. same_direction d sends) direction ∙ own)

carried_from : (bs : List ℕ) (r : Result Piece FragmentFault) (g : Parcel) → carried bs r ≡ Ok g → (r ≡ Ok g.piece) × (direction_of (of_eight bs 0) ≡ g.direction) × (of_eight bs 0 % top_bit ≡ g.number)
carried_from bs (Ok p) g h =
    let ok : Piece → Result Piece FragmentFault = λ v. Ok v in
    let e = ok_same _ g h in
    (ap (λ (v : Parcel). ok v.piece) e, ap (λ (v : Parcel). v.direction) e, ap (λ (v : Parcel). v.number) e)
carried_from bs (Err f) g h = let z : ◌≡◌ {A = ℕ} 0 1 = cc in absurd (omega arith)

word_again : (w : ℕ) → w < 18446744073709551616 → w ≡ top_of (direction_of w) + w % top_bit
word_again w h =
    ⊎_elim
    (λ (l : w < top_bit). let e : direction_of w ≡ TowardDepot = cond-false _ _ _ (lt-leb top_bit w l) in omega (arith, ap top_of e))
    (λ (l : top_bit ≤ w). let e : direction_of w ≡ TowardReader = cond-true _ _ _ (le-leb top_bit w l) in omega (arith, ap top_of e))
    (cases_lt w top_bit)

rest_bytes : (bs : List ℕ) (n : ℕ) → Bytes bs → Bytes (drop n bs)
rest_bytes bs n fit k = subst (λ m. m < 256) (sym (get_or-drop n bs k 0)) (fit (n + k))

around_only : (bs : List ℕ) (g : Parcel) → Bytes bs → 12 ≤ length bs → of_eight bs 0 ≡ top_of g.direction + g.number → drop 12 bs ≡ fragment_bytes g.piece → bs ≡ datagram_around (take 4 (drop 8 bs)) g
unfolding datagram_around
around_only bs g fit long word rest =
    from_eight bs fit 0 (omega arith)
    ∙ ap (λ w. eight w ++ drop 8 bs) word
    ∙ ap (λ z. eight (top_of g.direction + g.number) ++ z) (sym (take-append-drop 4 (drop 8 bs)) ∙ ap (λ z. take 4 (drop 8 bs) ++ z) (drop-drop 4 8 bs ∙ rest))

pub datagram_only : (sends : Direction) (bs : List ℕ) (g : Parcel) → Bytes bs → read_datagram sends bs ≡ Ok g → Takeable sends g × (bs ≡ datagram_around (take 4 (drop 8 bs)) g)
datagram_only sends bs g fit h =
    let a = ok_from _ _ _ g h in
    let b = ok_else _ _ _ g a.1 in
    let k : (read_fragment (drop 12 bs) ≡ Ok g.piece) × (direction_of (of_eight bs 0) ≡ g.direction) × (of_eight bs 0 % top_bit ≡ g.number) = carried_from bs (read_fragment (drop 12 bs)) g b.1 in
    let f = fragment_only (drop 12 bs) g.piece (rest_bytes bs 12 fit) k.0 in
    let long : 22 ≤ length bs = leb-true 22 (length bs) (and_parts _ _ a.0).0 in
    let word : of_eight bs 0 ≡ top_of g.direction + g.number = word_again (of_eight bs 0) (eight_below bs fit 0) ∙ ap (λ d. top_of d + of_eight bs 0 % top_bit) k.1 ∙ ap (λ n. top_of g.direction + n) k.2 in
    (record { other = sym (ap (λ d. same_direction d sends) k.1) ∙ b.0; number = omega (arith, k.2); rules = f.0 }, around_only bs g fit (omega arith) word f.1)

pub datagram_stands : DatagramStands
datagram_stands = (λ sends unread g n t. datagram_back unread n g sends t, datagram_only)
