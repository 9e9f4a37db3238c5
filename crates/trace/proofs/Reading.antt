-- A value line is read just where it is written so.
use Rattle.std.proofs.Common.{◌≡◌, ℕ, ◌<◌, ◌≤◌, leb, List, [], ◌∷◌, ◌++◌, length, Some, None, decimal, Option, sym, refl, ap, ◌∙◌, subst, ⊎_elim, append-nil, arith}
use Rattle.std.proofs.lemmas.Fmt.{length-decimal-le}
use Rattle.std.proofs.lemmas.List.{length-append}
use Rattle.std.proofs.lemmas.Bool.{cases_lt, cond-true, cond-false, le-leb, lt-leb}
use Rattle.std.proofs.lemmas.Bool.Decides.{nat_tests}
use Rattle.trace.specs.Format.{Fits, EventFits, LineFits, six_values, end_letter, written_event, written, Writes, Short}
use Rattle.trace.specs.Fronts.{and_then, number_front, letter_front, value_front}
use Rattle.trace.specs.Reading.{end_of, event_of, line_from, at_end, six_of, line_of}
use Rattle.trace.specs.declared.line.End.{End}
use Rattle.trace.specs.declared.line.End.TheVariants.{Reader, Depot}
use Rattle.trace.specs.declared.line.Event.{Event}
use Rattle.trace.specs.declared.line.Event.TheVariants.{Key, Tap, Position, Tick, Take}
use Rattle.trace.specs.declared.line.Line.{Line}
use Rattle.trace.proofs.Numbers.{number_reads, number_back}

-- six values that fit, with letters for the end and the event, are read as those
six_read : (at end event a b c : ℕ) → Fits at → Fits a → Fits b → Fits c → six_of (six_values at (end ∷ []) (event ∷ []) a b c) ≡ line_from at (end_of end) (event_of event a b c)
six_read at end event a b c fat fa fb fc =
    let s5 = 32 ∷ decimal c in
    let s4 = 32 ∷ (decimal b ++ s5) in
    let s3 = 32 ∷ (decimal a ++ s4) in
    let s2 = 32 ∷ (event ∷ s3) in
    let s1 = 32 ∷ (end ∷ s2) in
    let last : value_front s5 ≡ Some (c, []) = ap number_front (sym (append-nil (decimal c))) ∙ number_reads c [] fc refl in
    rw (number_reads at s1 fat refl, number_reads a s4 fa refl, number_reads b s5 fb refl, last)

event_read : (at end : ℕ) (event : Event) → Fits at → EventFits event → six_of (written_event at (end ∷ []) event) ≡ line_from at (end_of end) (Some event)
event_read at end (Key key) fat f = six_read at end 75 key 0 0 fat f (omega arith) (omega arith)
event_read at end (Tap card fare balance) fat f = six_read at end 84 card fare balance fat f.0 f.1 f.2
event_read at end (Position position character) fat f = six_read at end 80 position character 0 fat f.0 f.1 (omega arith)
event_read at end Tick fat f = six_read at end 73 0 0 0 fat (omega arith) (omega arith) (omega arith)
event_read at end (Take datagram) fat f = six_read at end 71 datagram 0 0 fat f (omega arith) (omega arith)

end_read : (at : ℕ) (end : End) (event : Event) → Fits at → EventFits event → six_of (written_event at (end_letter end) event) ≡ Some (record { at = at; end = end; event = event })
end_read at Reader event fat f = event_read at 82 event fat f
end_read at Depot event fat f = event_read at 68 event fat f

-- what is written is read back
pub line_reads : (line : Line) → LineFits line → six_of (written line) ≡ Some line
line_reads line fits = end_read line.at line.end line.event fits.0 fits.1

-- what was read first, where something was read on from there
then_by : {X Y P : Type 0} (o : Option (X × List ℕ)) {next : X → List ℕ → Option Y} {y : Y} → and_then o next ≡ Some y → ((x : X) (rest : List ℕ) → o ≡ Some (x, rest) → next x rest ≡ Some y → P) → P
then_by None e on = absurd (grind arith)
then_by (Some p) e on = on p.0 p.1 refl e

letter_back : (letter : ℕ) (xs rest : List ℕ) → letter_front xs ≡ Some (letter, rest) → xs ≡ 32 ∷ (letter ∷ rest)
letter_back letter [] rest e = absurd (grind arith)
letter_back letter (b ∷ []) rest e = absurd (grind (arith, nat_tests))
letter_back letter (b ∷ (x ∷ xs)) rest e = grind (arith, nat_tests)

value_back : (n : ℕ) (xs rest : List ℕ) → value_front xs ≡ Some (n, rest) → Fits n × (xs ≡ 32 ∷ (decimal n ++ rest))
value_back n [] rest e = absurd (grind arith)
value_back n (b ∷ xs) rest e =
    let space : b ≡ 32 = grind (arith, nat_tests) in
    let number : number_front xs ≡ Some (n, rest) = grind (arith, nat_tests) in
    let back = number_back n xs rest number in
    (back.0, ap (λ k. k ∷ xs) space ∙ ap (λ s. 32 ∷ s) back.1)

end_back : (o : Option Line) (xs : List ℕ) (line : Line) → at_end o xs ≡ Some line → (xs ≡ []) × (o ≡ Some line)
end_back o [] line e = (refl, e)
end_back o (b ∷ xs) line e = absurd (grind arith)

from_back : (at : ℕ) (end : Option End) (event : Option Event) (line : Line) → line_from at end event ≡ Some line → (at ≡ line.at) × (end ≡ Some line.end) × (event ≡ Some line.event)
from_back at None event line e = absurd (grind arith)
from_back at (Some end) None line e = absurd (grind arith)
from_back at (Some end) (Some event) line e =
    let read : Line = record { at = at; end = end; event = event } in
    let same : read ≡ line = cc in
    (ap (λ l. l.at) same, ap (λ l. Some l.end) same, ap (λ l. Some l.event) same)

letter_of_end : (letter : ℕ) (end : End) → end_of letter ≡ Some end → letter ∷ [] ≡ end_letter end
letter_of_end letter Reader e = let k : letter ≡ 82 = grind (arith, nat_tests) in ap (λ b. b ∷ []) k
letter_of_end letter Depot e = let k : letter ≡ 68 = grind (arith, nat_tests) in ap (λ b. b ∷ []) k

-- an event that was read has its letter, and 0 for each value that it doesn't use
key_back : (letter a b c key : ℕ) → event_of letter a b c ≡ Some (Key key) → (letter ≡ 75) × (a ≡ key) × (b ≡ 0) × (c ≡ 0)
key_back letter a b c key e = (grind (arith, nat_tests), grind (arith, nat_tests), grind (arith, nat_tests), grind (arith, nat_tests))

tap_back : (letter a b c card fare balance : ℕ) → event_of letter a b c ≡ Some (Tap card fare balance) → (letter ≡ 84) × (a ≡ card) × (b ≡ fare) × (c ≡ balance)
tap_back letter a b c card fare balance e = (grind (arith, nat_tests), grind (arith, nat_tests), grind (arith, nat_tests), grind (arith, nat_tests))

position_back : (letter a b c position character : ℕ) → event_of letter a b c ≡ Some (Position position character) → (letter ≡ 80) × (a ≡ position) × (b ≡ character) × (c ≡ 0)
position_back letter a b c position character e = (grind (arith, nat_tests), grind (arith, nat_tests), grind (arith, nat_tests), grind (arith, nat_tests))

tick_back : (letter a b c : ℕ) → event_of letter a b c ≡ Some Tick → (letter ≡ 73) × (a ≡ 0) × (b ≡ 0) × (c ≡ 0)
tick_back letter a b c e = (grind (arith, nat_tests), grind (arith, nat_tests), grind (arith, nat_tests), grind (arith, nat_tests))

take_back : (letter a b c datagram : ℕ) → event_of letter a b c ≡ Some (Take datagram) → (letter ≡ 71) × (a ≡ datagram) × (b ≡ 0) × (c ≡ 0)
take_back letter a b c datagram e = (grind (arith, nat_tests), grind (arith, nat_tests), grind (arith, nat_tests), grind (arith, nat_tests))

six_same : (letter letter' a a' b b' c c' : ℕ) → (letter ≡ letter') × (a ≡ a') × (b ≡ b') × (c ≡ c') → (at : ℕ) (end : List ℕ) → six_values at end (letter ∷ []) a b c ≡ six_values at end (letter' ∷ []) a' b' c'
six_same letter letter' a a' b b' c c' h at end = cc

event_back : (letter a b c at : ℕ) (end : List ℕ) (event : Event) → event_of letter a b c ≡ Some event → Fits a → Fits b → Fits c → EventFits event × (six_values at end (letter ∷ []) a b c ≡ written_event at end event)
event_back letter a b c at end (Key key) e fa fb fc =
    let h = key_back letter a b c key e in
    (omega arith, six_same letter 75 a key b 0 c 0 h at end)
event_back letter a b c at end (Tap card fare balance) e fa fb fc =
    let h = tap_back letter a b c card fare balance e in
    ((omega arith, omega arith, omega arith), six_same letter 84 a card b fare c balance h at end)
event_back letter a b c at end (Position position character) e fa fb fc =
    let h = position_back letter a b c position character e in
    ((omega arith, omega arith), six_same letter 80 a position b character c 0 h at end)
event_back letter a b c at end Tick e fa fb fc = (tt, six_same letter 73 a 0 b 0 c 0 (tick_back letter a b c e) at end)
event_back letter a b c at end (Take datagram) e fa fb fc =
    let h = take_back letter a b c datagram e in
    (omega arith, six_same letter 71 a datagram b 0 c 0 h at end)

six_joined : (text s1 s2 s3 s4 s5 s6 : List ℕ) (at end event a b c : ℕ) → text ≡ decimal at ++ s1 → s1 ≡ 32 ∷ (end ∷ s2) → s2 ≡ 32 ∷ (event ∷ s3) → s3 ≡ 32 ∷ (decimal a ++ s4) → s4 ≡ 32 ∷ (decimal b ++ s5) → s5 ≡ 32 ∷ (decimal c ++ s6) → s6 ≡ [] → text ≡ six_values at (end ∷ []) (event ∷ []) a b c
six_joined text s1 s2 s3 s4 s5 s6 at end event a b c h0 h1 h2 h3 h4 h5 h6 =
    let none : decimal c ++ s6 ≡ decimal c = ap (λ s. decimal c ++ s) h6 ∙ append-nil (decimal c) in
    cc

six_back : (text s1 s2 s3 s4 s5 s6 : List ℕ) (at end event a b c : ℕ) (line : Line) → number_front text ≡ Some (at, s1) → letter_front s1 ≡ Some (end, s2) → letter_front s2 ≡ Some (event, s3) → value_front s3 ≡ Some (a, s4) → value_front s4 ≡ Some (b, s5) → value_front s5 ≡ Some (c, s6) → at_end (line_from at (end_of end) (event_of event a b c)) s6 ≡ Some line → LineFits line × (text ≡ written line)
six_back text s1 s2 s3 s4 s5 s6 at end event a b c line n1 n2 n3 n4 n5 n6 e =
    let h1 = number_back at text s1 n1 in
    let h4 = value_back a s3 s4 n4 in
    let h5 = value_back b s4 s5 n5 in
    let h6 = value_back c s5 s6 n6 in
    let done = end_back (line_from at (end_of end) (event_of event a b c)) s6 line e in
    let from = from_back at (end_of end) (event_of event a b c) line done.1 in
    let back = event_back event a b c at (end ∷ []) line.event from.2 h4.0 h5.0 h6.0 in
    let P : ℕ → Type 0 = Fits in (
      (subst P from.0 h1.0, back.0),
      six_joined text s1 s2 s3 s4 s5 s6 at end event a b c h1.1 (letter_back end s1 s2 n2) (letter_back event s2 s3 n3) h4.1 h5.1 h6.1 done.0
          ∙ back.1
          ∙ ap (λ l. written_event at l line.event) (letter_of_end end line.end from.1)
          ∙ ap (λ n. written_event n (end_letter line.end) line.event) from.0,
    )

-- what is read was written so
pub line_back : (text : List ℕ) (line : Line) → six_of text ≡ Some line → LineFits line × (text ≡ written line)
line_back text line e =
    then_by (number_front text) e (λ at s1 n1 e1.
    then_by (letter_front s1) e1 (λ end s2 n2 e2.
    then_by (letter_front s2) e2 (λ event s3 n3 e3.
    then_by (value_front s3) e3 (λ a s4 n4 e4.
    then_by (value_front s4) e4 (λ b s5 n5 e5.
    then_by (value_front s5) e5 (λ c s6 n6 e6.
    six_back text s1 s2 s3 s4 s5 s6 at end event a b c line n1 n2 n3 n4 n5 n6 e6))))))

within : (text : List ℕ) → length text ≤ 80 → line_of text ≡ six_of text
within text short = cond-true (leb (length text) 80) (six_of text) None (le-leb (length text) 80 short)

beyond : (text : List ℕ) → 80 < length text → line_of text ≡ None
beyond text long = cond-false (leb (length text) 80) (six_of text) None (lt-leb (length text) 80 long)

-- a line is read when, and only when, the bytes write it
pub read_back : (text : List ℕ) (line : Line) → line_of text ≡ Some line → Writes text line
read_back text line e =
    ⊎_elim
    (λ long. absurd (let never : None ≡ Some line = sym (beyond text long) ∙ e in grind arith))
    (λ short. let back = line_back text line (sym (within text short) ∙ e) in (short, back.0, back.1))
    (cases_lt 80 (length text))

pub written_read : (text : List ℕ) (line : Line) → Writes text line → line_of text ≡ Some line
written_read text line writes = within text writes.0 ∙ ap six_of writes.2 ∙ line_reads line writes.1

-- a number that fits has at most ten digits, so that six values are short
digits_le : (n : ℕ) → Fits n → length (decimal n) ≤ 10
digits_le n fits = length-decimal-le 10 n (omega arith) (omega arith) (omega arith)

six_short : (at end event a b c : ℕ) → Fits at → Fits a → Fits b → Fits c → length (six_values at (end ∷ []) (event ∷ []) a b c) ≤ 47
six_short at end event a b c fat fa fb fc = simp length-append (omega (arith, digits_le at fat, digits_le a fa, digits_le b fb, digits_le c fc))

event_short : (at end : ℕ) (event : Event) → Fits at → EventFits event → length (written_event at (end ∷ []) event) ≤ 47
event_short at end (Key key) fat f = six_short at end 75 key 0 0 fat f (omega arith) (omega arith)
event_short at end (Tap card fare balance) fat f = six_short at end 84 card fare balance fat f.0 f.1 f.2
event_short at end (Position position character) fat f = six_short at end 80 position character 0 fat f.0 f.1 (omega arith)
event_short at end Tick fat f = six_short at end 73 0 0 0 fat (omega arith) (omega arith) (omega arith)
event_short at end (Take datagram) fat f = six_short at end 71 datagram 0 0 fat f (omega arith) (omega arith)

end_short : (at : ℕ) (end : End) (event : Event) → Fits at → EventFits event → length (written_event at (end_letter end) event) ≤ 47
end_short at Reader event fat f = event_short at 82 event fat f
end_short at Depot event fat f = event_short at 68 event fat f

pub short : Short
short line fits = end_short line.at line.end line.event fits.0 fits.1
