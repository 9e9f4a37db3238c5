-- A diff's entries taken in one by one.
use Rattle.std.proofs.Common.{◌≡◌, ℕ, ◌+◌, ◌-◌, ◌<◌, ◌≤◌, min, cond, leb, true, false, List, [], ◌∷◌, ◌++◌, length, take, drop, Some, None, Ok, Err, Option, Result, sym, refl, ap, subst, ◌∙◌, inl, inr, arith}
use Rattle.std.proofs.lemmas.Grind.{flat_map-append}
use Rattle.std.proofs.lemmas.List.{append_assoc, append-nil, length-append, length-drop, length_push, length-take, nil_from_length, take_all, take-append-le, take_at}
use Rattle.std.proofs.lemmas.Bool.{cases_lt, cond-true, cond-false, false≢true, le-leb, leb-true, lt-leb}
use Rattle.std.specs.Option.{option_or}
use Rattle.std.specs.Result.{is_err}
use Rattle.state.specs.declared.fault.EditRefusal.{EditRefusal}
use Rattle.state.specs.declared.fault.StateFault.{StateFault}
use Rattle.state.specs.Parts.{parts}
use Rattle.state.proofs.Cuts.{parts_good}
use Rattle.journal.specs.declared.entry.Entry.{Entry}
use Rattle.journal.specs.declared.journal.Journal.{Journal}
use Rattle.journal.specs.Edits.{pushed, Pushed}
use Rattle.journal.specs.Entries.{entry_at, entry_bytes, entries_bytes, entries_in, one_more}
use Rattle.journal.specs.Journals.{Contents, applied, grown, reading}
use Rattle.journal.specs.Bytes.{applied_good, entry_fits, more, width_pos}
use Rattle.journal.specs.Rows.{few_yes}
use Rattle.journal.proofs.Pushes.{push_full, push_more}

-- where the first entry too many begins, if there is one: `old` entries were there before `es`
abbrev pub overflow : ℕ → List Entry → Option ℕ
overflow old es = cond (leb (old + length es) 64) None (Some (length (entries_bytes (take (64 - old) es))))

-- what holds once the entries es have been taken into the contents c₀ and `rest` is left of the diff d
pub record Sofar (c₀ : Contents) (d rest : List ℕ) (full : Option ℕ) (c : Contents) (es : List Entry) : Type 0 where
  pub left : parts one_more es (length d - length rest) 0 rest ≡ entries_in d
  pub place : length d - length rest ≡ length (entries_bytes es)
  pub inside : length rest ≤ length d
  pub held : c.0 ≡ take 64 (c₀.0 ++ es)
  pub over : full ≡ overflow (length c₀.0) es

abbrev pub IsSofar : Journal → List ℕ → List ℕ → Option ℕ → Journal → Type 0
IsSofar j₀ d rest full j = (es : List Entry) × Sofar (reading j₀) d rest full (reading j) es

or_is : (o : Option ℕ) (n : ℕ) (x : Option ℕ) → (o ≡ None → Some n ≡ x) → ((p : ℕ) → o ≡ Some p → o ≡ x) → option_or o (Some n) ≡ x
or_is None n x none some = none refl
or_is (Some p) n x none some = some p refl

few_held : (c : Contents) → length c.0 ≤ 64
few_held c = leb-true (length c.0) 64 c.1

module _ (c₀ : Contents) (d : List ℕ) where
  fits : (es : List Entry) → length c₀.0 + length es ≤ 64 → overflow (length c₀.0) es ≡ None
  fits es h = cond-true _ _ _ (le-leb _ 64 h)

  spills : (es : List Entry) → 64 < length c₀.0 + length es → overflow (length c₀.0) es ≡ Some (length (entries_bytes (take (64 - length c₀.0) es)))
  spills es h = cond-false _ _ _ (lt-leb _ 64 h)

  all_held : (es : List Entry) → length c₀.0 + length es ≤ 64 → take 64 (c₀.0 ++ es) ≡ c₀.0 ++ es
  all_held es h = take_all 64 (c₀.0 ++ es) (omega (arith, length-append c₀.0 es))

  begun_empty : Sofar c₀ d d None c₀ []
  begun_empty = record {
    left = ap (λ n. parts one_more [] n 0 d) (omega arith);
    place = omega arith;
    inside = omega arith;
    held = sym (all_held [] (omega (arith, few_held c₀)) ∙ append-nil c₀.0);
    over = sym (fits [] (omega (arith, few_held c₀)));
  }

  module _ (rest : List ℕ) (full : Option ℕ) (c : Contents) (es : List Entry) (s : Sofar c₀ d rest full c es) where
    held_count : length c.0 ≡ min 64 (length c₀.0 + length es)
    held_count = omega (arith, ap length s.held, length-take 64 (c₀.0 ++ es), length-append c₀.0 es)

    none_fits : full ≡ None → length c₀.0 + length es ≤ 64
    none_fits none =
        elim (cases_lt 64 (length c₀.0 + length es)) [ inl h ↦ (let z : ◌≡◌ {A = ℕ} 0 1 = cc (none, s.over, spills es h) in absurd (omega arith)) | inr h ↦ h ]

    some_spills : (p : ℕ) → full ≡ Some p → (64 < length c₀.0 + length es) × (p ≡ length (entries_bytes (take (64 - length c₀.0) es)))
    some_spills p some =
        elim (cases_lt 64 (length c₀.0 + length es)) [ inl h ↦ (h, cc (some, s.over, spills es h)) | inr h ↦ (let z : ◌≡◌ {A = ℕ} 0 1 = cc (some, s.over, fits es h) in absurd (omega arith)) ]

    -- the end of the diff
    done : length rest ≡ 0 → applied c₀ d ≡ grown c₀ es
    done h = applied_good c₀ d es (sym s.left ∙ ap (parts one_more es _ 0) (nil_from_length rest h))

    done_within : length rest ≡ 0 → full ≡ None → applied c₀ d ≡ Ok c
    done_within h none =
        let ok : Contents → Result Contents StateFault = λ t. Ok t in
        done h ∙ few_yes (c₀.0 ++ es) ok _ c (sym (s.held ∙ all_held es (none_fits none)))

    -- one entry more
    module _ (e : Entry) (rest' : List ℕ) (is : entry_at rest ≡ Some e) (rest-is : rest' ≡ drop (length (entry_bytes e)) rest) where
      within : length (entry_bytes e) ≤ length rest
      within = entry_fits rest e is

      at_more : length d - length rest' ≡ length d - length rest + length (entry_bytes e)
      at_more = omega (arith, within, s.inside, ap length rest-is, length-drop (length (entry_bytes e)) rest)

      left_more : parts one_more (es ++ (e ∷ [])) (length d - length rest') 0 rest' ≡ entries_in d
      left_more =
          ap (λ n. parts one_more (es ++ (e ∷ [])) n 0 rest') at_more
          ∙ ap (parts one_more (es ++ (e ∷ [])) (length d - length rest + length (entry_bytes e)) 0) rest-is
          ∙ sym (parts_good one_more es (es ++ (e ∷ [])) (length d - length rest) (length (entry_bytes e)) rest (width_pos e) within (more es rest e is))
          ∙ s.left

      place_more : length d - length rest' ≡ length (entries_bytes (es ++ (e ∷ [])))
      place_more = omega (arith, at_more, s.place, ap length (flat_map-append entry_bytes es (e ∷ [])), length-append (entries_bytes es) (entries_bytes (e ∷ [])), ap length (append-nil (entry_bytes e)))

      inside_more : length rest' ≤ length d
      inside_more = omega (arith, s.inside, ap length rest-is, length-drop (length (entry_bytes e)) rest)

      longer : length (es ++ (e ∷ [])) ≡ length es + 1
      longer = length_push es e

      regroup : c₀.0 ++ (es ++ (e ∷ [])) ≡ (c₀.0 ++ es) ++ (e ∷ [])
      regroup = sym (append_assoc c₀.0 es (e ∷ []))

      with_room : (c' : Contents) → pushed c e ≡ Ok c' → Sofar c₀ d rest' full c' (es ++ (e ∷ []))
      with_room c' ok =
          let is' = push_more c e c' ok in
          let few' : length c₀.0 + length es < 64 = omega (arith, held_count, few_held c', ap length is', length_push c.0 e) in
          record {
            left = left_more;
            place = place_more;
            inside = inside_more;
            held =
                is'
                ∙ ap (λ x. x ++ (e ∷ [])) (s.held ∙ all_held es (omega arith))
                ∙ sym regroup
                ∙ sym (all_held (es ++ (e ∷ [])) (omega (arith, longer)));
            over = s.over ∙ fits es (omega arith) ∙ sym (fits (es ++ (e ∷ [])) (omega (arith, longer)));
          }

      abbrev some : ℕ → Option ℕ
      some n = Some n

      first_over : 64 ≤ length c.0 → full ≡ None → ◌≡◌ {A = Option ℕ} (Some (length d - length rest)) (overflow (length c₀.0) (es ++ (e ∷ [])))
      first_over full' none =
          let before : take (64 - length c₀.0) (es ++ (e ∷ [])) ≡ es = take_at es (e ∷ []) (64 - length c₀.0) (omega (arith, held_count, none_fits none)) in
          ap some (s.place ∙ ap (λ x. length (entries_bytes x)) (sym before)) ∙ sym (spills (es ++ (e ∷ [])) (omega (arith, longer, held_count)))

      still_over : (p : ℕ) → full ≡ Some p → full ≡ overflow (length c₀.0) (es ++ (e ∷ []))
      still_over p is_some =
          let o = some_spills p is_some in
          let before : take (64 - length c₀.0) (es ++ (e ∷ [])) ≡ take (64 - length c₀.0) es = take-append-le (64 - length c₀.0) es (e ∷ []) (omega (arith, o.0)) in
          s.over ∙ spills es o.0 ∙ ap some (ap (λ x. length (entries_bytes x)) (sym before)) ∙ sym (spills (es ++ (e ∷ [])) (omega (arith, longer, o.0)))

      no_room : 64 ≤ length c.0 → Sofar c₀ d rest' (option_or full (Some (length d - length rest))) c (es ++ (e ∷ []))
      no_room full' = record {
        left = left_more;
        place = place_more;
        inside = inside_more;
        held = s.held ∙ sym (ap (take 64) regroup ∙ take-append-le 64 (c₀.0 ++ es) (e ∷ []) (omega (arith, held_count, length-append c₀.0 es)));
        over = or_is full _ _ (first_over full') still_over;
      }

module _ (j₀ : Journal) (d : List ℕ) where
  pub begun : IsSofar j₀ d d None j₀
  begun = ([], begun_empty (reading j₀) d)

  module _ (rest : List ℕ) (full : Option ℕ) (j : Journal) (s : IsSofar j₀ d rest full j) where
    pub done_ok : length rest ≡ 0 → full ≡ None → applied (reading j₀) d ≡ Ok (reading j)
    done_ok = done_within (reading j₀) d rest full (reading j) s.0 s.1

    -- an entry more, put into the journal if there is room
    module _ (e : Entry) (rest' : List ℕ) (is : entry_at rest ≡ Some e) (rest-is : rest' ≡ drop (length (entry_bytes e)) rest) (j' : Journal) where
      pub put : (r : Result (Unit {0}) EditRefusal) → Pushed j e j' r → is_err r ≡ false → IsSofar j₀ d rest' full j'
      put (Ok u) p _ = (_, with_room (reading j₀) d rest full (reading j) s.0 s.1 e rest' is rest-is (reading j') p)
      put (Err f) p h = absurd (false≢true (sym h))

      pub refused : (r : Result (Unit {0}) EditRefusal) → Pushed j e j' r → is_err r ≡ true → IsSofar j₀ d rest' (option_or full (Some (length d - length rest))) j'
      refused (Ok u) p h = absurd (false≢true h)
      refused (Err f) p _ =
          let P : Journal → Type 0 = IsSofar j₀ d rest' (option_or full (Some (length d - length rest))) in
          subst P (sym p.1) (_, no_room (reading j₀) d rest full (reading j) s.0 s.1 e rest' is rest-is (push_full (reading j) e f p.0))
