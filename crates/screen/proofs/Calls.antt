-- What the calls on a screen give, from what their parts give.
use Rattle.std.proofs.Common.{◌≡◌, ℕ, ◌/◌, ◌%◌, ◌<◌, true, eqb, ltb, List, length, get_or, set, Ok, Err, Result, sym, ap, ◌∙◌, arith}
use Rattle.std.proofs.lemmas.List.{length-set}
use Rattle.std.proofs.lemmas.Bool.{cond-true, and_from, eq-eqb, lt-ltb}
use Rattle.state.specs.declared.fault.StateFault.{StateFault}
use Rattle.screen.specs.declared.screen.Cursor.{Cursor}
use Rattle.screen.specs.Runs.{is_character, all_characters, redrawn}
use Rattle.screen.specs.Screen.{Contents, legal, settled, is_cursor, apply, drawn_at}
use Rattle.screen.specs.Legal.{bounds, settled_legal}
use Rattle.screen.specs.Placed.{characters_set}

-- apply, where cursor and runs are good
pub taken : (c : Contents) (d : List ℕ) (cells after : List ℕ) (cursor : Cursor) → cells ≡ c.0.cells → is_cursor d ≡ true → cursor.row ≡ get_or d 0 0 → cursor.column ≡ get_or d 1 0 → redrawn cells d ≡ Ok after → apply c d ≡ Ok (settled (record { cells = after; row = cursor.row; column = cursor.column }))
taken c d cells after cursor e good row column h =
    let whole : Result (List ℕ) StateFault → Result Contents StateFault = λ r. elim r [ Ok xs ↦ Ok (settled (record { cells = xs; row = get_or d 0 0; column = get_or d 1 0 })) | Err f ↦ Err f ] in
    let ok : ℕ → ℕ → Result Contents StateFault = λ r k. Ok (settled (record { cells = after; row = r; column = k })) in
    cond-true (is_cursor d) _ _ good
    ∙ ap whole (ap (λ xs. redrawn xs d) (sym e) ∙ h)
    ∙ ap (λ r. ok r (get_or d 1 0)) (sym row)
    ∙ ap (ok cursor.row) (sym column)

-- a character drawn on a legal picture leaves a legal one
pub drawn_legal : (c : Contents) (position character : ℕ) → position < 320 → is_character character ≡ true → legal (drawn_at c.0 position character) ≡ true
drawn_legal c position character low good =
    let b = bounds c.0 c.1 in
    and_from (eqb (length (set c.0.cells position character)) 320) _ (eq-eqb _ 320 (length-set c.0.cells position character ∙ b.size))
    (and_from (all_characters (set c.0.cells position character)) _ (characters_set c.0.cells position character good b.characters)
    (and_from (ltb (position / 40) 8) (ltb (position % 40) 40) (lt-ltb _ 8 (omega arith)) (lt-ltb _ 40 (omega arith))))

pub drawn_is : (c : Contents) (position character : ℕ) (cells : List ℕ) → cells ≡ c.0.cells → position < 320 → is_character character ≡ true → (settled (record { cells = set cells position character; row = position / 40; column = position % 40 })).0 ≡ drawn_at c.0 position character
drawn_is c position character cells e low good =
    ap (λ xs. (settled (record { cells = set xs position character; row = position / 40; column = position % 40 })).0) e
    ∙ settled_legal (drawn_at c.0 position character) (drawn_legal c position character low good)
