-- An instruction's pieces make it whole again, in whatever order and however often they come.
use Rattle.std.specs.Prelude.{◌≡◌, ℕ, zero, suc, ◌<◌, ◌≤◌, Bool, true, false, cond, ◌&&◌, ◌||◌, List, [], ◌∷◌, map, length, Some, None, Option, ◌==◌, nat_eq, nat_lt}
use Rattle.packet.specs.Pieces.{Piece, piece, piece_count}
use Rattle.assembler.specs.Contents.{Held, Contents, collecting, collects, held_of, held_as, joined}
use Rattle.assembler.specs.Offers.{Outcome, refused, partly, wholly, contradicts, offered}
use Rattle.packet.specs.Fragments.{sound}

-- whether every number below n is such
abbrev pub every : ℕ → (ℕ → Bool) → Bool
every zero f = true
every (suc n) f = f n && every n f

-- whether a number is among others
abbrev pub occurs : ℕ → List ℕ → Bool
occurs n [] = false
occurs n (k ∷ ks) = n == k || occurs n ks

-- those of the pieces of the bytes bs that `has` names
abbrev pub gathered : ℕ → List ℕ → (ℕ → Bool) → ℕ → Option Held
gathered s bs has k = cond (nat_lt k (piece_count bs) && has k) (Some (held_as (piece s bs k))) None

-- the same numbers, and k
abbrev pub also : (ℕ → Bool) → ℕ → ℕ → Bool
also has k n = n == k || has n

-- pieces offered one after the other, as long as each is a mere part
abbrev pub offered_all : Contents → List Piece → Outcome
offered_all c [] = partly c
offered_all c (p ∷ ps) = elim (offered c p) [ refused f ↦ refused f | partly d ↦ offered_all d ps | wholly bs ↦ wholly bs ]

-- what is held after the pieces ks, where nothing of their sending was held before
abbrev pub held_after : Contents → ℕ → List ℕ → List ℕ → Contents
held_after c s bs [] = c
held_after c s bs (k ∷ ks) = collecting s (gathered s bs (λ n. occurs n (k ∷ ks)))

module _ (s : ℕ) (bs : List ℕ) where
  -- where pieces of the instruction are held, one more of them is never refused: it is held too, or it was the last one missing and makes exactly the instruction
  abbrev pub JoinsOn : Type 0
  JoinsOn =
      (c : Contents) (has : ℕ → Bool) → held_of c s ≡ gathered s bs has → (k : ℕ) → k < piece_count bs
      → offered c (piece s bs k) ≡ cond (every (piece_count bs) (also has k)) (wholly bs) (partly (collecting s (gathered s bs (also has k))))

  -- where nothing of its sending is held, a piece starts anew: it alone is held, or it is the only one and the whole
  abbrev pub StartsAnew : Type 0
  StartsAnew =
      (c : Contents) → collects c s ≡ false → (k : ℕ) → k < piece_count bs
      → offered c (piece s bs k) ≡ cond (piece_count bs == 1) (wholly bs) (partly (collecting s (gathered s bs (λ n. nat_eq n k))))

  -- any pieces in any order, with repeats: each is a part until all have come, and then they make exactly the instruction
  abbrev pub AnyOrder : Type 0
  AnyOrder =
      (c : Contents) → collects c s ≡ false → (ks : List ℕ) → ((k : ℕ) → occurs k ks ≡ true → k < piece_count bs)
      → offered_all c (map (piece s bs) ks) ≡ cond (every (piece_count bs) (λ n. occurs n ks)) (wholly bs) (partly (held_after c s bs ks))

-- a piece that is held already, where one is missing, adds nothing
abbrev pub RepeatsAddNothing : Type 0
RepeatsAddNothing =
    (held : ℕ → Option Held) (p : Piece) → sound p ≡ true → contradicts held p ≡ false → held p.number ≡ Some (held_as p) → joined held ≡ None
    → offered (collecting p.sending held) p ≡ partly (collecting p.sending held)

-- the first three for every sending and every instruction of 1 to 2,048 bytes, and the fourth
abbrev pub Assembles : Type 0
Assembles = ((s : ℕ) (bs : List ℕ) → 1 ≤ length bs → length bs ≤ 2048 → JoinsOn s bs × StartsAnew s bs × AnyOrder s bs) × RepeatsAddNothing
