-- What a piece comes to that is offered to an assembler.
use Rattle.std.specs.Prelude.{ℕ, zero, suc, Bool, false, cond, not, ◌&&◌, ◌||◌, List, Some, None, Option, ◌==◌, nat_lt}
use Rattle.std.specs.Str.{bytes_eq}
use Rattle.packet.specs.Pieces.{Piece}
use Rattle.packet.specs.declared.refusal.FragmentFault.{FragmentFault}
use Rattle.packet.specs.declared.refusal.FragmentFault.TheVariants.{Malformed, Contradiction}
use Rattle.packet.specs.Fragments.{sound}
use Rattle.assembler.specs.Contents.{Held, Contents, collecting, held_of, adding, joined}

-- the piece is refused, or it is held with what was held of its sending, or it completes the instruction's bytes and what was held stays
pub data Outcome : Type 0 where
  refused : FragmentFault → Outcome
  partly : Contents → Outcome
  wholly : List ℕ → Outcome

-- whether two marks are one
abbrev pub same_mark : Bool → Bool → Bool
same_mark a b = cond a b (not b)

-- whether a piece says what is held
abbrev pub repeats : Held → Piece → Bool
repeats h p = same_mark h.last p.last && bytes_eq h.bytes p.contents

-- whether a piece stands against what is held under the number k: it says otherwise under the same number, both claim to be the last, or one lies above the last
abbrev pub against : ℕ → Held → Piece → Bool
against k h p =
    cond (k == p.number) (not (repeats h p))
    ((h.last && (p.last || nat_lt k p.number)) || (p.last && nat_lt p.number k))

-- the same, also where nothing may be held
abbrev pub clash : ℕ → Option Held → Piece → Bool
clash k None p = false
clash k (Some h) p = against k h p

-- whether one of the numbers below n is such
abbrev pub some : ℕ → (ℕ → Bool) → Bool
some zero f = false
some (suc n) f = f n || some n f

-- whether a piece stands against any that is held
unfoldable pub contradicts : (ℕ → Option Held) → Piece → Bool
contradicts held p = some 8 (λ k. clash k (held k) p)

-- pieces of the sending s are the whole, or a part that is held
abbrev pub settled : ℕ → (ℕ → Option Held) → Option (List ℕ) → Outcome
settled s held None = partly (collecting s held)
settled s held (Some bs) = wholly bs

-- a piece added to what is held of its sending
abbrev pub added : (ℕ → Option Held) → Piece → Outcome
added held p = settled p.sending (adding held p) (joined (adding held p))

-- a piece offered where this is held of its sending
abbrev pub judged : (ℕ → Option Held) → Piece → Outcome
judged held p = cond (sound p) (cond (contradicts held p) (refused Contradiction) (added held p)) (refused Malformed)

-- a piece offered to an assembler with these contents
abbrev pub offered : Contents → Piece → Outcome
offered c p = judged (held_of c p.sending) p
