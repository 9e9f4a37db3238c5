-- Bytes read part by part, from the front.
use Rattle.std.specs.Prelude.{ℕ, zero, suc, ◌+◌, ◌-◌, List, [], ◌∷◌, Some, None, Ok, Err, Option, Result}

-- `step` says of the bytes that begin with a part what the part makes of the state so far and how many bytes it has, or that it is bad
module _ {S : Type 0} (step : S → List ℕ → Option (S × ℕ)) where
  -- the state after all parts, or the place of the first bad one; `rest` bytes at the front, the first at place `at`, still belong to the part before
  abbrev pub parts : S → ℕ → ℕ → List ℕ → Result S ℕ
  parts s at rest [] = Ok s
  parts s at (suc rest) (b ∷ bs) = parts s (at + 1) rest bs
  parts s at zero (b ∷ bs) = elim (step s (b ∷ bs)) [ None ↦ Err at | Some p ↦ parts p.0 (at + 1) (p.1 - 1) bs ]
