-- A kind of state: what its six things mean, by a state's contents alone, and the laws that it keeps.
use Rattle.std.specs.Prelude.{◌≡◌, ℕ, ◌<◌, min, Bool, true, cond, List, ◌++◌, length, drop, Ok, Err, Decides, Result, nat_le}
use Rattle.state.specs.declared.fault.StateFault.{StateFault}
use Rattle.state.specs.declared.fault.DiffRefusal.{DiffRefusal}
use Rattle.state.specs.declared.fault.DiffRefusal.TheVariants.{NotFollowing, TooLong}

-- the base stands before the target: `follows b t` says that t may come after b, and `diff b t` leads from b to t
pub record Kind : Type 1 where
  pub Contents : Type 0
  pub start : Contents
  pub same : Contents → Contents → Bool
  pub follows : Contents → Contents → Bool
  pub diff : Contents → Contents → List ℕ
  pub apply : Contents → List ℕ → Result Contents StateFault

module _ (K : Kind) where
  -- same tells equal contents from others
  abbrev pub Exact : Type 0
  Exact = (a b : K.Contents) → Decides (K.same a b) (a ≡ b)

  -- every state follows itself
  abbrev pub Itself : Type 0
  Itself = (a : K.Contents) → K.follows a a ≡ true

  -- what follows a follower follows
  abbrev pub Onward : Type 0
  Onward = (a b c : K.Contents) → K.follows a b ≡ true → K.follows b c ≡ true → K.follows a c ≡ true

  -- the diff to a target that follows, if under 65,535 bytes, takes its base to it
  abbrev pub Reaches : Type 0
  Reaches = (b t : K.Contents) → K.follows b t ≡ true → length (K.diff b t) < 65535 → K.apply b (K.diff b t) ≡ Ok t

  -- what every kind owes
  abbrev pub Lawful : Type 0
  Lawful = Exact × Itself × Onward × Reaches

  -- the size of a diff: its length, 65,535 for that or more, 0 where the target doesn't follow
  abbrev pub sized : K.Contents → K.Contents → ℕ
  sized b t = cond (K.follows b t) (min 65535 (length (K.diff b t))) 0

  -- whether a diff has room in a buffer: it is no longer than that, nor than 65,534
  abbrev pub roomy : K.Contents → K.Contents → List ℕ → Bool
  roomy b t out = nat_le (length (K.diff b t)) (min 65534 (length out))

  -- the answer of a diff call that is lent the buffer `out`
  abbrev pub diffed : K.Contents → K.Contents → List ℕ → Result ℕ DiffRefusal
  diffed b t out = cond (K.follows b t) (cond (roomy b t out) (Ok (length (K.diff b t))) (Err TooLong)) (Err NotFollowing)

  -- what it leaves there: the diff at the front and the rest as it was, or all as it was
  abbrev pub written : K.Contents → K.Contents → List ℕ → List ℕ
  written b t out = cond (K.follows b t) (cond (roomy b t out) (K.diff b t ++ drop (length (K.diff b t)) out) out) out

  -- an apply call on the value s that leaves s': the new contents, or the fault and the value as it was
  abbrev pub Applied : {S : Type 0} → (S → K.Contents) → S → List ℕ → S → Result (Unit {0}) StateFault → Type 0
  Applied reading s d s' (Ok u) = K.apply (reading s) d ≡ Ok (reading s')
  Applied reading s d s' (Err f) = (K.apply (reading s) d ≡ Err f) × (s' ≡ s)
