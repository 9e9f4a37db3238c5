-- Check: a layer over any kind that ends each diff with its checksum.
use Rattle.std.specs.Prelude.{ℕ, ◌-◌, cond, List, ◌++◌, length, take, Err, Result, nat_lt}
use Rattle.std.specs.Str.{bytes_eq}
use Rattle.state.specs.declared.fault.StateFault.{StateFault}
use Rattle.state.specs.declared.fault.StateFault.TheVariants.{BadCheck}
use Rattle.state.specs.BigEndian.{two}
use Rattle.state.specs.Kind.{Kind}
use Rattle.state.specs.Checksum.{checksum}

-- the checksum's two bytes
abbrev pub sum_bytes : List ℕ → List ℕ
sum_bytes xs = two (checksum xs)

-- bytes that end with their checksum
abbrev pub sealed : List ℕ → List ℕ
sealed xs = xs ++ sum_bytes xs

-- all but the last two bytes
abbrev pub body : List ℕ → List ℕ
body d = take (length d - 2) d

module _ (K : Kind) where
  -- a diff without the two bytes is refused at 0, one with others than its body's checksum where they stand
  abbrev pub checked : K.Contents → List ℕ → Result K.Contents StateFault
  checked c d =
      cond (nat_lt (length d) 2) (Err (BadCheck 0))
      (cond (bytes_eq d (sealed (body d))) (K.apply c (body d)) (Err (BadCheck (length d - 2))))

  abbrev pub check_kind : Kind
  check_kind = record {
    Contents = K.Contents;
    start = K.start;
    same = K.same;
    follows = K.follows;
    diff = λ b t. sealed (K.diff b t);
    apply = checked;
  }
