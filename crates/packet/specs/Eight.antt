-- A number as eight bytes, the highest first.
use Rattle.std.specs.Prelude.{ℕ, ◌+◌, ◌*◌, ◌/◌, ◌%◌, List, ◌++◌}
use Rattle.state.specs.BigEndian.{four, of_four}

-- a number as eight bytes: the high four, then the low four
abbrev pub eight : ℕ → List ℕ
eight n = four (n / 4294967296) ++ four (n % 4294967296)

-- the number that eight bytes write from place i on
abbrev pub of_eight : List ℕ → ℕ → ℕ
of_eight bs i = of_four bs i * 4294967296 + of_four bs (i + 4)
