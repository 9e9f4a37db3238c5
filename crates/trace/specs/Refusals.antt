-- The refusals of a trace, by number.
use Rattle.std.specs.Prelude.{ℕ, List, ◌++◌, codes, decimal}
use Rattle.trace.specs.declared.line.TraceFault.{TraceFault}
use Rattle.trace.specs.declared.line.TraceFault.TheVariants.{Malformed}

-- 1: the names line or a value line is not as laid down
abbrev pub refusal_number : TraceFault → ℕ
refusal_number Malformed = 1

-- a refusal as it is printed: `no` and its number
abbrev pub refusal_text : ℕ → List ℕ
refusal_text n = codes "no" ++ decimal n
