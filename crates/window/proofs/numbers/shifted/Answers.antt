use Rattle.std.proofs.Common.{◌≡◌, ℕ, ◌/◌, ◌^◌, ◌<◌, Some, None, Option, SomeIff, unwrap_or, sym, ◌∙◌, rules, arith}
use Rattle.window.proofs.Marks.{shifted_out}
use Rattle.window.proofs.numbers.shifted.Goals as goal

-- a shift by 64 or more leaves nothing
by_cases : (m k : ℕ) (o : Option ℕ) → m < 2 ^ 64 → SomeIff o (k < 64) (m / 2 ^ k) → unwrap_or o 0 ≡ m / 2 ^ k
by_cases m k None small far = sym (shifted_out m 64 k small (omega arith))
by_cases m k (Some x) small is = is.1

pub returns : goal.returns
returns c = c.unwrap_or.ensures ∙ by_cases c.args.marks c.args.by c.checked_shr.result (search rules) c.checked_shr.ensures
