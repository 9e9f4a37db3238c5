use Rattle.std.proofs.Common.{◌≡◌, ℕ, ◌-◌, ◌*◌, ◌%◌, ◌^◌, ◌<◌, ◌≤◌, true, sym, refl, subst, arith}
use Rattle.std.proofs.lemmas.Nat.{one_shl, or_lt, pow_below}
use Rattle.window.specs.declared.table.NumberTable.{NumberTable}
use Rattle.window.specs.Numbers.{recorded, free, adding}
use Rattle.window.proofs.Laws.{inside_parts, free_inside}
use Rattle.window.proofs.Marks.{held_more, same_numbers}
use Rattle.window.proofs.table.NumberTable.with.Goals as goal

-- a number in the window is at or above the anchor, and its bit is below the width
low : (t : NumberTable) (n : ℕ) → free (recorded t) n ≡ true → (t.anchor ≤ n) × (n - t.anchor < t.width) × (t.width ≤ 64)
low t n h = let p = inside_parts (recorded t) n (free_inside (recorded t) n h) in (p.0, omega (arith, p.0, p.1), t.within.1)

pub invariant_of-result : goal.invariant_of-result
invariant_of-result c =
    let t = c.args.self in
    let k = c.args.n - t.anchor in
    let b = low t c.args.n c.requires in
    let one : (1 * 2 ^ k) % 2 ^ 64 ≡ 2 ^ k = one_shl k 64 (omega (arith, b.1, b.2)) in
    record { within = (t.within.0, t.within.1, or_lt t.width t.marks ((1 * 2 ^ k) % 2 ^ 64) t.within.2 (subst (λ v. v < 2 ^ t.width) (sym one) (pow_below k t.width b.1))) }

pub returns : goal.returns
returns c =
    let t = c.args.self in
    let b = low t c.args.n c.requires in
    same_numbers _ (adding (recorded t) c.args.n) refl refl (λ m. held_more t.anchor t.marks c.args.n m b.0 (omega (arith, b.1, b.2)))
