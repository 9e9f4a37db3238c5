use Rattle.std.proofs.Common.{◌≤◌, ◌++◌, length, drop, Ok, sym, ap, ◌∙◌, arith}
use Rattle.std.proofs.lemmas.Bool.{cond-true, le-leb}
use Rattle.packet.specs.Instructions.{update_of, instruction_bytes}
use Rattle.packet.proofs.Layouts.{instruction_length}
use Rattle.packet.proofs.Writes.{wrote, wrote_into}
use Rattle.packet.proofs.instruction.Instruction.write.Goals as goal

pub returns-clause-answer : goal.returns-clause-answer
returns-clause-answer c =
    let u = update_of c.args.self.now in
    let fits : length u.diff ≤ 2031 = omega arith in
    let long = c.written.ensures ∙ ap length (wrote c.new-writer.ensures.front.0 c.lay.ensures) ∙ instruction_length u in
    ap (λ n. Ok n) long ∙ sym (cond-true _ _ _ (le-leb (length u.diff) 2031 fits))

pub returns-clause-bytes : goal.returns-clause-bytes
returns-clause-bytes c =
    let u = update_of c.args.self.now in
    let o = c.args.out.now in
    let fits : length u.diff ≤ 2031 = omega arith in
    wrote_into c.new-writer.ensures.front c.lay.ensures
    ∙ ap (λ n. instruction_bytes u ++ drop n o) (instruction_length u)
    ∙ sym (cond-true _ _ _ (le-leb (length u.diff) 2031 fits))
