use Rattle.trace.proofs.Cuts.{found}
use Rattle.trace.proofs.lines.line_at.Goals as goal

pub returns : goal.returns
returns c = found c.args.text.now c.args.at c.line_len.result c.min-next.result c.if-at-text.false c.line_len.ensures.value c.line_len.ensures.bound c.min-next.ensures
