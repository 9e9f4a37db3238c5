use Rattle.std.proofs.Common.{ok_or, sym, ap, ◌∙◌}
use Rattle.std.specs.Result.{result_ok}
use Rattle.trace.specs.declared.line.TraceFault.TheVariants.{Malformed}
use Rattle.trace.proofs.Reading.{read_back, written_read}
use Rattle.trace.proofs.reader.read_line.Goals as goal

pub returns : goal.returns
returns c line = (
  λ same. read_back c.args.text.now line (sym c.line_of.ensures ∙ c.ok_or.ensures.ok_part ∙ ap result_ok same),
  λ writes. c.ok_or.ensures.value ∙ ap (λ o. ok_or o Malformed) (c.line_of.ensures ∙ written_read c.args.text.now line writes),
)
