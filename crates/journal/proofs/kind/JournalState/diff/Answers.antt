use Rattle.std.proofs.Common.{◌∙◌}
use Rattle.journal.specs.Journals.{reading}
use Rattle.journal.proofs.Sizes.{ok_answer, ok_buffer}
use Rattle.journal.proofs.kind.JournalState.diff.Goals as goal

pub returns-clause-answer : goal.returns-clause-answer
returns-clause-answer c =
    let e = c.in-Some.ensures.cases in
    ok_answer (reading c.args.base.now) (reading c.args.self.now) _ _ _ c.entries-2.ensures.value c.entries.ensures.value e.0 e.1 c.bytes_of-n.result c.bytes_of-n.ensures c.args.out.now c.if-n-out.false

pub returns-clause-buffer : goal.returns-clause-buffer
returns-clause-buffer c =
    let e = c.in-Some.ensures.cases in
    c.put_all.ensures ∙ ok_buffer (reading c.args.base.now) (reading c.args.self.now) _ _ _ c.entries-2.ensures.value c.entries.ensures.value e.0 e.1 c.bytes_of-n.result c.bytes_of-n.ensures c.args.out.now c.if-n-out.false
