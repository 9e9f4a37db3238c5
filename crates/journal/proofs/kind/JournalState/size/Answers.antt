use Rattle.journal.specs.Journals.{reading}
use Rattle.journal.proofs.Sizes.{size_is}
use Rattle.journal.proofs.kind.JournalState.size.Goals as goal

pub returns-in-Some : goal.returns-in-Some
returns-in-Some c =
    let e = c.in-Some.ensures.cases in
    size_is (reading c.args.base.now) (reading c.args.self.now) _ _ _ c.entries-2.ensures.value c.entries.ensures.value e.0 e.1 c.bytes_of.result c.bytes_of.ensures
