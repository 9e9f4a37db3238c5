use Rattle.std.proofs.Common.{◌≡◌, length, sym, ◌∙◌, rules}
use Rattle.std.specs.Prelude.{sum_by}
use Rattle.std.proofs.lemmas.List.Concat.{length-flat_map}
use Rattle.journal.specs.Entries.{entry_bytes}
use Rattle.journal.proofs.kind.bytes_of.Goals as goal

pub returns : goal.returns
returns c =
    let s : c.sum.result ≡ sum_by (λ e. length (entry_bytes e)) c.args.entries.now = search rules in
    s ∙ sym (length-flat_map entry_bytes c.args.entries.now)
