use Rattle.std.proofs.Common.{◌≡◌, ◌<◌, rules}
use Rattle.journal.specs.Journals.{reading}
use Rattle.journal.proofs.Pushes.{key_fits}
use Rattle.journal.proofs.journal.Journal.with_key.Goals as goal

pub returns : goal.returns
returns c =
    let e : (c.args.code < 256) × (c.in_ok-code.code ≡ c.args.code) = search rules in
    cc (c.with_entry.ensures, e.1, key_fits (reading c.args.self.now) c.args.code e.0)
