use Rattle.std.proofs.Common.{◌≡◌, ◌<◌, rules}
use Rattle.journal.specs.Journals.{reading}
use Rattle.journal.proofs.Pushes.{tap_fits}
use Rattle.journal.proofs.journal.Journal.with_tap.Goals as goal

pub returns : goal.returns
returns c =
    let f : (c.args.fare < 65536) × (c.in_ok-fare.fare ≡ c.args.fare) = search rules in
    let b : (c.args.balance < 65536) × (c.in_ok-balance.balance ≡ c.args.balance) = search rules in
    cc (c.with_entry.ensures, f.1, b.1, tap_fits (reading c.args.self.now) c.args.card c.args.fare c.args.balance f.0 b.0)
