use Rattle.window.proofs.Laws.{all_lookups}
use Rattle.window.proofs.window.lookups_stand.Goals as goal

pub returns : goal.returns
returns g c = all_lookups g.row.T.Denot
