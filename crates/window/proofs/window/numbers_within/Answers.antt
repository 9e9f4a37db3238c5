use Rattle.window.proofs.Laws.{all_within}
use Rattle.window.proofs.window.numbers_within.Goals as goal

pub returns : goal.returns
returns c = all_within
