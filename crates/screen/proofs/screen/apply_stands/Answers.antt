use Rattle.screen.proofs.Lasting.{applies_as_told}
use Rattle.screen.proofs.screen.apply_stands.Goals as goal

pub returns : goal.returns
returns c = applies_as_told
