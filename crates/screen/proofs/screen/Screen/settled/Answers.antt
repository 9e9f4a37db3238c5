use Rattle.std.proofs.Common.{sym}
use Rattle.screen.specs.Screen.{picture_of}
use Rattle.screen.specs.Legal.{settled_blank}
use Rattle.screen.proofs.screen.Screen.settled.Goals as goal

pub returns-else-is_legal : goal.returns-else-is_legal
returns-else-is_legal c = sym (settled_blank (picture_of c.args.self.now) (sym c.if-is_legal.ensures))
