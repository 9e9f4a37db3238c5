use Rattle.screen.specs.Screen.{contents_of}
use Rattle.screen.proofs.Calls.{drawn_is}
use Rattle.screen.proofs.screen.Screen.drawing.Goals as goal

pub returns : goal.returns
returns c = drawn_is (contents_of c.args.self.now) c.args.position c.args.character c.cells.result.now c.cells.ensures c.requires.0 c.requires.1
