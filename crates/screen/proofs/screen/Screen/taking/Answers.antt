use Rattle.screen.specs.Screen.{contents_of}
use Rattle.screen.proofs.Calls.{taken}
use Rattle.screen.proofs.screen.Screen.taking.Goals as goal

pub returns : goal.returns
returns c =
    let told = rw c.in_ok-cursor.ensures.ok_part at c.read.ensures in
    taken (contents_of c.args.self.now) c.args.d.now _ c.redraw.new.cells c.in_ok-cursor.cursor c.cells.ensures told.0 told.1 told.2 c.in_ok-redraw.ensures
