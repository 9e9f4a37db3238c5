use Rattle.assembler.proofs.Assembling.{assembles}
use Rattle.assembler.proofs.assembly.assembly_stands.Goals as goal

pub returns : goal.returns
returns c = assembles
