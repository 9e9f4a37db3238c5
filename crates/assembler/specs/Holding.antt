-- What an assembler's fields hold.
use Rattle.std.specs.Prelude.{ℕ, List, Some, None, Option}
use Rattle.assembler.specs.declared.half.Collecting.{Collecting}
use Rattle.assembler.specs.Contents.{Contents, nothing, collecting}
use Rattle.assembler.specs.Reading.{marked}

-- what an assembler holds
abbrev pub holding : Option Collecting → List ℕ → Contents
holding None buf = nothing
holding (Some c) buf = collecting c.sending (marked c.marks.held c.marks.last buf)
