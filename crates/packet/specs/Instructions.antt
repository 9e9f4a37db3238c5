-- An instruction: what it says, its bytes, and how bytes are read as one.
use Rattle.std.specs.Prelude.{ℕ, ◌+◌, Bool, cond, ◌&&◌, List, ◌∷◌, ◌++◌, length, drop, Ok, Err, Result, ◌==◌, nat_le, slice_index}
use Rattle.state.specs.BigEndian.{four, of_four}
use Rattle.packet.specs.declared.instruction.Instruction.{Instruction}
use Rattle.packet.specs.declared.refusal.InstructionFault.{InstructionFault}
use Rattle.packet.specs.declared.refusal.InstructionFault.TheVariants.{NotAnInstruction, NumbersApart}
use Rattle.packet.specs.declared.refusal.SendRefusal.{SendRefusal}
use Rattle.packet.specs.declared.refusal.SendRefusal.TheVariants.{LongDiff}

-- an instruction by what it says: the number of the state that its diff starts from and of the one it leads to, the number acknowledged, the number below which no state is needed, and the diff
pub record Update : Type 0 where
  pub old : ℕ
  pub new : ℕ
  pub ack : ℕ
  pub throwaway : ℕ
  pub diff : List ℕ

-- what an instruction says
abbrev pub update_of : Instruction → Update
update_of i = record { old = i.old; new = i.new; ack = i.ack; throwaway = i.throwaway; diff = i.diff.now }

-- the numbers stand in order, the last at most 15 above the first
abbrev pub together : Update → Bool
together u = nat_le u.throwaway u.old && (nat_le u.old u.new && nat_le u.new (u.throwaway + 15))

-- its bytes: the version 2, the four numbers, the diff
unfoldable pub instruction_bytes : Update → List ℕ
instruction_bytes u = 2 ∷ (four u.old ++ (four u.new ++ (four u.ack ++ (four u.throwaway ++ u.diff))))

-- the numbers and the diff that stand behind the version
unfoldable pub fields_of : List ℕ → Update
fields_of bs = record { old = of_four bs 1; new = of_four bs 5; ack = of_four bs 9; throwaway = of_four bs 13; diff = drop 17 bs }

-- whether bytes are long enough for a version and four numbers, and of version 2
abbrev pub headed : List ℕ → Bool
headed bs = nat_le 17 (length bs) && slice_index bs 0 == 2

-- bytes read: headed so, the numbers together
abbrev pub read_instruction : List ℕ → Result Update InstructionFault
read_instruction bs =
    cond (headed bs)
    (cond (together (fields_of bs)) (Ok (fields_of bs)) (Err NumbersApart))
    (Err NotAnInstruction)

-- the answer of writing an instruction: its length, if its diff is at most 2,031 bytes
abbrev pub write_answer : Update → Result ℕ SendRefusal
write_answer u = cond (nat_le (length u.diff) 2031) (Ok (17 + length u.diff)) (Err LongDiff)

-- what writing leaves in a buffer: the instruction at the front and the rest as it was, or all as it was
abbrev pub written_instruction : Update → List ℕ → List ℕ
written_instruction u out = cond (nat_le (length u.diff) 2031) (instruction_bytes u ++ drop (17 + length u.diff) out) out
