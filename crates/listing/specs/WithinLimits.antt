-- The limits that a program keeps, told by relations: what may stand in it, form by form.
use Rattle.std.specs.Prelude.{◌≡◌, ◌↔◌, ℕ, ◌<◌, ◌≤◌, true, All, List, Some, length, slice_get, sum_by}
use Rattle.listing.specs.declared.code.Condition.{Condition}
use Rattle.listing.specs.declared.code.Condition.TheVariants.{At, Holds, Memory}
use Rattle.listing.specs.declared.code.Instruction.{Instruction}
use Rattle.listing.specs.declared.code.Instruction.TheVariants.{Store, Load, Set, Add, Cas, Fence, Jump, JumpIfEqual, JumpUnlessEqual}
use Rattle.listing.specs.declared.code.Operand.{Operand}
use Rattle.listing.specs.declared.code.Operand.TheVariants.{Value, Register}
use Rattle.listing.specs.declared.program.Program.{Program}
use Rattle.listing.specs.Code.{Code, code_of}
use Rattle.listing.specs.Spelling.{keeps_limits}

-- there are one or more, and no more than this
abbrev pub OneTo : ℕ → ℕ → Type 0
OneTo most n = (1 ≤ n) × (n ≤ most)

-- a value is at most 15
pub data OperandKeeps : Operand ℕ → Type 0 where
  value : {d : ℕ} → d ≤ 15 → OperandKeeps (Value d)
  register : {r : _} → OperandKeeps (Register r)

-- an instruction in a thread of so many: it jumps to one of them, or to their end
pub data InstructionKeeps (many : ℕ) : Instruction ℕ → Type 0 where
  store : {v : _} {e : _} → OperandKeeps e → InstructionKeeps many (Store v e)
  load : {r : _} {v : _} → InstructionKeeps many (Load r v)
  set : {r : _} {e : _} → OperandKeeps e → InstructionKeeps many (Set r e)
  add : {r : _} {e : _} → OperandKeeps e → InstructionKeeps many (Add r e)
  cas : {r : _} {v : _} {old new : _} → OperandKeeps old → OperandKeeps new → InstructionKeeps many (Cas r v old new)
  fence : InstructionKeeps many Fence
  jump : {n : ℕ} → n ≤ many → InstructionKeeps many (Jump n)
  jump_if_equal : {r : _} {e : _} {n : ℕ} → OperandKeeps e → n ≤ many → InstructionKeeps many (JumpIfEqual r e n)
  jump_unless_equal : {r : _} {e : _} {n : ℕ}
      → OperandKeeps e → n ≤ many → InstructionKeeps many (JumpUnlessEqual r e n)

-- a condition beside these threads: it names one of them, and an instruction of that thread or its end
pub data ConditionKeeps (threads : List (List (Instruction ℕ))) : Condition ℕ → Type 0 where
  at : {t n : ℕ} {thread : _}
      → slice_get threads t ≡ Some thread → n ≤ length thread → ConditionKeeps threads (At t n)
  holds : {t d : ℕ} {r : _} → t < length threads → d ≤ 15 → ConditionKeeps threads (Holds t r d)
  memory : {d : ℕ} {v : _} → d ≤ 15 → ConditionKeeps threads (Memory v d)

-- a thread has 1 to 16 instructions
pub record ThreadKeeps (thread : List (Instruction ℕ)) : Type 0 where
  pub many : OneTo 16 (length thread)
  pub each : All (InstructionKeeps (length thread)) thread

-- a fault line has one to six conditions
pub record FaultKeeps (threads : List (List (Instruction ℕ))) (fault : List (Condition ℕ)) : Type 0 where
  pub many : OneTo 6 (length fault)
  pub each : All (ConditionKeeps threads) fault

-- A whole program: a bound of 1 to 4, one to four threads of at most 32 instructions together,
-- and one to eight fault lines.
pub record Keeps (c : Code) : Type 0 where
  pub bound : OneTo 4 c.bound
  pub threads : OneTo 4 (length c.threads)
  pub each_thread : All ThreadKeeps c.threads
  pub instructions : sum_by length c.threads ≤ 32
  pub faults : OneTo 8 (length c.faults)
  pub each_fault : All (FaultKeeps c.threads) c.faults

-- the limits that every program keeps by its type are these
abbrev pub LimitsAre : Type 0
LimitsAre = (c : Code) → keeps_limits c ≡ true ↔ Keeps c

-- and every program that exists keeps them
abbrev pub ProgramsKeep : Type 0
ProgramsKeep = (p : Program) → Keeps (code_of p)
