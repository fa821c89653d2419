-- What is written: the parts of a listing whose numbers are still the bytes of their digits, and what they stand for.
--   WrittenOperand     an operand as it is written; and WrittenInstruction, WrittenCondition
--   digit_at ds i      the digit that stands at place i
--   decimal ds         the number that one or two digits write, whatever they are
--   NamesVariable w v  the word w is that of v; and NamesRegister
--   operand_of w       the operand that is written so; and instruction_of, condition_of
use Rattle.std.specs.Prelude.{List, cond, length, slice_index, ℕ, ◌*◌, ◌+◌, ◌-◌, ◌==◌, ◌≡◌}
use Rattle.std.specs.Borrow.{Bor}
use Rattle.listing.specs.declared.code.Condition.{Condition}
use Rattle.listing.specs.declared.code.Condition.TheVariants as condition
use Rattle.listing.specs.declared.code.Instruction.{Instruction}
use Rattle.listing.specs.declared.code.Instruction.TheVariants as instruction
use Rattle.listing.specs.declared.code.Operand.{Operand}
use Rattle.listing.specs.declared.code.Operand.TheVariants as operand
use Rattle.listing.specs.declared.code.Register.{Register}
use Rattle.listing.specs.declared.code.Variable.{Variable}
use Rattle.listing.specs.Names.{letter, digit}

abbrev pub WrittenOperand : Type 0
WrittenOperand = Operand (Bor (List ℕ))

abbrev pub WrittenInstruction : Type 0
WrittenInstruction = Instruction (Bor (List ℕ))

abbrev pub WrittenCondition : Type 0
WrittenCondition = Condition (Bor (List ℕ))

abbrev digit_at : List ℕ → ℕ → ℕ
digit_at ds i = slice_index ds i - 48

abbrev pub decimal : List ℕ → ℕ
decimal ds = cond (length ds == 1) (digit_at ds 0) (digit_at ds 0 * 10 + digit_at ds 1)

abbrev pub NamesVariable : List ℕ → Variable → Type 0
NamesVariable word v = (length word ≡ 1) × (slice_index word 0 ≡ letter v)

abbrev pub NamesRegister : List ℕ → Register → Type 0
NamesRegister word r = (length word ≡ 2) × ((slice_index word 0 ≡ 114) × (slice_index word 1 ≡ digit r))

abbrev pub operand_of : WrittenOperand → Operand ℕ
operand_of (operand.Value ds) = operand.Value (decimal ds.now)
operand_of (operand.Register r) = operand.Register r

abbrev pub instruction_of : WrittenInstruction → Instruction ℕ
instruction_of (instruction.Store v e) = instruction.Store v (operand_of e)
instruction_of (instruction.Load r v) = instruction.Load r v
instruction_of (instruction.Set r e) = instruction.Set r (operand_of e)
instruction_of (instruction.Add r e) = instruction.Add r (operand_of e)
instruction_of (instruction.Cas r v old new) = instruction.Cas r v (operand_of old) (operand_of new)
instruction_of instruction.Fence = instruction.Fence
instruction_of (instruction.Jump n) = instruction.Jump (decimal n.now)
instruction_of (instruction.JumpIfEqual r e n) = instruction.JumpIfEqual r (operand_of e) (decimal n.now)
instruction_of (instruction.JumpUnlessEqual r e n) = instruction.JumpUnlessEqual r (operand_of e) (decimal n.now)

abbrev pub condition_of : WrittenCondition → Condition ℕ
condition_of (condition.At t n) = condition.At (decimal t.now) (decimal n.now)
condition_of (condition.Holds t r d) = condition.Holds (decimal t.now) r (decimal d.now)
condition_of (condition.Memory v d) = condition.Memory v (decimal d.now)
