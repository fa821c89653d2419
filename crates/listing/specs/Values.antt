-- The values that instructions and conditions may hold.
--   operand_fits e       a value is at most 15
--   instruction_fits i   so are its values, and a target is at most 16
--   condition_fits c     the same, and a thread's number is at most 3
use Rattle.std.specs.Prelude.{ℕ, Bool, true, ◌&&◌, nat_le}
use Rattle.listing.specs.declared.code.Operand.{Operand}
use Rattle.listing.specs.declared.code.Operand.TheVariants as operand
use Rattle.listing.specs.declared.code.Instruction.{Instruction}
use Rattle.listing.specs.declared.code.Instruction.TheVariants as instruction
use Rattle.listing.specs.declared.code.Condition.{Condition}
use Rattle.listing.specs.declared.code.Condition.TheVariants as condition

abbrev pub operand_fits : Operand ℕ → Bool
operand_fits (operand.Value n) = nat_le n 15
operand_fits (operand.Register r) = true

abbrev pub instruction_fits : Instruction ℕ → Bool
instruction_fits (instruction.Store v e) = operand_fits e
instruction_fits (instruction.Load r v) = true
instruction_fits (instruction.Set r e) = operand_fits e
instruction_fits (instruction.Add r e) = operand_fits e
instruction_fits (instruction.Cas r v old new) = operand_fits old && operand_fits new
instruction_fits instruction.Fence = true
instruction_fits (instruction.Jump n) = nat_le n 16
instruction_fits (instruction.JumpIfEqual r e n) = operand_fits e && nat_le n 16
instruction_fits (instruction.JumpUnlessEqual r e n) = operand_fits e && nat_le n 16

abbrev pub condition_fits : Condition ℕ → Bool
condition_fits (condition.At t n) = nat_le t 3 && nat_le n 16
condition_fits (condition.Holds t r d) = nat_le t 3 && nat_le d 15
condition_fits (condition.Memory v d) = nat_le d 15
