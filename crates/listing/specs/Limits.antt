-- The limits that every program keeps.
--   all f xs          f is true of each of xs
--   between low high n     n is low, high or between them
--   together ls       how long some lists are together
--   bound_fits b      a bound that has been read is 1 to 4
--   thread_fits t     a thread has at most 16 instructions, and their values fit
--   fault_fits cs     a fault line has one to six conditions, and their values fit
--   jump_within n i   a jump's target is at most n
--   condition_there ts c   the thread that a condition names is one of ts, and where it says that one stands is at most its length
--   thread_keeps t    a thread has 1 to 16 instructions, their values fit, and each target is at most its length
--   fault_keeps ts cs a fault line fits, and its conditions name what is there in the threads ts
--   within_limits     what holds of a program's bound, its threads and its fault lines
use Rattle.std.specs.Prelude.{Bool, List, None, Option, Some, [], length, nat_le, nat_lt, slice_index_or, true, ℕ, ◌&&◌, ◌+◌, ◌∷◌}
use Rattle.std.specs.List.{list_all}
use Rattle.listing.specs.declared.code.Condition.{Condition}
use Rattle.listing.specs.declared.code.Condition.TheVariants as condition
use Rattle.listing.specs.declared.code.Instruction.{Instruction}
use Rattle.listing.specs.declared.code.Instruction.TheVariants as instruction
use Rattle.listing.specs.Values.{instruction_fits, condition_fits}

abbrev pub all : {X : Type 0} → (X → Bool) → List X → Bool
all f xs = list_all f xs

abbrev pub between : ℕ → ℕ → ℕ → Bool
between low high n = nat_le low n && nat_le n high

abbrev pub together : {X : Type 0} → List (List X) → ℕ
together [] = 0
together (l ∷ ls) = length l + together ls

abbrev pub bound_fits : Option ℕ → Bool
bound_fits None = true
bound_fits (Some bound) = between 1 4 bound

abbrev pub thread_fits : List (Instruction ℕ) → Bool
thread_fits t = nat_le (length t) 16 && all instruction_fits t

abbrev pub fault_fits : List (Condition ℕ) → Bool
fault_fits cs = between 1 6 (length cs) && all condition_fits cs

abbrev pub jump_within : ℕ → Instruction ℕ → Bool
jump_within length (instruction.Store v e) = true
jump_within length (instruction.Load r v) = true
jump_within length (instruction.Set r e) = true
jump_within length (instruction.Add r e) = true
jump_within length (instruction.Cas r v old new) = true
jump_within length instruction.Fence = true
jump_within length (instruction.Jump n) = nat_le n length
jump_within length (instruction.JumpIfEqual r e n) = nat_le n length
jump_within length (instruction.JumpUnlessEqual r e n) = nat_le n length

abbrev pub condition_there : List (List (Instruction ℕ)) → Condition ℕ → Bool
condition_there ts (condition.At t n) = nat_lt t (length ts) && nat_le n (length (slice_index_or ts t []))
condition_there ts (condition.Holds t r d) = nat_lt t (length ts)
condition_there ts (condition.Memory v d) = true

abbrev pub thread_keeps : List (Instruction ℕ) → Bool
thread_keeps is = between 1 16 (length is) && (all instruction_fits is && all (jump_within (length is)) is)

abbrev pub fault_keeps : List (List (Instruction ℕ)) → List (Condition ℕ) → Bool
fault_keeps ts cs = between 1 6 (length cs) && (all condition_fits cs && all (condition_there ts) cs)

unfoldable pub within_limits : ℕ → List (List (Instruction ℕ)) → List (List (Condition ℕ)) → Bool
within_limits bound threads faults =
    between 1 4 bound && ((between 1 4 (length threads) && (all thread_keeps threads && nat_le (together threads) 32))
    && (between 1 8 (length faults) && all (fault_keeps threads) faults))
