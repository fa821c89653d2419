-- What a program holds, in the terms of its listing.
--   Code              a program as its listing has it: lists, with no room left over
--   code_of p         what a program holds, as lists
--   index v           a variable's number, from 0 for a
--   slot r            a register's number
--   length_of p t     the number of instructions of thread t, 0 where there is no such thread
--   fetched p t at    the instruction at which thread t stands, none at its length
--   place_of p t at   a place: an instruction's number counted through the whole listing from 0
--   thread_at p n     the thread that the place n lies in
--   places p          the number of places
--   lines_of p        the fault lines
--   condition_sound c if a condition names a thread, it names one of four
--   line_sound l      a fault line has at most six conditions, and each of them is sound
use Rattle.std.specs.Prelude.{ℕ, ◌+◌, Bool, true, cond, ◌&&◌, List, [], length, take, Option, nat_le, nat_lt, slice_get, slice_index_or}
use Rattle.listing.specs.declared.code.Variable.{Variable}
use Rattle.listing.specs.declared.code.Variable.TheVariants as variable
use Rattle.listing.specs.declared.code.Register.{Register}
use Rattle.listing.specs.declared.code.Register.TheVariants as register
use Rattle.listing.specs.declared.code.Instruction.{Instruction}
use Rattle.listing.specs.declared.code.Condition.{Condition}
use Rattle.listing.specs.declared.code.Condition.TheVariants as condition
use Rattle.listing.specs.declared.program.Program.{Program}
use Rattle.listing.specs.Limits.{all, together}

abbrev pub index : Variable → ℕ
index variable.A = 0
index variable.B = 1
index variable.C = 2
index variable.D = 3
index variable.E = 4
index variable.F = 5
index variable.G = 6
index variable.H = 7

abbrev pub slot : Register → ℕ
slot register.R0 = 0
slot register.R1 = 1
slot register.R2 = 2
slot register.R3 = 3

abbrev pub length_of : Program → ℕ → ℕ
length_of p t = length (slice_index_or p.threads t [])

abbrev pub fetched : Program → ℕ → ℕ → Option (Instruction ℕ)
fetched p t at = slice_get (slice_index_or p.threads t []) at

abbrev pub place_of : Program → ℕ → ℕ → ℕ
place_of p t at = together (take t p.threads) + at

abbrev pub places : Program → ℕ
places p = place_of p 4 0

abbrev pub thread_at : Program → ℕ → ℕ
thread_at p n = cond (nat_lt n (place_of p 1 0)) 0 (cond (nat_lt n (place_of p 2 0)) 1 (cond (nat_lt n (place_of p 3 0)) 2 3))

abbrev pub lines_of : Program → List (List (Condition ℕ))
lines_of p = p.faults

abbrev pub condition_sound : Condition ℕ → Bool
condition_sound (condition.At t n) = nat_lt t 4
condition_sound (condition.Holds t r d) = nat_lt t 4
condition_sound (condition.Memory v d) = true

unfoldable pub line_sound : List (Condition ℕ) → Bool
line_sound l = nat_le (length l) 6 && all condition_sound l

pub record Code : Type 0 where
  pub bound : ℕ
  pub threads : List (List (Instruction ℕ))
  pub faults : List (List (Condition ℕ))

abbrev pub code_of : Program → Code
code_of p = record { bound = p.bound; threads = p.threads; faults = p.faults }
