-- How instructions, registers and variables are numbered: places by what comes first and what comes next.
use Rattle.std.specs.Prelude.{◌≡◌, ◌↔◌, ℕ, ◌+◌, ◌-◌, ◌<◌, List, Some, length, slice_get, sum_by}
use Rattle.listing.specs.declared.code.Instruction.{Instruction}
use Rattle.listing.specs.declared.code.Register.{Register}
use Rattle.listing.specs.declared.code.Variable.{Variable}
use Rattle.listing.specs.declared.program.Program.{Program}
use Rattle.listing.specs.Code.{index, length_of, place_of, places, slot, thread_at}
use Rattle.listing.specs.Names.{digit, letter}

-- thread t of the listing has an instruction with the number i, counted from 0
pub record Listed (p : Program) (t i : ℕ) : Type 0 where
  pub thread : List (Instruction ℕ)
  pub is : slice_get p.threads t ≡ Some thread
  pub there : i < length thread

-- that instruction is the last of its thread
pub record Last (p : Program) (t i : ℕ) : Type 0 where
  pub thread : List (Instruction ℕ)
  pub is : slice_get p.threads t ≡ Some thread
  pub ends : i + 1 ≡ length thread

-- the place n is that of the instruction i of thread t
pub record IsPlace (p : Program) (n t i : ℕ) : Type 0 where
  pub listed : Listed p t i
  pub is : place_of p t i ≡ n

-- Places count the instructions from the first one on, thread after thread, and each number below
-- `places` is the place of one instruction.
pub record Counted (p : Program) : Type 0 where
  pub first : place_of p 0 0 ≡ 0
  pub next : (t i : ℕ) → Listed p t (i + 1) → place_of p t (i + 1) ≡ place_of p t i + 1
  pub over : (t i : ℕ) → Last p t i → Listed p (t + 1) 0 → place_of p (t + 1) 0 ≡ place_of p t i + 1
  pub below : (t i : ℕ) → Listed p t i → place_of p t i < places p
  pub some_place : (n : ℕ) → n < places p → (t : ℕ) × (i : ℕ) × IsPlace p n t i
  pub one_place : (n t i u j : ℕ) → IsPlace p n t i → IsPlace p n u j → (t ≡ u) × (i ≡ j)
  -- the thread of a place is found again, and so is the place of what is found
  pub thread_found : (t i : ℕ) → Listed p t i → thread_at p (place_of p t i) ≡ t
  pub place_found : (n : ℕ) → n < places p → IsPlace p n (thread_at p n) (n - place_of p (thread_at p n) 0)
  -- as many as there are instructions
  pub all : places p ≡ sum_by length p.threads
  pub lengths : (t i : ℕ) → Listed p t i ↔ i < length_of p t

-- so in every program
abbrev pub PlacesCount : Type 0
PlacesCount = (p : Program) → Counted p

-- Registers have one number exactly when they are one, which is the digit of their name.
pub record RegistersApart : Type 0 where
  pub apart : (q r : Register) → slot q ≡ slot r ↔ q ≡ r
  pub named : (r : Register) → digit r ≡ 48 + slot r

-- Variables have one number exactly when they are one, which is where their letter stands, from a.
pub record VariablesApart : Type 0 where
  pub apart : (v w : Variable) → index v ≡ index w ↔ v ≡ w
  pub named : (v : Variable) → letter v ≡ 97 + index v
