-- What is astray in a listing: a jump or a condition that names what is not there.
use Rattle.std.specs.Prelude.{◌≡◌, ℕ, ◌<◌, ◌≤◌, List, Some, length, slice_get}
use Rattle.listing.specs.declared.code.Condition.{Condition}
use Rattle.listing.specs.declared.code.Condition.TheVariants.{At, Holds}
use Rattle.listing.specs.declared.code.Instruction.{Instruction}
use Rattle.listing.specs.declared.code.Instruction.TheVariants.{Jump, JumpIfEqual, JumpUnlessEqual}

-- a jump past the end of a thread of so many instructions
pub data JumpsPast (many : ℕ) : Instruction ℕ → Type 0 where
  jump : {n : ℕ} → many < n → JumpsPast many (Jump n)
  jump_if_equal : {r : _} {e : _} {n : ℕ} → many < n → JumpsPast many (JumpIfEqual r e n)
  jump_unless_equal : {r : _} {e : _} {n : ℕ} → many < n → JumpsPast many (JumpUnlessEqual r e n)

-- a condition on a thread that is not one of these, or on an instruction past that thread's end
pub data NamesNone (threads : List (List (Instruction ℕ))) : Condition ℕ → Type 0 where
  at_no_thread : {t n : ℕ} → length threads ≤ t → NamesNone threads (At t n)
  at_past_end : {t n : ℕ} {thread : _}
      → slice_get threads t ≡ Some thread → length thread < n → NamesNone threads (At t n)
  holds_no_thread : {t d : ℕ} {r : _} → length threads ≤ t → NamesNone threads (Holds t r d)
