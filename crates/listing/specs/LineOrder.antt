-- Which line may stand where, and what is one too many.
use Rattle.std.specs.Prelude.{◌≡◌, ℕ, ◌≤◌, List, [], ◌∷◌, ◌++◌, length, Some, None, codes}
use Rattle.std.specs.List.{flat_map}
use Rattle.listing.specs.declared.code.Condition.{Condition}
use Rattle.listing.specs.declared.code.Instruction.{Instruction}
use Rattle.listing.specs.Alphabet.{OneOf}
use Rattle.listing.specs.Forms.{Line, thread_line, instruction_line, fault_line}
use Rattle.listing.specs.LineForms.{Part, Fits, instruction_forms}
use Rattle.listing.specs.Reading.{Progress}

-- the word stands for the first part of the form
abbrev pub Begins : List ℕ → List Part → Type 0
Begins w [] = ⊥
Begins w (part ∷ form) = Fits part w

-- after what p holds a line may stand whose first word is w
pub data MayStand (p : Progress) (w : List ℕ) : Type 0 where
  -- the bound, once: all other lines ask for one before them, so it comes first
  bound_first : w ≡ codes "bound" → p.bound ≡ None → MayStand p w
  -- a thread, after the bound and before the fault lines
  thread_next : w ≡ codes "thread" → (k : ℕ) → p.bound ≡ Some k → p.faults ≡ [] → MayStand p w
  -- an instruction, below a thread and before the fault lines
  below_thread : OneOf (Begins w) instruction_forms → 1 ≤ length p.threads → p.faults ≡ [] → MayStand p w
  -- a fault line, after the bound
  fault_last : w ≡ codes "fault" → (k : ℕ) → p.bound ≡ Some k → MayStand p w

-- what the line adds to what p holds is one too many
pub data IsTooMuch (p : Progress) : Line → Type 0 where
  fifth_thread : 4 ≤ length p.threads → IsTooMuch p thread_line
  seventeenth_instruction : (i : Instruction ℕ) (before : List (List (Instruction ℕ))) (last : List (Instruction ℕ))
      → p.threads ≡ before ++ last ∷ [] → 16 ≤ length last → IsTooMuch p (instruction_line i)
  thirty_third_instruction : (i : Instruction ℕ)
      → 32 ≤ length (flat_map (λ t. t) p.threads) → IsTooMuch p (instruction_line i)
  ninth_fault_line : (cs : List (Condition ℕ)) → 8 ≤ length p.faults → IsTooMuch p (fault_line cs)
  seventh_condition : (cs : List (Condition ℕ)) → 7 ≤ length cs → IsTooMuch p (fault_line cs)
