-- The forms of a line, and which words have one. By its form a number may be any word of digits; its range is asked apart.
use Rattle.std.specs.Prelude.{◌≡◌, ℕ, ◌≤◌, ◌⊎◌, List, [], ◌∷◌, length, codes}
use Rattle.std.specs.List.{AllByRecursion, flat_map}
use Rattle.listing.specs.Alphabet.{OneOf, IsOneOf, digits}
use Rattle.listing.specs.Forms.{Line, bound_line, thread_line, instruction_line, fault_line}
use Rattle.listing.specs.Spelling.{Item, Spelled, Pairwise, Writes, instruction_items, fault_row}
use Rattle.listing.specs.Spelling as spelling

-- what may stand as one word of a line: this very word, a variable, a register, a number from low to high, or an operand, which is
-- a register or a value
pub data Part : Type 0 where
  this : List ℕ → Part
  variable : Part
  register : Part
  number : (low high : ℕ) → Part
  operand : Part

-- what a variable or a register may hold
abbrev pub value : Part
value = number 0 15

-- the number of an instruction within its thread, or the thread's end
abbrev pub target : Part
target = number 0 16

-- the number of a thread
abbrev pub thread : Part
thread = number 0 3

-- the form of the first line, of the line above a thread, and of each instruction
abbrev pub bound_form : List Part
bound_form = this (codes "bound") ∷ number 1 4 ∷ []

abbrev pub thread_form : List Part
thread_form = this (codes "thread") ∷ []

abbrev pub instruction_forms : List (List Part)
instruction_forms =
    (this (codes "store") ∷ variable ∷ operand ∷ [])
    ∷ (this (codes "load") ∷ register ∷ variable ∷ [])
    ∷ (this (codes "set") ∷ register ∷ operand ∷ [])
    ∷ (this (codes "add") ∷ register ∷ operand ∷ [])
    ∷ (this (codes "cas") ∷ register ∷ variable ∷ operand ∷ operand ∷ [])
    ∷ (this (codes "fence") ∷ [])
    ∷ (this (codes "jump") ∷ target ∷ [])
    ∷ (this (codes "jeq") ∷ register ∷ operand ∷ target ∷ [])
    ∷ (this (codes "jne") ∷ register ∷ operand ∷ target ∷ [])
    ∷ []

-- the forms of a condition
abbrev pub condition_forms : List (List Part)
condition_forms =
    (this (codes "at") ∷ thread ∷ target ∷ [])
    ∷ (this (codes "reg") ∷ thread ∷ register ∷ value ∷ [])
    ∷ (this (codes "mem") ∷ variable ∷ value ∷ [])
    ∷ []

-- a fault line with conditions of these forms
abbrev pub fault_form : List (List Part) → List Part
fault_form cs = this (codes "fault") ∷ flat_map (λ c. c) cs

-- R holds of the parts of some form of a line and of the words, one word for each part
pub data Formed (R : Part → List ℕ → Type 0) (ws : List (List ℕ)) : Type 0 where
  of_bound : Pairwise R bound_form ws → Formed R ws
  of_thread : Pairwise R thread_form ws → Formed R ws
  of_instruction : OneOf (λ f. Pairwise R f ws) instruction_forms → Formed R ws
  -- a fault line has one condition or more
  of_fault : (cs : List (List Part)) → 1 ≤ length cs → AllByRecursion (IsOneOf condition_forms) cs
      → Pairwise R (fault_form cs) ws → Formed R ws

-- the words of the variables
abbrev pub variables : List (List ℕ)
variables =
    codes "a" ∷ codes "b" ∷ codes "c" ∷ codes "d" ∷ codes "e" ∷ codes "f" ∷ codes "g" ∷ codes "h" ∷ []

-- the words of the registers
abbrev pub registers : List (List ℕ)
registers = codes "r0" ∷ codes "r1" ∷ codes "r2" ∷ codes "r3" ∷ []

-- a word of digits, however many
abbrev pub IsNumber : List ℕ → Type 0
IsNumber w = AllByRecursion (IsOneOf digits) w

-- a number in one or two digits, from low to high
abbrev pub IsNumberWithin : ℕ → ℕ → List ℕ → Type 0
IsNumberWithin low high w = (n : ℕ) × (Writes n w × ((low ≤ n) × (n ≤ high)))

-- a word may stand for a part, whatever the value of a number
abbrev pub Fits : Part → List ℕ → Type 0
Fits (this v) w = w ≡ v
Fits variable w = IsOneOf variables w
Fits register w = IsOneOf registers w
Fits (number low high) w = IsNumber w
Fits operand w = IsOneOf registers w ⊎ IsNumber w

-- the same, and a number lies in its range
abbrev pub FitsInRange : Part → List ℕ → Type 0
FitsInRange (this v) w = w ≡ v
FitsInRange variable w = IsOneOf variables w
FitsInRange register w = IsOneOf registers w
FitsInRange (number low high) w = IsNumberWithin low high w
FitsInRange operand w = IsOneOf registers w ⊎ IsNumberWithin 0 15 w

-- the words of a line have a form
abbrev pub HasForm : List (List ℕ) → Type 0
HasForm ws = Formed Fits ws

-- and each number in them lies in its range
abbrev pub InRange : List (List ℕ) → Type 0
InRange ws = Formed FitsInRange ws

-- the words of a line, by what it says
abbrev pub line_items : Line → List Item
line_items (bound_line k) = spelling.name (codes "bound") ∷ spelling.number k ∷ []
line_items thread_line = spelling.name (codes "thread") ∷ []
line_items (instruction_line i) = instruction_items i
line_items (fault_line cs) = fault_row cs

-- the words spell the line, each number in one or two digits
abbrev pub SpellLine : List (List ℕ) → Line → Type 0
SpellLine ws l = Pairwise Spelled (line_items l) ws
