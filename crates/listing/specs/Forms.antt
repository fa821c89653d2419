-- What a word may be, and the forms of a line.
--   Says X             what words say: they are no form (no_form), or a number is out of its range (out_of_range), or they mean something (means)
--   apply f x          what parts say together: no form if one of them is none, else out of range if one of them is
--   called o           a word that names something is a form
--   ranged low high o  a number, in its range if it is there and lies from low to high
--   number low high w  a word of digits, in its range if it has one or two of them and writes a number from low to high
--   variable, register, bound, value, thread, target, operand    what a word may be; a value is 0 to 15, a target 0 to 16
--   first reads ws     what the first of the words says; there has to be one
--   rest ws            the words after it
--   ended ws s         what was said if no words are left
--   one, two, three, four    a form of so many words, taken one by one
--   instruction m ws   what an instruction's words say: its first word, and the words after it
--   more x xs          what a condition and those after it say together
--   conditions n ws    what the conditions of a fault line say, n at most; all_conditions: as many as there may be
--   fault ws           a fault line has a condition
--   Line               what a line adds to a program: bound_line, thread_line, instruction_line, fault_line
--   bound_form, thread_form, instruction_form, fault_form    what a line of that kind says
--   form w ws          what a line says: its first word, and the words after it
use Rattle.std.specs.Prelude.{ℕ, zero, suc, cond, List, [], ◌∷◌, length, Some, None, codes, Option}
use Rattle.listing.specs.declared.code.Condition.{Condition}
use Rattle.listing.specs.declared.code.Condition.TheVariants as condition
use Rattle.listing.specs.declared.code.Instruction.{Instruction}
use Rattle.listing.specs.declared.code.Instruction.TheVariants as instructions
use Rattle.listing.specs.declared.code.Operand.{Operand}
use Rattle.listing.specs.declared.code.Operand.TheVariants as operands
use Rattle.listing.specs.declared.code.Register.{Register}
use Rattle.listing.specs.declared.code.Variable.{Variable}
use Rattle.listing.specs.Limits.{all, between}
use Rattle.listing.specs.Names.{same_word, variable_of, register_of, value_of}
use Rattle.listing.specs.Words.{is_digit}

pub data Says (X : Type 0) : Type 0 where
  no_form : Says X
  out_of_range : Says X
  means : X → Says X

abbrev pub apply : {X Y : Type 0} → Says (X → Y) → Says X → Says Y
apply no_form x = no_form
apply out_of_range no_form = no_form
apply out_of_range out_of_range = out_of_range
apply out_of_range (means x) = out_of_range
apply (means f) no_form = no_form
apply (means f) out_of_range = out_of_range
apply (means f) (means x) = means (f x)

abbrev pub called : {X : Type 0} → Option X → Says X
called None = no_form
called (Some x) = means x

abbrev pub ranged : ℕ → ℕ → Option ℕ → Says ℕ
ranged low high None = out_of_range
ranged low high (Some n) = cond (between low high n) (means n) out_of_range

unfoldable pub number : ℕ → ℕ → List ℕ → Says ℕ
number low high w = cond (all is_digit w) (ranged low high (value_of w)) no_form

abbrev pub variable : List ℕ → Says Variable
variable w = called (variable_of w)

abbrev pub register : List ℕ → Says Register
register w = called (register_of w)

abbrev pub bound : List ℕ → Says ℕ
bound w = number 1 4 w

abbrev pub value : List ℕ → Says ℕ
value w = number 0 15 w

abbrev pub thread : List ℕ → Says ℕ
thread w = number 0 3 w

abbrev pub target : List ℕ → Says ℕ
target w = number 0 16 w

unfoldable pub operand : List ℕ → Says (Operand ℕ)
operand w = cond (all is_digit w) (apply (means operands.Value) (value w)) (apply (means operands.Register) (register w))

abbrev pub first : {X : Type 0} → (List ℕ → Says X) → List (List ℕ) → Says X
first reads [] = no_form
first reads (w ∷ ws) = reads w

abbrev pub rest : List (List ℕ) → List (List ℕ)
rest [] = []
rest (w ∷ ws) = ws

abbrev pub ended : {X : Type 0} → List (List ℕ) → Says X → Says X
ended [] s = s
ended (w ∷ ws) s = no_form

abbrev pub one : {W V : Type 0} → (W → V) → (List ℕ → Says W) → List (List ℕ) → Says V
one f p ws = apply (means f) (first p ws)

abbrev pub two : {W X V : Type 0} → (W → X → V) → (List ℕ → Says W) → (List ℕ → Says X) → List (List ℕ) → Says V
two f p q ws = apply (one f p ws) (first q (rest ws))

abbrev pub three : {W X Y V : Type 0} → (W → X → Y → V) → (List ℕ → Says W) → (List ℕ → Says X) → (List ℕ → Says Y) → List (List ℕ) → Says V
three f p q r ws = apply (two f p q ws) (first r (rest (rest ws)))

abbrev pub four : {W X Y Z V : Type 0} → (W → X → Y → Z → V) → (List ℕ → Says W) → (List ℕ → Says X) → (List ℕ → Says Y) → (List ℕ → Says Z) → List (List ℕ) → Says V
four f p q r s ws = apply (three f p q r ws) (first s (rest (rest (rest ws))))

-- the forms of an instruction, by its first word
unfoldable pub instruction : List ℕ → List (List ℕ) → Says (Instruction ℕ)
instruction m ws =
    cond (same_word (codes "store") m) (ended (rest (rest ws)) (two instructions.Store variable operand ws))
    (cond (same_word (codes "load") m) (ended (rest (rest ws)) (two instructions.Load register variable ws))
    (cond (same_word (codes "set") m) (ended (rest (rest ws)) (two instructions.Set register operand ws))
    (cond (same_word (codes "add") m) (ended (rest (rest ws)) (two instructions.Add register operand ws))
    (cond (same_word (codes "cas") m) (ended (rest (rest (rest (rest ws)))) (four instructions.Cas register variable operand operand ws))
    (cond (same_word (codes "fence") m) (ended ws (means instructions.Fence))
    (cond (same_word (codes "jump") m) (ended (rest ws) (one instructions.Jump target ws))
    (cond (same_word (codes "jeq") m) (ended (rest (rest (rest ws))) (three instructions.JumpIfEqual register operand target ws))
    (cond (same_word (codes "jne") m) (ended (rest (rest (rest ws))) (three instructions.JumpUnlessEqual register operand target ws)) no_form))))))))

abbrev pub more : {X : Type 0} → Says X → Says (List X) → Says (List X)
more x xs = apply (apply (means ◌∷◌) x) xs

unfoldable pub conditions : ℕ → List (List ℕ) → Says (List (Condition ℕ))
conditions zero ws = ended ws (means [])
conditions (suc n) [] = means []
conditions (suc n) (k ∷ ws) =
    cond (same_word (codes "at") k) (more (two condition.At thread target ws) (conditions n (rest (rest ws))))
    (cond (same_word (codes "reg") k) (more (three condition.Holds thread register value ws) (conditions n (rest (rest (rest ws)))))
    (cond (same_word (codes "mem") k) (more (two condition.Memory variable value ws) (conditions n (rest (rest ws)))) no_form))

abbrev pub all_conditions : List (List ℕ) → Says (List (Condition ℕ))
all_conditions ws = conditions (length ws) ws

abbrev pub fault : List (List ℕ) → Says (List (Condition ℕ))
fault [] = no_form
fault (w ∷ ws) = all_conditions (w ∷ ws)

pub data Line : Type 0 where
  bound_line : ℕ → Line
  thread_line : Line
  instruction_line : Instruction ℕ → Line
  fault_line : List (Condition ℕ) → Line

abbrev pub bound_form : List (List ℕ) → Says Line
bound_form ws = ended (rest ws) (one bound_line bound ws)

abbrev pub thread_form : List (List ℕ) → Says Line
thread_form ws = ended ws (means thread_line)

abbrev pub instruction_form : List ℕ → List (List ℕ) → Says Line
instruction_form m ws = apply (means instruction_line) (instruction m ws)

abbrev pub fault_form : List (List ℕ) → Says Line
fault_form ws = apply (means fault_line) (fault ws)

unfoldable pub form : List ℕ → List (List ℕ) → Says Line
form w ws =
    cond (same_word (codes "bound") w) (bound_form ws)
    (cond (same_word (codes "thread") w) (thread_form ws)
    (cond (same_word (codes "fault") w) (fault_form ws) (instruction_form w ws)))
