-- What taking the words of a line one by one promises.
--   left w             the words of a line that are still to be taken
--   size w             how many bytes they stand in
--   in_range low high o    a number that is there and lies from low to high
--   said o             what words say whose numbers were looked at: a value, or a number is out of its range
--   lift f o           what f makes of o, if both are there
--   number_read low high ds    the number that is written so, if it lies from low to high
--   operand_read w     the operand that is written so; and instruction_read, condition_read
--   Valued o n r       an answer is the value, or the refusal of line n for a number out of its range
--   Comes t ws vs n    the token t is the first of the words ws, on line n, and vs follow it
--   Had reads read w v o     the first word of w says what is had, and v is left; else the line is no form
--   line_at t          the line on which the token t stands
--   mnemonic_word k    the first word of an instruction
--   Begins w n r       the word w is that of a mnemonic, or no instruction begins with it
--   Operands m w v r   the words of an instruction were taken from w and v is left; else the line is no form
--   Whole m w r        the words of w are all those of an instruction after its first word m; else the line is no form
--   bound_read ds, written_read i, fault_read w     what a line says that is a bound, an instruction, a fault line
--   line_read l        what a line says by its form
--   line_stands p l    it may stand here
--   FormedBy t w r     a line whose first word is t, and whose others are w, has that form, or none
--   TookCondition w v r      a condition was taken from w and v is left, or there was none to take; else the line is no form
--   fitted n s         what a fault line on line n answers whose words say s; counted n cs: of the conditions cs, six of them at most
use Rattle.std.specs.Prelude.{◌≡◌, ℕ, ◌<◌, Bool, true, false, cond, List, [], ◌∷◌, length, Some, None, Ok, Err, codes, Option, Result, nat_le}
use Rattle.std.specs.Borrow.{Bor}
use Rattle.listing.specs.declared.code.Condition.{Condition}
use Rattle.listing.specs.declared.code.Condition.TheVariants as condition
use Rattle.listing.specs.declared.code.Instruction.{Instruction}
use Rattle.listing.specs.declared.code.Instruction.TheVariants as instructions
use Rattle.listing.specs.declared.code.Operand.{Operand}
use Rattle.listing.specs.declared.code.Operand.TheVariants as operands
use Rattle.listing.specs.declared.lexer.Token.{Token}
use Rattle.listing.specs.declared.lexer.Token.TheVariants.{Word, Number}
use Rattle.listing.specs.declared.lexer.Words.{Words}
use Rattle.listing.specs.declared.lines.Line.{Line as Form}
use Rattle.listing.specs.declared.lines.Line.TheVariants as forms
use Rattle.listing.specs.declared.lines.Mnemonic.{Mnemonic}
use Rattle.listing.specs.declared.lines.Mnemonic.TheVariants as mnemonic
use Rattle.listing.specs.Written.{WrittenCondition, WrittenInstruction, WrittenOperand}
use Rattle.listing.specs.declared.refusal.Reason.TheVariants.{NoForm, NumberOutOfRange, TooMany}
use Rattle.listing.specs.declared.refusal.Refusal.{Refusal}
use Rattle.listing.specs.Forms.{Says, no_form, out_of_range, means, apply, first, rest, ended, more, instruction, all_conditions, Line, bound_line, thread_line, instruction_line, fault_form, form}
use Rattle.listing.specs.Limits.{all, between}
use Rattle.listing.specs.Names.{value_of}
use Rattle.listing.specs.Reading.{Progress, bound_stands, fault_stands, instruction_stands, may_stand, refusal, thread_stands}
use Rattle.listing.specs.Words.{words, is_digit}

abbrev pub left : Words → List (List ℕ)
left w = words w.rest.now

abbrev pub size : Words → ℕ
size w = length w.rest.now

abbrev pub in_range : ℕ → ℕ → Option ℕ → Option ℕ
in_range low high None = None
in_range low high (Some n) = cond (between low high n) (Some n) None

abbrev pub said : {X : Type 0} → Option X → Says X
said None = out_of_range
said (Some x) = means x

abbrev pub lift : {X Y : Type 0} → Option (X → Y) → Option X → Option Y
lift None x = None
lift (Some f) None = None
lift (Some f) (Some x) = Some (f x)

abbrev pub number_read : ℕ → ℕ → Bor (List ℕ) → Option ℕ
number_read low high digits = in_range low high (value_of digits.now)

abbrev pub operand_read : WrittenOperand → Option (Operand ℕ)
operand_read (operands.Value ds) = lift (Some (λ x. operands.Value x)) (number_read 0 15 ds)
operand_read (operands.Register r) = Some (operands.Register r)

abbrev pub instruction_read : WrittenInstruction → Option (Instruction ℕ)
instruction_read (instructions.Store v e) = lift (Some (λ x. instructions.Store v x)) (operand_read e)
instruction_read (instructions.Load r v) = Some (instructions.Load r v)
instruction_read (instructions.Set r e) = lift (Some (λ x. instructions.Set r x)) (operand_read e)
instruction_read (instructions.Add r e) = lift (Some (λ x. instructions.Add r x)) (operand_read e)
instruction_read (instructions.Cas r v old new) = lift (lift (Some (λ x y. instructions.Cas r v x y)) (operand_read old)) (operand_read new)
instruction_read instructions.Fence = Some instructions.Fence
instruction_read (instructions.Jump n) = lift (Some (λ x. instructions.Jump x)) (number_read 0 16 n)
instruction_read (instructions.JumpIfEqual r e n) = lift (lift (Some (λ x y. instructions.JumpIfEqual r x y)) (operand_read e)) (number_read 0 16 n)
instruction_read (instructions.JumpUnlessEqual r e n) = lift (lift (Some (λ x y. instructions.JumpUnlessEqual r x y)) (operand_read e)) (number_read 0 16 n)

abbrev pub condition_read : WrittenCondition → Option (Condition ℕ)
condition_read (condition.At t n) = lift (lift (Some (λ x y. condition.At x y)) (number_read 0 3 t)) (number_read 0 16 n)
condition_read (condition.Holds t r d) = lift (lift (Some (λ x y. condition.Holds x r y)) (number_read 0 3 t)) (number_read 0 15 d)
condition_read (condition.Memory v d) = lift (Some (λ x. condition.Memory v x)) (number_read 0 15 d)

abbrev pub Valued : {X : Type 0} → Option X → ℕ → Result X Refusal → Type 0
Valued o n (Ok x) = o ≡ Some x
Valued o n (Err e) = (o ≡ None) × (e ≡ refusal NumberOutOfRange n)

abbrev pub Comes : Token → List (List ℕ) → List (List ℕ) → ℕ → Type 0
Comes (Word bytes at) ws vs n = (ws ≡ bytes.now ∷ vs) × ((at ≡ n) × (all is_digit bytes.now ≡ false))
Comes (Number bytes at) ws vs n = (ws ≡ bytes.now ∷ vs) × ((at ≡ n) × (all is_digit bytes.now ≡ true))

abbrev pub Had : {X Y : Type 0} → (List ℕ → Says X) → (Y → Option X) → Words → Words → Option Y → Type 0
Had reads read w v (Some y) = (v.line ≡ w.line) × ((size v < size w) × ((left v ≡ rest (left w)) × (first reads (left w) ≡ said (read y))))
Had reads read w v None = (v.line ≡ w.line) × (first reads (left w) ≡ no_form)

abbrev pub line_at : Token → ℕ
line_at (Word bytes at) = at
line_at (Number bytes at) = at

abbrev pub mnemonic_word : Mnemonic → List ℕ
mnemonic_word mnemonic.Store = codes "store"
mnemonic_word mnemonic.Load = codes "load"
mnemonic_word mnemonic.Set = codes "set"
mnemonic_word mnemonic.Add = codes "add"
mnemonic_word mnemonic.Cas = codes "cas"
mnemonic_word mnemonic.Fence = codes "fence"
mnemonic_word mnemonic.Jump = codes "jump"
mnemonic_word mnemonic.JumpIfEqual = codes "jeq"
mnemonic_word mnemonic.JumpUnlessEqual = codes "jne"

abbrev pub Begins : List ℕ → ℕ → Result Mnemonic Refusal → Type 0
Begins w n (Ok k) = w ≡ mnemonic_word k
Begins w n (Err e) = (e ≡ refusal NoForm n) × ((ws : List (List ℕ)) → instruction w ws ≡ no_form)

abbrev pub Operands : List ℕ → Words → Words → Result WrittenInstruction Refusal → Type 0
Operands m w v (Ok i) = (v.line ≡ w.line) × (instruction m (left w) ≡ ended (left v) (said (instruction_read i)))
Operands m w v (Err e) = (e ≡ refusal NoForm w.line) × (instruction m (left w) ≡ no_form)

abbrev pub Whole : List ℕ → Words → Result WrittenInstruction Refusal → Type 0
Whole m w (Ok i) = instruction m (left w) ≡ said (instruction_read i)
Whole m w (Err e) = (e ≡ refusal NoForm w.line) × (instruction m (left w) ≡ no_form)

abbrev pub TookCondition : Words → Words → Result (Option WrittenCondition) Refusal → Type 0
TookCondition w v (Ok None) = (v.line ≡ w.line) × (left w ≡ [])
TookCondition w v (Ok (Some c)) = (v.line ≡ w.line) × ((size v < size w) × (all_conditions (left w) ≡ more (said (condition_read c)) (all_conditions (left v))))
TookCondition w v (Err e) = (e ≡ refusal NoForm w.line) × (all_conditions (left w) ≡ no_form)

abbrev pub bound_read : Bor (List ℕ) → Says Line
bound_read digits = apply (means bound_line) (said (number_read 1 4 digits))

abbrev pub written_read : WrittenInstruction → Says Line
written_read w = apply (means instruction_line) (said (instruction_read w))

abbrev pub fault_read : Words → Says Line
fault_read w = fault_form (left w)

abbrev pub line_read : Form → Says Line
line_read (forms.Bound digits) = bound_read digits
line_read forms.Thread = means thread_line
line_read (forms.Fault w) = fault_read w
line_read (forms.Instruction w) = written_read w

abbrev pub line_stands : Progress → Form → Bool
line_stands p (forms.Bound digits) = bound_stands p
line_stands p forms.Thread = thread_stands p
line_stands p (forms.Fault w) = fault_stands p
line_stands p (forms.Instruction w) = instruction_stands p

abbrev pub FormedBy : Token → Words → Result Form Refusal → Type 0
FormedBy (Word bytes at) w (Ok l) = (form bytes.now (left w) ≡ line_read l) × ((p : Progress) → may_stand p bytes.now ≡ line_stands p l)
FormedBy (Word bytes at) w (Err e) = (e ≡ refusal NoForm w.line) × (form bytes.now (left w) ≡ no_form)
FormedBy (Number bytes at) w (Ok l) = ⊥
FormedBy (Number bytes at) w (Err e) = e ≡ refusal NoForm w.line

-- what a fault line answers: its conditions, at most six, or the refusal of its line
abbrev pub counted : ℕ → List (Condition ℕ) → Result (List (Condition ℕ)) Refusal
counted n cs = cond (nat_le (length cs) 6) (Ok cs) (Err (refusal TooMany n))

abbrev pub fitted : ℕ → Says (List (Condition ℕ)) → Result (List (Condition ℕ)) Refusal
fitted n no_form = Err (refusal NoForm n)
fitted n out_of_range = Err (refusal NumberOutOfRange n)
fitted n (means cs) = counted n cs
