-- How a program is spelled, from the program to the texts that hold it.
--   Item               a word of a line: a name as it stands (name), or a number in any spelling (number)
--   Writes n w         the word w is a spelling of n, in one digit (one_digit) or in two (two_digits)
--   Spelled i w        the word w spells the item i
--   Pairwise R xs ys   the lists are of one length, and R holds of each two that stand at one place
--   instruction_items  the words of an instruction's line; and condition_items, thread_rows, fault_row; operand_item: the word of an operand
--   rows c             the lines of words of a program, in order
--   in_word b          a byte is a letter or a digit
--   Solid w            a word has a byte, and its bytes are letters and digits
--   Shows ws bs        the bytes have these words, with any spaces before, between and after them: no_words, space, last_word, word
--   WithinLine bs      none of the bytes ends a line
--   Row ws bs          the same, with or without a comment: commented, plain
--   kept ws wss        the lines wss with the line of the words ws before them, if it has words
--   Text wss t         a text whose lines with words have these words, with any lines without words: no_rows, last_row, row
--   keeps_limits c     the limits of a program
--   Spells t c         the text t holds the program c
use Rattle.std.specs.Prelude.{◌≡◌, ℕ, ◌+◌, ◌*◌, ◌<◌, Bool, true, false, ◌||◌, List, [], ◌∷◌, ◌++◌, map, codes, ◌==◌}
use Rattle.std.specs.List.{flat_map}
use Rattle.listing.specs.declared.code.Condition.{Condition}
use Rattle.listing.specs.declared.code.Condition.TheVariants as condition
use Rattle.listing.specs.declared.code.Instruction.{Instruction}
use Rattle.listing.specs.declared.code.Instruction.TheVariants as instruction
use Rattle.listing.specs.declared.code.Operand.{Operand}
use Rattle.listing.specs.declared.code.Operand.TheVariants as operand
use Rattle.listing.specs.Code.{Code}
use Rattle.listing.specs.Limits.{all, within_limits}
use Rattle.listing.specs.Names.{variable_word, register_word}
use Rattle.listing.specs.Words.{is_letter, is_digit}

pub data Item : Type 0 where
  name : List ℕ → Item
  number : ℕ → Item

pub data Writes : ℕ → List ℕ → Type 0 where
  one_digit : (d : ℕ) → d < 10 → Writes d ((48 + d) ∷ [])
  two_digits : (t d : ℕ) → t < 10 → d < 10 → Writes (t * 10 + d) ((48 + t) ∷ (48 + d) ∷ [])

abbrev pub Spelled : Item → List ℕ → Type 0
Spelled (name v) w = w ≡ v
Spelled (number n) w = Writes n w

abbrev pub Pairwise : {X Y : Type 0} → (X → Y → Type 0) → List X → List Y → Type 0
Pairwise R [] [] = Unit {0}
Pairwise R [] (y ∷ ys) = ⊥
Pairwise R (x ∷ xs) [] = ⊥
Pairwise R (x ∷ xs) (y ∷ ys) = R x y × Pairwise R xs ys

abbrev pub operand_item : Operand ℕ → Item
operand_item (operand.Value n) = number n
operand_item (operand.Register r) = name (register_word r)

abbrev pub instruction_items : Instruction ℕ → List Item
instruction_items (instruction.Store v e) = name (codes "store") ∷ name (variable_word v) ∷ operand_item e ∷ []
instruction_items (instruction.Load r v) = name (codes "load") ∷ name (register_word r) ∷ name (variable_word v) ∷ []
instruction_items (instruction.Set r e) = name (codes "set") ∷ name (register_word r) ∷ operand_item e ∷ []
instruction_items (instruction.Add r e) = name (codes "add") ∷ name (register_word r) ∷ operand_item e ∷ []
instruction_items (instruction.Cas r v old new) = name (codes "cas") ∷ name (register_word r) ∷ name (variable_word v) ∷ operand_item old ∷ operand_item new ∷ []
instruction_items instruction.Fence = name (codes "fence") ∷ []
instruction_items (instruction.Jump n) = name (codes "jump") ∷ number n ∷ []
instruction_items (instruction.JumpIfEqual r e n) = name (codes "jeq") ∷ name (register_word r) ∷ operand_item e ∷ number n ∷ []
instruction_items (instruction.JumpUnlessEqual r e n) = name (codes "jne") ∷ name (register_word r) ∷ operand_item e ∷ number n ∷ []

abbrev pub condition_items : Condition ℕ → List Item
condition_items (condition.At t n) = name (codes "at") ∷ number t ∷ number n ∷ []
condition_items (condition.Holds t r d) = name (codes "reg") ∷ number t ∷ name (register_word r) ∷ number d ∷ []
condition_items (condition.Memory v d) = name (codes "mem") ∷ name (variable_word v) ∷ number d ∷ []

abbrev pub thread_rows : List (Instruction ℕ) → List (List Item)
thread_rows is = (name (codes "thread") ∷ []) ∷ map instruction_items is

abbrev pub fault_row : List (Condition ℕ) → List Item
fault_row cs = name (codes "fault") ∷ flat_map condition_items cs

abbrev pub rows : Code → List (List Item)
rows c = (name (codes "bound") ∷ number c.bound ∷ []) ∷ (flat_map thread_rows c.threads ++ map fault_row c.faults)

abbrev pub in_word : ℕ → Bool
in_word b = is_letter b || is_digit b

abbrev pub Solid : List ℕ → Type 0
Solid [] = ⊥
Solid (b ∷ w) = all in_word (b ∷ w) ≡ true

pub data Shows : List (List ℕ) → List ℕ → Type 0 where
  no_words : Shows [] []
  space : {ws : List (List ℕ)} {bs : List ℕ} → Shows ws bs → Shows ws (32 ∷ bs)
  last_word : (w : List ℕ) → Solid w → Shows (w ∷ []) w
  word : {ws : List (List ℕ)} {bs : List ℕ} → (w : List ℕ) → Solid w → Shows ws bs → Shows (w ∷ ws) (w ++ 32 ∷ bs)

-- no byte of a comment ends its line
abbrev pub WithinLine : List ℕ → Type 0
WithinLine [] = Unit {0}
WithinLine (b ∷ bs) = ((b == 10) ≡ false) × WithinLine bs

pub data Row : List (List ℕ) → List ℕ → Type 0 where
  plain : {ws : List (List ℕ)} {bs : List ℕ} → Shows ws bs → Row ws bs
  commented : {ws : List (List ℕ)} {bs : List ℕ} → Shows ws bs → (comment : List ℕ) → WithinLine comment → Row ws (bs ++ 35 ∷ comment)

-- a row without words leaves nothing
abbrev pub kept : List (List ℕ) → List (List (List ℕ)) → List (List (List ℕ))
kept [] wss = wss
kept (w ∷ ws) wss = (w ∷ ws) ∷ wss

pub data Text : List (List (List ℕ)) → List ℕ → Type 0 where
  no_rows : Text [] []
  last_row : (ws : List (List ℕ)) (bs : List ℕ) → Row ws bs → Text (kept ws []) bs
  row : (ws : List (List ℕ)) (bs : List ℕ) {wss : List (List (List ℕ))} {t : List ℕ} → Row ws bs → Text wss t → Text (kept ws wss) (bs ++ 10 ∷ t)

abbrev pub keeps_limits : Code → Bool
keeps_limits c = within_limits c.bound c.threads c.faults

pub record Spells (t : List ℕ) (c : Code) : Type 0 where
  pub written : List (List (List ℕ))
  pub laid : Text written t
  pub spelled : Pairwise (Pairwise Spelled) (rows c) written
  pub limits : keeps_limits c ≡ true
