-- Instructions as they are printed.
use Rattle.std.specs.Prelude.{ℕ, List, map, decimal}
use Rattle.std.specs.List.{join_with_byte}
use Rattle.listing.specs.declared.code.Instruction.{Instruction}
use Rattle.listing.specs.declared.code.Operand.{Operand}
use Rattle.listing.specs.Spelling.{Item, instruction_items, name, number, operand_item}

-- a word of a listing's line, with no leading zeros
abbrev pub item_text : Item → List ℕ
item_text (name v) = v
item_text (number n) = decimal n

abbrev pub operand_text : Operand ℕ → List ℕ
operand_text e = item_text (operand_item e)

-- the words of an instruction's line, with single spaces
abbrev pub instruction_text : Instruction ℕ → List ℕ
instruction_text i = join_with_byte 32 (map item_text (instruction_items i))
