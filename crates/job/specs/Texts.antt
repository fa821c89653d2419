-- The program that a text reads as. `reading` of the listing gives its lists; a program is these lists, and that they keep the limits.
use Rattle.std.specs.Prelude.{◌≡◌, Bool, true, false, ℕ, List, Ok, Err, Result, refl}
use Rattle.listing.specs.declared.program.Program.{Program}
use Rattle.listing.specs.declared.refusal.Refusal.{Refusal}
use Rattle.listing.specs.declared.refusal.Reason.TheVariants.{Missing}
use Rattle.listing.specs.Code.{Code, code_of}
use Rattle.listing.specs.Reading.{reading, told}
use Rattle.listing.specs.Spelling.{keeps_limits}

-- the program of these lists, where they keep the limits; a reading gives no others, so the second line never answers
abbrev pub program_within : (c : Code) (b : Bool) → keeps_limits c ≡ b → Result Program Refusal
program_within c true ok = Ok (record { bound = c.bound; threads = c.threads; faults = c.faults; ok = ok })
program_within c false never = Err (record { reason = Missing; line = 0 })

-- the program of a reading
abbrev pub program_in : Result Code Refusal → Result Program Refusal
program_in (Ok c) = program_within c (keeps_limits c) refl
program_in (Err e) = Err e

-- the program that a text reads as, or the first thing wrong with it
unfoldable pub program_of : List ℕ → Result Program Refusal
program_of text = program_in (reading text)

-- it is the reading of the text: its lists, or the same refusal
abbrev pub ReadsAs : Type 0
ReadsAs = (text : List ℕ) → told code_of (program_of text) ≡ reading text
