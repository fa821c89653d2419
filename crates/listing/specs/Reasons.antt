-- The number of each refusal.
use Rattle.std.specs.Prelude.{◌≡◌, ◌≢◌, ℕ, All, List, [], ◌∷◌, ◌++◌}
use Rattle.listing.specs.declared.refusal.Reason.{Reason}
use Rattle.listing.specs.declared.refusal.Reason.TheVariants as reason

-- the number of a refusal for that reason
abbrev pub number_of : Reason → ℕ
number_of reason.TextTooLong = 1
number_of reason.ByteNotPermitted = 2
number_of reason.NoForm = 3
number_of reason.NumberOutOfRange = 4
number_of reason.TooMany = 5
number_of reason.Missing = 6
number_of reason.TargetMissing = 7
number_of reason.NoProgram = 8
number_of reason.PlaceMissing = 9
number_of reason.AlreadySo = 10
number_of reason.RunListTooShort = 11
number_of reason.NoPlacement = 12
number_of reason.PlaceNotKept = 13
number_of reason.TooFewRows = 14
number_of reason.NoneEnough = 15
number_of reason.BufferTooShort = 16

-- all refusals, in the order in which they are looked for
abbrev pub table : List (ℕ × Reason)
table =
    (1, reason.TextTooLong)  -- the text has more than 4,096 bytes
    ∷ (2, reason.ByteNotPermitted)  -- a byte outside a comment is not one that a listing may have
    ∷ (3, reason.NoForm)  -- a line has no form, or may not stand where it does
    ∷ (4, reason.NumberOutOfRange)  -- a number has more than two digits, or is outside its range
    ∷ (5, reason.TooMany)  -- a thread, an instruction, a fault line or a condition is one too many
    ∷ (6, reason.Missing)  -- a thread is empty, or there is no thread or no fault line
    ∷ (7, reason.TargetMissing)  -- a jump leads past its thread's end, or a condition names a thread that is not there or past whose end it stands
    ∷ (8, reason.NoProgram)  -- no program has been read
    ∷ (9, reason.PlaceMissing)  -- the program has no such place
    ∷ (10, reason.AlreadySo)  -- the place is barred already, or free already
    ∷ (11, reason.RunListTooShort)  -- the list for a run is shorter than the number of rows
    ∷ (12, reason.NoPlacement)  -- no placement is kept
    ∷ (13, reason.PlaceNotKept)  -- the place is not in the placement that is kept
    ∷ (14, reason.TooFewRows)  -- without fences, more standings are reached than there are rows
    ∷ (15, reason.NoneEnough)  -- fences at all open places together do not keep the faults out
    ∷ (16, reason.BufferTooShort)  -- the room for a text is less than 512 bytes
    ∷ []

-- the reason stands in the table once, with this number
pub record StandsOnce (why : Reason) (n : ℕ) : Type 0 where
  pub before : List (ℕ × Reason)
  pub after : List (ℕ × Reason)
  pub here : table ≡ before ++ (n, why) ∷ after
  pub nowhere_else : All (λ row. row.1 ≢ why) (before ++ after)

-- each reason does, with its number
abbrev pub NumbersAreTheTable : Type 0
NumbersAreTheTable = (why : Reason) → StandsOnce why (number_of why)
