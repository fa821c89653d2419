-- What the reading of a line promises.
--   Refused why line e     e is the refusal for that reason at that line
--   of_reading why         a reason for which a listing is refused
--   Declined line e        e is such a refusal at that line
--   stands_on line f       the conditions of a fault line are on that line
use Rattle.std.specs.Prelude.{◌≡◌, ℕ, Bool, true, false}
use Rattle.listing.specs.declared.lines.Line.{Line}
use Rattle.listing.specs.declared.lines.Line.TheVariants as form
use Rattle.listing.specs.declared.refusal.Reason.{Reason}
use Rattle.listing.specs.declared.refusal.Reason.TheVariants.{
  TextTooLong,
  ByteNotPermitted,
  NoForm,
  NumberOutOfRange,
  TooMany,
  Missing,
  TargetMissing,
  NoProgram,
  PlaceMissing,
  AlreadySo,
  RunListTooShort,
  NoPlacement,
  PlaceNotKept,
  TooFewRows,
  NoneEnough,
  BufferTooShort,
}
use Rattle.listing.specs.declared.refusal.Refusal.{Refusal}

abbrev pub Refused : Reason → ℕ → Refusal → Type 0
Refused why line e = (e.reason ≡ why) × (e.line ≡ line)

abbrev pub of_reading : Reason → Bool
of_reading TextTooLong = true
of_reading ByteNotPermitted = true
of_reading NoForm = true
of_reading NumberOutOfRange = true
of_reading TooMany = true
of_reading Missing = true
of_reading TargetMissing = true
of_reading NoProgram = false
of_reading PlaceMissing = false
of_reading AlreadySo = false
of_reading RunListTooShort = false
of_reading NoPlacement = false
of_reading PlaceNotKept = false
of_reading TooFewRows = false
of_reading NoneEnough = false
of_reading BufferTooShort = false

abbrev pub Declined : ℕ → Refusal → Type 0
Declined line e = (of_reading e.reason ≡ true) × (e.line ≡ line)

abbrev pub stands_on : ℕ → Line → Type 0
stands_on line (form.Bound digits) = Unit {0}
stands_on line form.Thread = Unit {0}
stands_on line (form.Fault conditions) = conditions.line ≡ line
stands_on line (form.Instruction written) = Unit {0}
