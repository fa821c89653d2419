-- What the console prints for a text.
use Rattle.std.specs.Prelude.{ℕ, List, length, Ok, Err, Result}
use Rattle.listing.specs.declared.program.Program.{Program}
use Rattle.listing.specs.declared.refusal.Reason.{Reason}
use Rattle.listing.specs.declared.refusal.Refusal.{Refusal}
use Rattle.listing.specs.Code.{places}
use Rattle.machines.specs.declared.placement.Placement.{Placement}
use Rattle.machines.specs.Buffered.{buffered}
use Rattle.machines.specs.Places.{first_places}
use Rattle.search.specs.Answers.{least_placed}
use Rattle.job.specs.Answers.{solution}
use Rattle.job.specs.Checks.{declined}
use Rattle.job.specs.Text.{line_of, placed, report}
use Rattle.job.specs.Texts.{program_of}

-- the report of the least set of the program's places, by so many rows, or why there is none
abbrev pub solved : Program → Result Placement Reason → Result (List ℕ) Refusal
solved p (Ok set) = Ok (report p (solution set.mask))
solved p (Err why) = Err (declined why)

abbrev pub of_program : Result Program Refusal → ℕ → Result (List ℕ) Refusal
of_program (Ok p) rows = solved p (least_placed p (buffered p) rows (first_places (places p)))
of_program (Err e) rows = Err e

-- the report of the least set of the program that the text spells, or the first refusal
abbrev pub report_or_refusal : List ℕ → ℕ → Result (List ℕ) Refusal
report_or_refusal text rows = of_program (program_of text) rows

-- the report's length with the report in front of the buffer; where there is none the buffer is as it was
abbrev pub reported : Result (List ℕ) Refusal → List ℕ → Result ℕ Refusal × List ℕ
reported (Ok text) out = (Ok (length text), placed out 0 text)
reported (Err e) out = (Err e, out)

-- the same with the refusal's line where there is no report: its length is the other answer
abbrev pub answered : Result (List ℕ) Refusal → List ℕ → Result ℕ ℕ × List ℕ
answered (Ok text) out = (Ok (length text), placed out 0 text)
answered (Err e) out = (Err (length (line_of e)), placed out 0 (line_of e))
