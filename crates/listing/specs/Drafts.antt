-- What a draft holds, and what its calls answer.
--   progress_of d      what has been read so far
--   Adds s d r         a call answers what the rules s say: the draft d holds what has been read with it, or it is refused
--   Checks o why r     a check answers that nothing fails, or the line of the first that does
use Rattle.std.specs.Prelude.{◌≡◌, ℕ, Some, None, Ok, Err, Option, Result}
use Rattle.listing.specs.declared.draft.Draft.{Draft}
use Rattle.listing.specs.declared.refusal.Reason.{Reason}
use Rattle.listing.specs.declared.refusal.Refusal.{Refusal}
use Rattle.listing.specs.Reading.{Progress}

abbrev pub progress_of : Draft → Progress
progress_of d =
    record {
      bound = d.bound;
      threads = d.threads;
      faults = d.faults;
      thread_lines = d.thread_lines;
      instruction_lines = d.instruction_lines;
      fault_lines = d.fault_lines;
    }

abbrev pub Adds : Result Progress Refusal → Draft → Result (Unit {0}) Refusal → Type 0
Adds s d (Ok u) = s ≡ Ok (progress_of d)
Adds s d (Err e) = s ≡ Err e

-- a check after the last line, by the line of the first part that fails it
abbrev pub Checks : Option ℕ → Reason → Result (Unit {0}) Refusal → Type 0
Checks o why (Ok u) = o ≡ None
Checks o why (Err e) = (o ≡ Some e.line) × (e.reason ≡ why)
