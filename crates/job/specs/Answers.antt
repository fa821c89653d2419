-- What each call answers, as one value: a refusal by the first check that applies, or else what it is granted.
use Rattle.std.specs.Prelude.{◌≡◌, ℕ, Bool, false, List, [], length, Some, None, Option, unwrap_or, Ok, Err, Result, count_ones}
use Rattle.listing.specs.declared.program.Program.{Program}
use Rattle.listing.specs.declared.refusal.Refusal.{Refusal}
use Rattle.listing.specs.declared.refusal.Reason.TheVariants.{NoProgram}
use Rattle.listing.specs.Code.{places}
use Rattle.machines.specs.Machines.{Meaning}
use Rattle.machines.specs.Places.{removing}
use Rattle.machines.specs.Unbuffered.{unbuffered}
use Rattle.search.specs.Answers.{Breaks}
use Rattle.search.specs.Enough.{enough}
use Rattle.search.specs.Least.{least}
use Rattle.job.specs.declared.solution.Solution.{Solution}
use Rattle.job.specs.Checks.{Checks, declined, unless_refused, set_of, bar_checks, free_checks, solve_checks, test_checks, show_checks, plain_checks, report_checks}
use Rattle.job.specs.States.{Held, State, placement, open_places}
use Rattle.job.specs.Text.{report}
use Rattle.job.specs.Texts.{program_of}

-- the refusal of the first check that applies, or else the value; without a program there is the one refusal
abbrev pub answered : {X : Type 0} → State → (Held → Checks) → (Held → X) → Result X Refusal
answered None checks value = Err (declined NoProgram)
answered (Some h) checks value = unless_refused (checks h) (value h)

-- something is true of what is held, if anything is
abbrev pub OfHeld : State → (Held → Type 0) → Type 0
OfHeld None P = Unit {0}
OfHeld (Some h) P = P h

-- the number of places of a program that was read
abbrev pub places_of : Result Program Refusal → Result ℕ Refusal
places_of (Ok p) = Ok (places p)
places_of (Err e) = Err e

-- the number of places of the program that is read
abbrev pub read_answer : List ℕ → Result ℕ Refusal
read_answer text = places_of (program_of text)

-- a bar that is granted answers no more than that; so does a free
abbrev pub bar_answer : State → ℕ → Result (Unit {0}) Refusal
bar_answer s q = answered s (bar_checks q) (λ h. tt)

abbrev pub free_answer : State → ℕ → Result (Unit {0}) Refusal
free_answer s q = answered s (free_checks q) (λ h. tt)

-- a set of places, and how many they are
abbrev pub solution : ℕ → Solution
solution set = record { places = placement set; fences = count_ones set }

-- the kept places but one
abbrev pub others : Option Solution → ℕ → ℕ
others None q = 0
others (Some k) q = removing k.places.mask q

-- the report of what is kept
abbrev pub report_of : Program → Option Solution → List ℕ
report_of p None = []
report_of p (Some k) = report p k

-- the length of the report, by the length of the buffer
abbrev pub report_answer : State → ℕ → Result ℕ Refusal
report_answer s long = answered s (report_checks long) (λ h. length (report_of h.program h.kept))

-- a verdict says of a set of places whether it is enough; where it is not, a fault run is written
abbrev pub Verdict : Type 0
Verdict = Result Bool Refusal

-- whether the unbuffered machine is free of faults
abbrev pub plain_verdict : State → ℕ → ℕ → Verdict
plain_verdict s rows run = answered s (plain_checks rows run) (λ h. enough h.program (unbuffered h.program) rows 0)

module _ {S : Type 0} (M : Program → Meaning S) where
  -- the least set of open places that is enough, if there is one
  abbrev pub least_set : ℕ → Held → Option ℕ
  least_set rows h = least (enough h.program (M h.program) rows) (open_places h)

  -- the least set and its count
  abbrev pub solve_answer : State → ℕ → Result Solution Refusal
  solve_answer s rows = answered s (solve_checks M rows) (λ h. solution (unwrap_or (least_set rows h) 0))

  -- whether the set of these places is enough
  abbrev pub test_verdict : State → List ℕ → ℕ → ℕ → Verdict
  test_verdict s qs rows run = answered s (test_checks M qs rows run) (λ h. enough h.program (M h.program) rows (unwrap_or (set_of h.program qs) 0))

  -- of the kept places but one it is never that they are enough
  abbrev pub show_verdict : State → ℕ → ℕ → ℕ → Verdict
  show_verdict s q rows run = answered s (show_checks M q rows run) (λ h. false)

-- where a run ns is written, it is a fault run of m that keeps to the set, passes no standing twice and is shorter than the rows
abbrev pub RunIs : {S : Type 0} → Verdict → State → (Program → Meaning S) → ℕ → (Held → ℕ) → List ℕ → Type 0
RunIs v s M rows set ns = v ≡ Ok false → OfHeld s (λ h. Breaks h.program (M h.program) rows (set h) ns)

-- of the run that `plain` writes
abbrev pub PlainRun : State → ℕ → ℕ → List ℕ → Type 0
PlainRun s rows run ns = RunIs (plain_verdict s rows run) s unbuffered rows (λ h. 0) ns

module _ {S : Type 0} (M : Program → Meaning S) where
  -- of the run that `test` writes
  abbrev pub TestRun : State → List ℕ → ℕ → ℕ → List ℕ → Type 0
  TestRun s qs rows run ns = RunIs (test_verdict M s qs rows run) s M rows (λ h. unwrap_or (set_of h.program qs) 0) ns

  -- of the run that `show` writes
  abbrev pub ShowRun : State → ℕ → ℕ → ℕ → List ℕ → Type 0
  ShowRun s q rows run ns = RunIs (show_verdict M s q rows run) s M rows (λ h. others h.kept q) ns
