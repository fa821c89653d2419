-- Which refusals apply to a call, each said by itself; the call is refused by the lowest number that applies, and granted when
-- none does.
use Rattle.std.specs.Prelude.{◌≡◌, ◌↔◌, ℕ, ◌≤◌, ◌<◌, true, false, List, length, Some, None, Ok, Err, Result, Contains, sum_by}
use Rattle.listing.specs.declared.program.Program.{Program}
use Rattle.listing.specs.declared.refusal.Refusal.{Refusal}
use Rattle.listing.specs.Code.{places}
use Rattle.listing.specs.Laws.{Wrong}
use Rattle.listing.specs.Reasons.{number_of}
use Rattle.machines.specs.Machines.{Meaning}
use Rattle.machines.specs.Places.{has}
use Rattle.machines.specs.Unbuffered.{unbuffered}
use Rattle.search.specs.Faults.{FaultRun, KeepsTo, TooMany}
use Rattle.search.specs.Refusals.{ByLowest}
use Rattle.job.specs.declared.solution.Solution.{Solution}
use Rattle.job.specs.Answers.{read_answer, bar_answer, free_answer, solve_answer, test_verdict, show_verdict, plain_verdict, report_answer}
use Rattle.job.specs.Lent.{after_line}
use Rattle.job.specs.States.{Held, State, open_places}
use Rattle.job.specs.Texts.{program_of}

-- there is a program, and this is true of what is held
abbrev pub Holding : State → (Held → Type 0) → Type 0
Holding s P = (h : Held) × (s ≡ Some h) × P h

-- the program has no such place
abbrev pub Missing : ℕ → Held → Type 0
Missing q h = places h.program ≤ q

-- no placement that is kept has the place
abbrev pub NotKept : ℕ → Held → Type 0
NotKept q h = (k : Solution) → h.kept ≡ Some k → has k.places.mask q ≡ false

-- Of each call, which refusals apply, by their numbers; no other number ever does.

-- of `bar`
pub data BarApplies (s : State) (q : ℕ) : ℕ → Type 0 where
  -- no program was read
  no_program : s ≡ None → BarApplies s q 8
  -- the place is not in the program
  missing : Holding s (Missing q) → BarApplies s q 9
  -- it is barred already
  already : Holding s (λ h. has h.barred.mask q ≡ true) → BarApplies s q 10

-- of `free`
pub data FreeApplies (s : State) (q : ℕ) : ℕ → Type 0 where
  no_program : s ≡ None → FreeApplies s q 8
  missing : Holding s (Missing q) → FreeApplies s q 9
  -- it is open already
  already : Holding s (λ h. has h.barred.mask q ≡ false) → FreeApplies s q 10

-- of `plain`, with so many rows and a run list of that length: the rows are those of the unbuffered machine
pub data PlainApplies (s : State) (rows run : ℕ) : ℕ → Type 0 where
  no_program : s ≡ None → PlainApplies s rows run 8
  -- the run list is shorter than the number of rows
  short_list : run < rows → PlainApplies s rows run 11
  -- more standings are reached, with no fence, than there are rows
  too_few_rows : Holding s (λ h. TooMany (unbuffered h.program) rows) → PlainApplies s rows run 14

-- of `report`, with a buffer of that length
pub data ReportApplies (s : State) (long : ℕ) : ℕ → Type 0 where
  no_program : s ≡ None → ReportApplies s long 8
  -- no placement is kept
  none_kept : Holding s (λ h. h.kept ≡ None) → ReportApplies s long 12
  short_buffer : long < 512 → ReportApplies s long 16

-- of a refusal's line
pub data LineApplies (long : ℕ) : ℕ → Type 0 where
  short_buffer : long < 512 → LineApplies long 16

module _ {S : Type 0} (M : Program → Meaning S) where
  -- of `solve`
  pub data SolveApplies (s : State) (rows : ℕ) : ℕ → Type 0 where
    no_program : s ≡ None → SolveApplies s rows 8
    too_few_rows : Holding s (λ h. TooMany (M h.program) rows) → SolveApplies s rows 14
    -- some fault run keeps to all open places
    none_enough : Holding s (λ h.
        (ns : List ℕ) × FaultRun h.program (M h.program) ns × KeepsTo (M h.program) ns (open_places h))
        → SolveApplies s rows 15

  -- of `test`
  pub data TestApplies (s : State) (qs : List ℕ) (rows run : ℕ) : ℕ → Type 0 where
    no_program : s ≡ None → TestApplies s qs rows run 8
    missing : Holding s (λ h. (q : ℕ) × Contains qs q × Missing q h) → TestApplies s qs rows run 9
    short_list : run < rows → TestApplies s qs rows run 11
    too_few_rows : Holding s (λ h. TooMany (M h.program) rows) → TestApplies s qs rows run 14

  -- of `show`
  pub data ShowApplies (s : State) (q rows run : ℕ) : ℕ → Type 0 where
    no_program : s ≡ None → ShowApplies s q rows run 8
    missing : Holding s (Missing q) → ShowApplies s q rows run 9
    short_list : run < rows → ShowApplies s q rows run 11
    none_kept : Holding s (λ h. h.kept ≡ None) → ShowApplies s q rows run 12
    -- the place is not in what is kept
    not_kept : Holding s (NotKept q) → ShowApplies s q rows run 13
    too_few_rows : Holding s (λ h. TooMany (M h.program) rows) → ShowApplies s q rows run 14

-- the number of a refusal at line 0
abbrev pub HasNumber : Refusal → ℕ → Type 0
HasNumber e n = (number_of e.reason ≡ n) × (e.line ≡ 0)

-- an answer of `read`: the refusal is the first thing that is wrong with the text; else it is the number of instructions
pub record ByFirstWrong (text : List ℕ) (r : Result ℕ Refusal) : Type 0 where
  pub refused : (e : Refusal) → (r ≡ Err e) ↔ Wrong text e
  pub granted : (n : ℕ) → (r ≡ Ok n) ↔ ((p : Program) × (program_of text ≡ Ok p) × (n ≡ sum_by length p.threads))

-- of every call
pub record InOrder {S : Type 0} (M : Program → Meaning S) (s : State) : Type 0 where
  pub read : (text : List ℕ) → ByFirstWrong text (read_answer text)
  pub bar : (q : ℕ) → ByLowest HasNumber (BarApplies s q) (bar_answer s q)
  pub free : (q : ℕ) → ByLowest HasNumber (FreeApplies s q) (free_answer s q)
  pub solve : (rows : ℕ) → ByLowest HasNumber (SolveApplies M s rows) (solve_answer M s rows)
  pub test : (qs : List ℕ) (rows run : ℕ) → ByLowest HasNumber (TestApplies M s qs rows run) (test_verdict M s qs rows run)
  pub show : (q rows run : ℕ) → ByLowest HasNumber (ShowApplies M s q rows run) (show_verdict M s q rows run)
  pub plain : (rows run : ℕ) → ByLowest HasNumber (PlainApplies s rows run) (plain_verdict s rows run)
  pub report : (long : ℕ) → ByLowest HasNumber (ReportApplies s long) (report_answer s long)
  pub line : (e : Refusal) (out : List ℕ) → ByLowest HasNumber (LineApplies (length out)) (after_line e out).0
