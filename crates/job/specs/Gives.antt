-- What calls give beside what the job then holds: the run that is written, and the bytes of a line or a report; and that a call
-- as a value is refused as the rules of its refusals say, and leaves what that call leaves.
use Rattle.std.specs.Prelude.{◌≡◌, ◌↔◌, ℕ, List, length, take, drop, Some, Ok, Err, Result}
use Rattle.listing.specs.declared.program.Program.{Program}
use Rattle.listing.specs.declared.refusal.Refusal.{Refusal}
use Rattle.listing.specs.Laws.{Wrong}
use Rattle.machines.specs.declared.picture.Picture.{Picture}
use Rattle.machines.specs.Machines.{Meaning}
use Rattle.machines.specs.Places.{removing}
use Rattle.machines.specs.Unbuffered.{unbuffered}
use Rattle.search.specs.Enough.{rows_lent}
use Rattle.search.specs.Faults.{FaultRun, KeepsTo, NoneTwice}
use Rattle.job.specs.declared.call.Answer.{Answer}
use Rattle.job.specs.declared.call.Answer.TheVariants as answer
use Rattle.job.specs.declared.call.Call.{Call}
use Rattle.job.specs.declared.call.Call.TheVariants as call
use Rattle.job.specs.declared.solution.Solution.{Solution}
use Rattle.job.specs.Answers.{PlainRun, ShowRun, TestRun}
use Rattle.job.specs.Calls.{Lists, outcome}
use Rattle.job.specs.Histories.{Read, Bar, Free, Solve, next}
use Rattle.job.specs.Lent.{Lent, after_line, after_plain, after_report, after_show, after_test}
use Rattle.search.specs.Refusals.{ByLowest}
use Rattle.job.specs.Refusals.{BarApplies, HasNumber, FreeApplies, PlainApplies, ReportApplies, ShowApplies, SolveApplies, TestApplies}
use Rattle.job.specs.States.{Held, State, view_of}
use Rattle.job.specs.Text.{line_of, report}
use Rattle.job.specs.Verdicts.{CrossesNone}

-- a buffer after an answer: so many bytes as are answered are the text, and those after them are as they were; where it is
-- refused, all are
pub record Writes (text old : List ℕ) (answer : Result ℕ Refusal) (left : List ℕ) : Type 0 where
  pub number : (n : ℕ) → answer ≡ Ok n → n ≡ length text
  pub front : (n : ℕ) → answer ≡ Ok n → take n left ≡ text
  pub past : (n : ℕ) → answer ≡ Ok n → drop n left ≡ drop n old
  pub refused : (e : Refusal) → answer ≡ Err e → left ≡ old

-- a report is that of what is kept; where nothing is, nothing is written
pub record Prints : Type 0 where
  pub report : (h : Held) (k : Solution) (out : List ℕ) → h.kept ≡ Some k
      → let a = after_report (Some h) out in Writes (report h.program k) out a.0 a.1
  pub none : (s : State) (out : List ℕ) (e : Refusal) → (after_report s out).0 ≡ Err e → (after_report s out).1 ≡ out
  pub line : (e : Refusal) (out : List ℕ) → let a = after_line e out in Writes (line_of e) out a.0 a.1

-- a run of so many steps stands in front of the run list: it ends in a fault, keeps to what it should, and passes no
-- standing twice
pub record GivesRun {S : Type 0} (p : Program) (m : Meaning S) (Keeps : List ℕ → Type 0) (n : ℕ) (left : List ℕ)
    : Type 0 where
  pub steps : List ℕ
  pub fault : FaultRun p m steps
  pub keeps : Keeps steps
  pub once : NoneTwice m steps
  pub long : n ≡ length steps
  pub written : take n left ≡ steps

module _ {S : Type 0} (M : Program → Meaning S) where
  -- the length of a run is answered only where there is that run
  pub record Runs (h : Held) : Type 0 where
    pub test : (qs : List ℕ) (old free : Lent S) (n : ℕ)
        → TestRun M (Some h) qs (rows_lent old.rows old.notes) (length old.run) free.run
        → let a = after_test M (Some h) qs old free in a.0 ≡ Ok (Some n)
        → GivesRun h.program (M h.program) (λ ns. CrossesNone (M h.program) ns qs) n a.2.run
    pub show : (k : Solution) (q : ℕ) (old free : Lent S) (n : ℕ) → h.kept ≡ Some k
        → ShowRun M (Some h) q (rows_lent old.rows old.notes) (length old.run) free.run
        → let a = after_show M (Some h) q old free in a.0 ≡ Ok n
        → GivesRun h.program (M h.program) (λ ns. KeepsTo (M h.program) ns (removing k.places.mask q)) n a.2.run
    pub plain : (old free : Lent Picture) (n : ℕ)
        → PlainRun (Some h) (rows_lent old.rows old.notes) (length old.run) free.run
        → let a = after_plain M (Some h) old free in a.0 ≡ Ok (Some n)
        → GivesRun h.program (unbuffered h.program) (λ ns. Unit {0}) n a.2.run

  -- by which refusals a call as a value may be refused, of what it is lent; `look` never is
  abbrev pub RefusedAs : State → Call → Lists S → Result Answer Refusal → Type 0
  RefusedAs s (call.Read text) l r = (e : Refusal) → (r ≡ Err e) ↔ Wrong text.now e
  RefusedAs s (call.Bar q) l r = ByLowest HasNumber (BarApplies s q) r
  RefusedAs s (call.Free q) l r = ByLowest HasNumber (FreeApplies s q) r
  RefusedAs s call.Solve l r = ByLowest HasNumber (SolveApplies M s (rows_lent l.rows l.notes)) r
  RefusedAs s (call.Test qs) l r = ByLowest HasNumber (TestApplies M s qs.now (rows_lent l.rows l.notes) (length l.run)) r
  RefusedAs s (call.Show q) l r = ByLowest HasNumber (ShowApplies M s q (rows_lent l.rows l.notes) (length l.run)) r
  RefusedAs s call.Plain l r = ByLowest HasNumber (PlainApplies s (rows_lent l.pictures l.notes) (length l.run)) r
  RefusedAs s call.Look l r = r ≡ Ok (answer.Seen (view_of s))
  RefusedAs s call.Report l r = ByLowest HasNumber (ReportApplies s (length l.out)) r

  abbrev pub CallsRefused : Type 0
  CallsRefused = (s : State) (c : Call) (l free : Lists S) → RefusedAs s c l (outcome M s c l free).result

  -- what the job holds after a call as a value: what it holds after that call; `look` and `report` leave it
  abbrev pub LeavesJob : State → Call → Lists S → State → Type 0
  LeavesJob s (call.Read text) l t = t ≡ next M s (Read text.now)
  LeavesJob s (call.Bar q) l t = t ≡ next M s (Bar q)
  LeavesJob s (call.Free q) l t = t ≡ next M s (Free q)
  LeavesJob s call.Solve l t = t ≡ next M s (Solve (rows_lent l.rows l.notes))
  LeavesJob s _ l t = t ≡ s

  abbrev pub CallsLeave : Type 0
  CallsLeave = (s : State) (c : Call) (l free : Lists S) → LeavesJob s c l (outcome M s c l free).state
