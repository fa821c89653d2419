-- What the answers of `test` and `plain` mean, told by runs, and what the calls that search leave of lent memory.
use Rattle.std.specs.Prelude.{◌≡◌, ◌≢◌, ℕ, true, false, List, drop, Some, None, Option, Contains, Ok, Err, Result}
use Rattle.listing.specs.declared.program.Program.{Program}
use Rattle.listing.specs.declared.refusal.Reason.{Reason}
use Rattle.listing.specs.declared.refusal.Refusal.{Refusal}
use Rattle.listing.specs.Reasons.{number_of}
use Rattle.machines.specs.declared.picture.Picture.{Picture}
use Rattle.machines.specs.Machines.{Meaning}
use Rattle.machines.specs.Unbuffered.{unbuffered}
use Rattle.search.specs.Faults.{Crosses, FaultRun}
use Rattle.job.specs.Answers.{test_verdict, plain_verdict}
use Rattle.job.specs.Checks.{declined}
use Rattle.job.specs.Lent.{Lent, after_solve, after_test, after_show, after_plain}
use Rattle.job.specs.States.{Held, State}

-- the run of the steps ns crosses none of these places
abbrev pub CrossesNone : {S : Type 0} → Meaning S → List ℕ → List ℕ → Type 0
CrossesNone m ns qs = (q : ℕ) → Crosses m m.start ns q → Contains qs q → ⊥

-- a refusal by any number but 14 and 15
abbrev pub BeforeSearch : Reason → Type 0
BeforeSearch why = (number_of why ≢ 14) × (number_of why ≢ 15)

-- an answer of a call that may write a run, with what it leaves of memory: refused before it came to search it leaves all as found; where
-- no run is given the run list is as found; and past a run that is given it is as found
pub record LeavesMemory {S : Type 0} (old : Lent S) (answer : Result (Option ℕ) Refusal) (left : Lent S) : Type 0 where
  pub refused : (why : Reason) → BeforeSearch why → answer ≡ Err (declined why) → left ≡ old
  pub refused_run : (e : Refusal) → answer ≡ Err e → left.run ≡ old.run
  pub no_run : answer ≡ Ok None → left.run ≡ old.run
  pub past : (n : ℕ) → answer ≡ Ok (Some n) → drop n left.run ≡ drop n old.run

-- `show` has no answer without a run
abbrev pub some_length : Result ℕ Refusal → Result (Option ℕ) Refusal
some_length (Ok n) = Ok (Some n)
some_length (Err e) = Err e

module _ {S : Type 0} (M : Program → Meaning S) where
  -- of any set of places, barred or not: no fault run keeps to it, or some fault run does
  pub record Verdicts (s : State) : Type 0 where
    pub enough : (h : Held) (qs : List ℕ) (rows run : ℕ) → s ≡ Some h → test_verdict M s qs rows run ≡ Ok true
        → (ns : List ℕ) → FaultRun h.program (M h.program) ns → CrossesNone (M h.program) ns qs → ⊥
    pub breaks : (h : Held) (qs : List ℕ) (rows run : ℕ) → s ≡ Some h → test_verdict M s qs rows run ≡ Ok false
        → (ns : List ℕ) × FaultRun h.program (M h.program) ns × CrossesNone (M h.program) ns qs
    pub plain_free : (h : Held) (rows run : ℕ) → s ≡ Some h → plain_verdict s rows run ≡ Ok true → (ns : List ℕ) → FaultRun h.program (unbuffered h.program) ns → ⊥
    pub plain_faulty : (h : Held) (rows run : ℕ) → s ≡ Some h → plain_verdict s rows run ≡ Ok false → (ns : List ℕ) × FaultRun h.program (unbuffered h.program) ns

  -- what each call leaves of lent memory
  pub record MemoryLeft (s : State) : Type 0 where
    pub test : (qs : List ℕ) (old free : Lent S) → let a = after_test M s qs old free in LeavesMemory old a.0 a.2
    pub show : (q : ℕ) (old free : Lent S) → let a = after_show M s q old free in LeavesMemory old (some_length a.0) a.2
    pub plain : (old free : Lent Picture) → let a = after_plain M s old free in LeavesMemory old a.0 a.2
    pub solve : (rows rows' : List S) (notes notes' : List ℕ) (why : Reason) → BeforeSearch why
        → let a = after_solve M s rows notes rows' notes' in a.0 ≡ Err (declined why) → (a.2 ≡ rows) × (a.3 ≡ notes)
