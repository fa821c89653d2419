-- A call as a value: what it answers, what it leaves of the job, and what it leaves of all memory that it was lent, in one equation.
use Rattle.std.specs.Prelude.{◌≡◌, ℕ, List, length, Ok, Result}
use Rattle.listing.specs.declared.program.Program.{Program}
use Rattle.listing.specs.declared.refusal.Refusal.{Refusal}
use Rattle.listing.specs.Reading.{told}
use Rattle.machines.specs.declared.picture.Picture.{Picture}
use Rattle.machines.specs.Machines.{Meaning}
use Rattle.search.specs.Enough.{rows_lent}
use Rattle.job.specs.declared.call.Call.{Call}
use Rattle.job.specs.declared.call.Call.TheVariants as call
use Rattle.job.specs.declared.call.Answer.{Answer}
use Rattle.job.specs.declared.call.Answer.TheVariants as answer
use Rattle.job.specs.declared.call.Memory.{Memory}
use Rattle.job.specs.Answers.{PlainRun, TestRun, ShowRun}
use Rattle.job.specs.Lent.{Lent, after_report, after_read, after_bar, after_free, after_solve, after_test, after_show, after_plain}
use Rattle.job.specs.States.{State, view_of}

-- all memory that calls are lent, as the lists that it holds
pub record Lists (S : Type 0) : Type 0 where
  pub rows : List S
  pub pictures : List Picture
  pub notes : List ℕ
  pub run : List ℕ
  pub out : List ℕ

abbrev pub lists_of : {S : Type 0} → Memory S → Lists S
lists_of m = record { rows = m.rows.now; pictures = m.pictures.now; notes = m.notes.now; run = m.run.now; out = m.out.now }

-- it is the same memory that is lent
pub record SameMemory {S : Type 0} (m n : Memory S) : Type 0 where
  pub rows : n.rows.ghost_name ≡ m.rows.ghost_name
  pub pictures : n.pictures.ghost_name ≡ m.pictures.ghost_name
  pub notes : n.notes.ghost_name ≡ m.notes.ghost_name
  pub run : n.run.ghost_name ≡ m.run.ghost_name
  pub out : n.out.ghost_name ≡ m.out.ghost_name

-- what a search of the job's machine is lent of it, and what it leaves there
abbrev pub lent_of : {S : Type 0} → Lists S → Lent S
lent_of l = record { rows = l.rows; notes = l.notes; run = l.run }

abbrev pub with_lent : {S : Type 0} → Lists S → Lent S → Lists S
with_lent l m = record { rows = m.rows; pictures = l.pictures; notes = m.notes; run = m.run; out = l.out }

-- the same of a search of the unbuffered machine
abbrev pub plain_of : {S : Type 0} → Lists S → Lent Picture
plain_of l = record { rows = l.pictures; notes = l.notes; run = l.run }

abbrev pub with_plain : {S : Type 0} → Lists S → Lent Picture → Lists S
with_plain l m = record { rows = l.rows; pictures = m.rows; notes = m.notes; run = m.run; out = l.out }

-- of the length of a report that was written
abbrev pub IfReported : Answer → (ℕ → Type 0) → Type 0
IfReported (answer.Reported n) P = P n
IfReported _ P = Unit {0}

-- what a call answers, what the job holds then, and what memory holds
pub record Outcome (S : Type 0) : Type 0 where
  pub result : Result Answer Refusal
  pub state : State
  pub lists : Lists S

module _ {S : Type 0} (M : Program → Meaning S) where
  -- `free` has what the rules leave free: what a search leaves in rows and notes, and which fault run is written
  abbrev pub outcome : State → Call → Lists S → Lists S → Outcome S
  outcome s (call.Read text) l free =
      let a = after_read M s text.now in
      record { result = told answer.Places a.0; state = a.1; lists = l }
  outcome s (call.Bar q) l free =
      let a = after_bar M s q in
      record { result = told (λ _. answer.Barred) a.0; state = a.1; lists = l }
  outcome s (call.Free q) l free =
      let a = after_free M s q in
      record { result = told (λ _. answer.Freed) a.0; state = a.1; lists = l }
  outcome s call.Solve l free =
      let a = after_solve M s l.rows l.notes free.rows free.notes in
      record { result = told answer.Solved a.0; state = a.1; lists = record { rows = a.2; pictures = l.pictures; notes = a.3; run = l.run; out = l.out } }
  outcome s (call.Test qs) l free =
      let a = after_test M s qs.now (lent_of l) (lent_of free) in
      record { result = told answer.Tested a.0; state = a.1; lists = with_lent l a.2 }
  outcome s (call.Show q) l free =
      let a = after_show M s q (lent_of l) (lent_of free) in
      record { result = told answer.Shown a.0; state = a.1; lists = with_lent l a.2 }
  outcome s call.Plain l free =
      let a = after_plain M s (plain_of l) (plain_of free) in
      record { result = told answer.Plain a.0; state = a.1; lists = with_plain l a.2 }
  outcome s call.Look l free = record { result = Ok (answer.Seen (view_of s)); state = s; lists = l }
  outcome s call.Report l free =
      let a = after_report s l.out in
      record { result = told answer.Reported a.0; state = s; lists = record { rows = l.rows; pictures = l.pictures; notes = l.notes; run = l.run; out = a.1 } }

  -- where a run is written, it is a fault run that keeps to the set in question
  abbrev pub WrittenRun : State → Call → Lists S → List ℕ → Type 0
  WrittenRun s (call.Test qs) l ns = TestRun M s qs.now (rows_lent l.rows l.notes) (length l.run) ns
  WrittenRun s (call.Show q) l ns = ShowRun M s q (rows_lent l.rows l.notes) (length l.run) ns
  WrittenRun s call.Plain l ns = PlainRun s (rows_lent l.pictures l.notes) (length l.run) ns
  WrittenRun s _ l ns = Unit {0}

  -- the call was made: this is its outcome, for some choice of what is free
  abbrev pub IsMade : State → Call → Lists S → Outcome S → Type 0
  IsMade s c l o = (free : Lists S) × WrittenRun s c l free.run × (o ≡ outcome s c l free)
