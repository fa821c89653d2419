-- Lent memory, as the lists that it holds, and what each call answers and leaves, all together.
use Rattle.std.specs.Prelude.{ℕ, Bool, true, false, ◌||◌, ◌==◌, List, [], ◌∷◌, ◌++◌, length, drop, Some, None, Option, Ok, Err, Result, if◌then◌else◌, nat_lt}
use Rattle.listing.specs.declared.program.Program.{Program}
use Rattle.listing.specs.declared.refusal.Refusal.{Refusal}
use Rattle.listing.specs.Reading.{told}
use Rattle.listing.specs.Reasons.{number_of}
use Rattle.machines.specs.declared.picture.Picture.{Picture}
use Rattle.machines.specs.Machines.{Meaning}
use Rattle.search.specs.Enough.{rows_lent}
use Rattle.job.specs.declared.solution.Solution.{Solution}
use Rattle.job.specs.Answers.{Verdict, read_answer, bar_answer, free_answer, solve_answer, test_verdict, show_verdict, plain_verdict, report_answer, report_of}
use Rattle.job.specs.Histories.{Read, Bar, Free, Solve, Test, Show, Plain, next}
use Rattle.job.specs.States.{State}
use Rattle.job.specs.Text.{line_of, placed}
use Rattle.listing.specs.declared.refusal.Reason.TheVariants.{BufferTooShort}
use Rattle.job.specs.Checks.{unless_refused}

-- what a call that writes a text leaves of the buffer
abbrev pub text_left : Result ℕ Refusal → List ℕ → List ℕ → List ℕ
text_left (Ok n) text out = placed out 0 text
text_left (Err e) text out = out

-- the report of what is kept
abbrev pub kept_text : State → List ℕ
kept_text None = []
kept_text (Some h) = report_of h.program h.kept

-- what a report answers, and what it leaves of the buffer
abbrev pub after_report : State → List ℕ → Result ℕ Refusal × List ℕ
after_report s out = (report_answer s (length out), text_left (report_answer s (length out)) (kept_text s) out)

-- what the line of a refusal answers, and what it leaves of the buffer
abbrev pub after_line : Refusal → List ℕ → Result ℕ Refusal × List ℕ
after_line e out =
    let r = unless_refused ((BufferTooShort, nat_lt (length out) 512) ∷ []) (length (line_of e)) in
    (r, text_left r (line_of e) out)

-- search memory: standings, notes, and the run list
pub record Lent (S : Type 0) : Type 0 where
  pub rows : List S
  pub notes : List ℕ
  pub run : List ℕ

-- search memory that holds these lists
abbrev pub lent : {S : Type 0} → List S → List ℕ → List ℕ → Lent S
lent rows notes run = record { rows = rows; notes = notes; run = run }

-- a call comes to search where it is granted, and where it is refused by 14 or 15
abbrev pub comes_to_search : {X : Type 0} → Result X Refusal → Bool
comes_to_search (Ok x) = true
comes_to_search (Err e) = number_of e.reason == 14 || number_of e.reason == 15

-- what a call leaves of rows or notes: what the search left there, or all as it was
abbrev pub scratch_left : {X L : Type 0} → Result X Refusal → L → L → L
scratch_left r old left = if comes_to_search r then left else old

-- what a call leaves of the run list: the run in front, where one is written, and all past it as it was
abbrev pub run_left : Verdict → List ℕ → List ℕ → List ℕ
run_left (Ok true) ns old = old
run_left (Ok false) ns old = ns ++ drop (length ns) old
run_left (Err e) ns old = old

-- nothing where the set is enough, else the length of the run
abbrev pub verdict_answer : Verdict → List ℕ → Result (Option ℕ) Refusal
verdict_answer (Ok true) ns = Ok None
verdict_answer (Ok false) ns = Ok (Some (length ns))
verdict_answer (Err e) ns = Err e

-- `free` has what the rules leave free: what a search leaves in rows and notes, and which fault run is written
abbrev pub search_left : {S : Type 0} → Verdict → Lent S → Lent S → Lent S
search_left v old free = record { rows = scratch_left v old.rows free.rows; notes = scratch_left v old.notes free.notes; run = run_left v free.run old.run }

module _ {S : Type 0} (M : Program → Meaning S) where
  -- what `read` answers, and what the job holds then; so of `bar` and `free`
  abbrev pub after_read : State → List ℕ → Result ℕ Refusal × State
  after_read s text = (read_answer text, next M s (Read text))

  abbrev pub after_bar : State → ℕ → Result (Unit {0}) Refusal × State
  after_bar s q = (bar_answer s q, next M s (Bar q))

  abbrev pub after_free : State → ℕ → Result (Unit {0}) Refusal × State
  after_free s q = (free_answer s q, next M s (Free q))

  -- what `test` answers, what the job holds then, and what it leaves of memory; so of `show` and `plain`
  abbrev pub after_test : State → List ℕ → Lent S → Lent S → Result (Option ℕ) Refusal × State × Lent S
  after_test s qs old free =
      let n = rows_lent old.rows old.notes in
      let v = test_verdict M s qs n (length old.run) in
      (verdict_answer v free.run, next M s (Test qs n (length old.run)), search_left v old free)

  abbrev pub after_show : State → ℕ → Lent S → Lent S → Result ℕ Refusal × State × Lent S
  after_show s q old free =
      let n = rows_lent old.rows old.notes in
      let v = show_verdict M s q n (length old.run) in
      (told (λ _. length free.run) v, next M s (Show q n (length old.run)), search_left v old free)

  abbrev pub after_plain : State → Lent Picture → Lent Picture → Result (Option ℕ) Refusal × State × Lent Picture
  after_plain s old free =
      let n = rows_lent old.rows old.notes in
      let v = plain_verdict s n (length old.run) in
      (verdict_answer v free.run, next M s (Plain n (length old.run)), search_left v old free)

  -- what `solve` answers, what the job holds then, and what stands in rows and notes; rows' and notes' are what a search leaves there
  abbrev pub after_solve : State → List S → List ℕ → List S → List ℕ → Result Solution Refusal × State × List S × List ℕ
  after_solve s rows notes rows' notes' =
      let n = rows_lent rows notes in
      let r = solve_answer M s n in
      (r, next M s (Solve n), scratch_left r rows rows', scratch_left r notes notes')
