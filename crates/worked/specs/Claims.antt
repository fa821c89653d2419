-- What a row of the table claims of texts, and what it means that a claim is true. The job that is spoken of is one for the
-- buffered machine.
use Rattle.std.specs.Prelude.{◌≡◌, ◌≢◌, ◌↔◌, ℕ, Bool, true, false, List, [], ◌∷◌, length, map, AllPairs, Contains, None, Ok, Err, Result}
use Rattle.std.specs.List.{AllByRecursion}
use Rattle.std.specs.Option.{is_some}
use Rattle.listing.specs.declared.code.Condition.{Condition}
use Rattle.listing.specs.declared.program.Program.{Program}
use Rattle.listing.specs.declared.refusal.Refusal.{Refusal}
use Rattle.listing.specs.Code.{Code}
use Rattle.listing.specs.Reading.{reading}
use Rattle.listing.specs.Reasons.{number_of}
use Rattle.machines.specs.declared.picture.Picture.{Picture}
use Rattle.machines.specs.declared.standing.Standing.{Standing}
use Rattle.machines.specs.Buffered.{buffered, picture_of}
use Rattle.machines.specs.Machines.{Meaning, Reached, Run, Shows}
use Rattle.machines.specs.Pictures.{line_holds}
use Rattle.machines.specs.Unbuffered.{unbuffered}
use Rattle.job.specs.declared.solution.Solution.{Solution}
use Rattle.job.specs.Answers.{plain_verdict, solve_answer}
use Rattle.job.specs.Histories.{Read, Bar, Solve, after, next}
use Rattle.job.specs.Lent.{kept_text}
use Rattle.job.specs.States.{State}
use Rattle.job.specs.Text.{line_of}
use Rattle.job.specs.Texts.{program_of}

-- what may be claimed of a text
pub data Claim : Type 0 where
  -- it is read
  is_read : Claim
  -- it is read as this program
  reads : (program : Code) → Claim
  -- it is refused by this number, at this line
  refused : (number line : ℕ) → Claim
  -- so many standings are reached by the buffered machine, and so many by the unbuffered one
  reaches : (buffered unbuffered : ℕ) → Claim
  -- at no standing of the buffered machine, settled or not, do these hold together
  never : (these : List (Condition ℕ)) → Claim
  -- it reaches settled standings at which all of these hold, and at each of them all of those do
  ends : (these those : List (Condition ℕ)) → Claim
  -- after these steps of it the step of this number is present
  present : (steps : List ℕ) (number : ℕ) → Claim
  -- or absent
  absent : (steps : List ℕ) (number : ℕ) → Claim
  -- with these places barred, solving with so many rows prints this
  prints : (rows : ℕ) (barred : List ℕ) (bytes : List ℕ) → Claim
  -- with so many rows, `plain` says that the unbuffered machine is free of faults, or writes a run
  plainly : (rows : ℕ) (free : Bool) → Claim

-- the text is read, and this is true of its program
abbrev pub OfProgram : List ℕ → (Program → Type 0) → Type 0
OfProgram text P = (p : Program) × (program_of text ≡ Ok p) × P p

-- the text is refused by this number, at this line
abbrev pub RefusedBy : List ℕ → ℕ → ℕ → Type 0
RefusedBy text number line =
    (e : Refusal) × (reading text ≡ Err e) × (number_of e.reason ≡ number) × (e.line ≡ line)

-- the machine reaches n standings
abbrev pub Counted : {S : Type 0} → Meaning S → ℕ → Type 0
Counted {S} m n =
    (ss : List S) × (length ss ≡ n) × AllPairs ◌≢◌ ss × ((s : S) → Reached m s ↔ Contains ss s)

-- at no standing that the buffered machine reaches, settled or not, do all of these conditions hold
abbrev pub Never : Program → List (Condition ℕ) → Type 0
Never p cs = (s : Standing) → Reached (buffered p) s → line_holds (picture_of s) cs ≡ false

-- at some settled standing that is reached all of these conditions hold, and at each such one all of those do
abbrev pub Ends : {S : Type 0} → Meaning S → List (Condition ℕ) → List (Condition ℕ) → Type 0
Ends m these those =
    ((q : Picture) × Shows m q × (line_holds q these ≡ true))
    × ((q : Picture) → Shows m q → line_holds q these ≡ true → line_holds q those ≡ true)

-- these steps lead from the start to where the step of this number is present, or absent
abbrev pub After : {S : Type 0} → Meaning S → List ℕ → ℕ → Bool → Type 0
After {S} m steps number there =
    (s : S) × Run m m.start steps s × (is_some (m.step s number) ≡ there)

-- what a new job holds once the text was read and then these places were barred
abbrev pub job_of : List ℕ → List ℕ → State
job_of text barred = after buffered (Read text ∷ map Bar barred) None

-- what is printed of an answer of `solve`: the report of what the job then holds, or the refusal's line
abbrev pub printed : Result Solution Refusal → State → List ℕ
printed (Ok k) s = kept_text s
printed (Err e) s = line_of e

-- what solving with so many rows prints
abbrev pub printed_by : State → ℕ → List ℕ
printed_by s rows = printed (solve_answer buffered s rows) (next buffered s (Solve rows))

-- the claim is true of the text
abbrev pub IsTrue : List ℕ → Claim → Type 0
IsTrue text is_read = (c : Code) × (reading text ≡ Ok c)
IsTrue text (reads c) = reading text ≡ Ok c
IsTrue text (refused number line) = RefusedBy text number line
IsTrue text (reaches b u) = OfProgram text (λ p. Counted (buffered p) b × Counted (unbuffered p) u)
IsTrue text (never cs) = OfProgram text (λ p. Never p cs)
IsTrue text (ends these those) = OfProgram text (λ p. Ends (buffered p) these those)
IsTrue text (present steps number) = OfProgram text (λ p. After (buffered p) steps number true)
IsTrue text (absent steps number) = OfProgram text (λ p. After (buffered p) steps number false)
IsTrue text (prints rows barred bytes) = printed_by (job_of text barred) rows ≡ bytes
IsTrue text (plainly rows free) = plain_verdict (job_of text []) rows rows ≡ Ok free

-- some texts, and what is claimed of each of them
pub record Example : Type 0 where
  pub texts : List (List ℕ)
  pub claims : List Claim

-- each claim of the row is true of each of its texts
abbrev pub RowHolds : Example → Type 0
RowHolds e = AllByRecursion (λ text. AllByRecursion (IsTrue text) e.claims) e.texts
