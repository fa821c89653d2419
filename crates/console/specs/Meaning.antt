-- What the bytes that the console prints for a text mean, told by runs.
use Rattle.std.specs.Prelude.{◌≡◌, ℕ, List, length, take, drop, Ok, Err, Result}
use Rattle.listing.specs.declared.program.Program.{Program}
use Rattle.listing.specs.declared.refusal.Reason.TheVariants.{TooFewRows, NoneEnough}
use Rattle.listing.specs.declared.refusal.Refusal.{Refusal}
use Rattle.listing.specs.Code.{places}
use Rattle.listing.specs.Laws.{Wrong}
use Rattle.machines.specs.Buffered.{buffered}
use Rattle.machines.specs.Places.{first_places}
use Rattle.search.specs.Faults.{FaultRun, KeepsTo, TooMany}
use Rattle.search.specs.Least.{Best}
use Rattle.job.specs.Answers.{solution}
use Rattle.job.specs.Checks.{declined}
use Rattle.job.specs.Text.{line_of, report}
use Rattle.job.specs.Texts.{program_of}
use Rattle.console.specs.Prints.{answered, report_or_refusal}

-- with so many rows, this is the one refusal of the text
pub data Refuses (text : List ℕ) (rows : ℕ) : Refusal → Type 0 where
  -- the first thing that is wrong with it
  unread : {e : Refusal} → Wrong text e → Refuses text rows e
  -- more standings are reached, with no fence, than there are rows
  too_few_rows : {p : Program} → program_of text ≡ Ok p → TooMany (buffered p) rows
      → Refuses text rows (declined TooFewRows)
  -- some fault run keeps to all places
  none_enough : {p : Program} {ns : List ℕ} → program_of text ≡ Ok p → (TooMany (buffered p) rows → ⊥)
      → FaultRun p (buffered p) ns → KeepsTo (buffered p) ns (first_places (places p))
      → Refuses text rows (declined NoneEnough)

-- with so many rows, this is the report of the best set of its program's places
pub data Solves (text : List ℕ) (rows : ℕ) : List ℕ → Type 0 where
  best : {p : Program} {set : ℕ} → program_of text ≡ Ok p → (TooMany (buffered p) rows → ⊥)
      → Best p (buffered p) (first_places (places p)) set → Solves text rows (report p (solution set))

-- so many bytes of the buffer are these, and those after them are as they were
pub record Front (bytes old : List ℕ) (n : ℕ) (left : List ℕ) : Type 0 where
  pub number : n ≡ length bytes
  pub front : take n left ≡ bytes
  pub past : drop n left ≡ drop n old

-- the answer is a length, and the buffer begins with a report, or else with the line of the refusal
pub record Tells (text : List ℕ) (rows : ℕ) (old : List ℕ) (answer : Result ℕ ℕ) (left : List ℕ) : Type 0 where
  pub solved : (n : ℕ) → answer ≡ Ok n → (bytes : List ℕ) × Solves text rows bytes × Front bytes old n left
  pub refused : (n : ℕ) → answer ≡ Err n → (e : Refusal) × Refuses text rows e × Front (line_of e) old n left

-- of every text, any number of rows and every buffer
abbrev pub ConsoleTells : Type 0
ConsoleTells = (text : List ℕ) (rows : ℕ) (out : List ℕ)
    → let a = answered (report_or_refusal text rows) out in Tells text rows out a.0 a.1
