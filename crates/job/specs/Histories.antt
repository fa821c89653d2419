-- Calls, as far as what they answer and leave depends on them, and what any list of them leaves.
use Rattle.std.specs.Prelude.{◌≡◌, ℕ, List, [], ◌∷◌, Some, None, Ok, Err, Result, option_map}
use Rattle.listing.specs.declared.program.Program.{Program}
use Rattle.listing.specs.declared.refusal.Refusal.{Refusal}
use Rattle.machines.specs.Machines.{Meaning}
use Rattle.machines.specs.Places.{adding, removing}
use Rattle.job.specs.Answers.{bar_answer, free_answer, solve_answer}
use Rattle.job.specs.States.{Held, State, begun, barring, keeping}
use Rattle.job.specs.Texts.{program_of}

-- a call that a history counts: with its text, its place or places, how many rows it is lent, and how long its run list is
pub data Event : Type 0 where
  Read : (text : List ℕ) → Event
  Bar : (place : ℕ) → Event
  Free : (place : ℕ) → Event
  Solve : (rows : ℕ) → Event
  Test : (places : List ℕ) (rows run : ℕ) → Event
  Show : (place rows run : ℕ) → Event
  Plain : (rows run : ℕ) → Event

-- what a granted call changes; a refused one leaves all as it was
abbrev pub changed : {X : Type 0} → Result X Refusal → (X → Held → Held) → State → State
changed (Ok x) change s = option_map (change x) s
changed (Err e) change s = s

-- what a reading leaves
abbrev pub loaded : Result Program Refusal → State → State
loaded (Ok p) s = Some (begun p)
loaded (Err e) s = s

-- `M p` is what the machine means that the job's kind makes for the program p
module _ {S : Type 0} (M : Program → Meaning S) where
  -- what a job holds after a call
  abbrev pub next : State → Event → State
  next s (Read text) = loaded (program_of text) s
  next s (Bar q) = changed (bar_answer s q) (λ _ h. barring (adding h.barred.mask q) h) s
  next s (Free q) = changed (free_answer s q) (λ _ h. barring (removing h.barred.mask q) h) s
  next s (Solve rows) = changed (solve_answer M s rows) keeping s
  next s (Test places rows run) = s
  next s (Show q rows run) = s
  next s (Plain rows run) = s

  -- what it holds after these calls, one after the other
  abbrev pub after : List Event → State → State
  after [] s = s
  after (e ∷ es) s = after es (next s e)

  -- some calls of a new job left this
  pub record Arisen (s : State) : Type 0 where
    pub history : List Event
    pub led : after history None ≡ s
