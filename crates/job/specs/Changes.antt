-- What each call changes of a job, told by what is in the sets; a call that is refused changes nothing.
use Rattle.std.specs.Prelude.{◌≡◌, ◌≢◌, ◌↔◌, ◌⊎◌, ℕ, ◌<◌, true, false, List, Some, None, Ok, Err}
use Rattle.listing.specs.declared.program.Program.{Program}
use Rattle.listing.specs.declared.refusal.Refusal.{Refusal}
use Rattle.listing.specs.Code.{places}
use Rattle.machines.specs.Machines.{Meaning}
use Rattle.machines.specs.Places.{has}
use Rattle.job.specs.declared.solution.Solution.{Solution}
use Rattle.job.specs.Answers.{bar_answer, free_answer, solve_answer}
use Rattle.job.specs.Histories.{Read, Bar, Free, Solve, Test, Show, Plain, next}
use Rattle.job.specs.States.{Held, State, open_places, view_of}
use Rattle.job.specs.Texts.{program_of}

-- a place is open if it is one of the program and is not barred
abbrev pub OpenPlaces : Type 0
OpenPlaces = (h : Held) (q : ℕ) → (has (open_places h) q ≡ true) ↔ ((q < places h.program) × (has h.barred.mask q ≡ false))

-- `look` shows the bars and the kept placement; of a job without a program, that nothing is barred and nothing kept
pub record Seen : Type 0 where
  pub barred : (h : Held) (q : ℕ) → has (view_of (Some h)).barred.mask q ≡ has h.barred.mask q
  pub kept : (h : Held) → (view_of (Some h)).kept ≡ h.kept
  pub nothing_barred : (q : ℕ) → has (view_of None).barred.mask q ≡ false
  pub nothing_kept : (view_of None).kept ≡ None

module _ {S : Type 0} (M : Program → Meaning S) where
  -- a granted reading: its program is held, with nothing barred and nothing kept
  pub record Fresh (p : Program) (then : State) : Type 0 where
    pub held : Held
    pub is : then ≡ Some held
    pub program : held.program ≡ p
    pub none_barred : (q : ℕ) → has held.barred.mask q ≡ false
    pub none_kept : held.kept ≡ None

  -- the same program, with just these places barred and nothing kept
  pub record Barred (h : Held) (Bars : ℕ → Type 0) (then : State) : Type 0 where
    pub held : Held
    pub is : then ≡ Some held
    pub program : held.program ≡ h.program
    pub barred : (q : ℕ) → (has held.barred.mask q ≡ true) ↔ Bars q
    pub none_kept : held.kept ≡ None

  -- the same program and bars, with this placement kept
  pub record Keeps (h : Held) (k : Solution) (then : State) : Type 0 where
    pub held : Held
    pub is : then ≡ Some held
    pub program : held.program ≡ h.program
    pub barred : (q : ℕ) → has held.barred.mask q ≡ has h.barred.mask q
    pub kept : held.kept ≡ Some k

  pub record Changes (s : State) : Type 0 where
    pub read : (text : List ℕ) (p : Program) → program_of text ≡ Ok p → Fresh p (next M s (Read text))
    pub bar : (h : Held) (q : ℕ) → s ≡ Some h → bar_answer s q ≡ Ok tt → Barred h (λ x. (has h.barred.mask x ≡ true) ⊎ (x ≡ q)) (next M s (Bar q))
    pub free : (h : Held) (q : ℕ) → s ≡ Some h → free_answer s q ≡ Ok tt → Barred h (λ x. (has h.barred.mask x ≡ true) × (x ≢ q)) (next M s (Free q))
    pub solve : (h : Held) (rows : ℕ) (k : Solution) → s ≡ Some h → solve_answer M s rows ≡ Ok k → Keeps h k (next M s (Solve rows))
    pub read_refused : (text : List ℕ) (e : Refusal) → program_of text ≡ Err e → next M s (Read text) ≡ s
    pub bar_refused : (q : ℕ) (e : Refusal) → bar_answer s q ≡ Err e → next M s (Bar q) ≡ s
    pub free_refused : (q : ℕ) (e : Refusal) → free_answer s q ≡ Err e → next M s (Free q) ≡ s
    pub solve_refused : (rows : ℕ) (e : Refusal) → solve_answer M s rows ≡ Err e → next M s (Solve rows) ≡ s
    pub test : (qs : List ℕ) (rows run : ℕ) → next M s (Test qs rows run) ≡ s
    pub show : (q rows run : ℕ) → next M s (Show q rows run) ≡ s
    pub plain : (rows run : ℕ) → next M s (Plain rows run) ≡ s
