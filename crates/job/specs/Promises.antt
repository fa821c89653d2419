-- What every job promises, whatever calls it was made and changed by. `M p` is what the machine means that the job's kind makes for
-- the program p. A fault run is a run of steps, each present, from the start to a settled standing whose picture is a fault; it keeps
-- to a set of places if no step of it crosses one of them.
use Rattle.std.specs.Prelude.{◌≡◌, ◌≢◌, ◌↔◌, ◌⊎◌, ℕ, ◌≤◌, true, List, ◌++◌, length, drop, Some, None, Ok, Err, Result, count_ones}
use Rattle.listing.specs.declared.program.Program.{Program}
use Rattle.listing.specs.declared.refusal.Refusal.{Refusal}
use Rattle.listing.specs.declared.refusal.Reason.TheVariants.{RunListTooShort, TooFewRows, NoneEnough}
use Rattle.machines.specs.Machines.{Meaning}
use Rattle.machines.specs.Places.{has, removing}
use Rattle.machines.specs.Unbuffered.{unbuffered}
use Rattle.search.specs.Enough.{rows_lent}
use Rattle.search.specs.Faults.{Enough, FaultRun, KeepsTo, TooMany}
use Rattle.search.specs.Least.{Best, Within}
use Rattle.job.specs.declared.solution.Solution.{Solution}
use Rattle.job.specs.Answers.{ShowRun, solve_answer}
use Rattle.job.specs.Checks.{declined}
use Rattle.job.specs.Histories.{Event, Solve, after, next}
use Rattle.job.specs.Lent.{Lent, after_show}
use Rattle.job.specs.States.{Held, State, open_places, keeping}

module _ {S : Type 0} (M : Program → Meaning S) where
  -- some fault run keeps to the set
  abbrev pub Breakable : Program → ℕ → Type 0
  Breakable p set = (ns : List ℕ) × FaultRun p (M p) ns × KeepsTo (M p) ns set

  -- a placement that is kept: its places are open, its fence count is their number, no fault run keeps to it, and every rival set
  -- of open places that no fault run keeps to has at least as many places
  pub record Stands (h : Held) (k : Solution) : Type 0 where
    pub are_open : Within k.places.mask (open_places h)
    pub count : k.fences ≡ count_ones k.places.mask
    pub enough : Enough h.program (M h.program) k.places.mask
    pub fewest : (rival : ℕ) → Within rival (open_places h) → Enough h.program (M h.program) rival → count_ones k.places.mask ≤ count_ones rival

  -- an answer of `show`, with what it leaves: it is refused for want of memory, or the run list begins with a fault run that keeps to the set
  abbrev pub Reveals : Held → ℕ → List ℕ → List ℕ → Result ℕ Refusal × State × Lent S → Type 0
  Reveals h set old ns (r, then, left) =
      (r ≡ Err (declined RunListTooShort)) ⊎ (r ≡ Err (declined TooFewRows)) ⊎
      (FaultRun h.program (M h.program) ns × KeepsTo (M h.program) ns set × (r ≡ Ok (length ns)) × (left.run ≡ ns ++ drop (length ns) old))

  -- without the place q of the kept ones some fault run keeps to the others, and `show` gives one, whatever memory it is lent
  pub record Shown (s : State) (h : Held) (k : Solution) (q : ℕ) : Type 0 where
    pub needed : Breakable h.program (removing k.places.mask q)
    pub given : (old free : Lent S) → ShowRun M s q (rows_lent old.rows old.notes) (length old.run) free.run
        → Reveals h (removing k.places.mask q) old.run free.run (after_show M s q old free)

  -- the answer of `solve`: none exactly when some fault run keeps to all open places; else the best set, which is the only one, is kept
  -- and answered; and with nothing barred it says none exactly when the unbuffered machine has a fault run
  pub record Decided (h : Held) (r : Result Solution Refusal) (then : State) : Type 0 where
    pub none : (r ≡ Err (declined NoneEnough)) ↔ Breakable h.program (open_places h)
    pub best : r ≢ Err (declined NoneEnough) → (k : Solution) × (r ≡ Ok k) × Best h.program (M h.program) (open_places h) k.places.mask
        × (k.fences ≡ count_ones k.places.mask) × (then ≡ Some (keeping k h))
    pub only : (set other : ℕ) → Best h.program (M h.program) (open_places h) set → Best h.program (M h.program) (open_places h) other → set ≡ other
    pub without_bars : h.barred.mask ≡ 0 → (r ≡ Err (declined NoneEnough)) ↔ ((ns : List ℕ) × FaultRun h.program (unbuffered h.program) ns)

  -- what a job that holds s promises
  pub record Promises (s : State) : Type 0 where
    pub kept : (h : Held) (k : Solution) → s ≡ Some h → h.kept ≡ Some k → Stands h k
    pub shown : (h : Held) (k : Solution) (q : ℕ) → s ≡ Some h → h.kept ≡ Some k → has k.places.mask q ≡ true → Shown s h k q
    pub solved : (h : Held) (rows : ℕ) → s ≡ Some h → (TooMany (M h.program) rows → ⊥) → Decided h (solve_answer M s rows) (next M s (Solve rows))

  -- of what any calls leave of a new job, granted or not
  abbrev pub Always : Type 0
  Always = (calls : List Event) → Promises (after M calls None)
