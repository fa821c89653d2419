-- What `solve` answers, by what the search answered. Nothing is assumed.
use Rattle.std.proofs.Common.{◌≡◌, ℕ, Bool, true, false, not, [], ◌∷◌, Some, None, Option, is_none, unwrap_or, option_map, ok_or, Ok, Err, if◌then◌else◌, Result, refl, ap, ◌∙◌}
use Rattle.listing.specs.declared.program.Program.{Program}
use Rattle.listing.specs.declared.refusal.Reason.{Reason}
use Rattle.listing.specs.declared.refusal.Refusal.{Refusal}
use Rattle.listing.specs.declared.refusal.Reason.TheVariants.{NoneEnough, TooFewRows}
use Rattle.machines.specs.declared.placement.Placement.{Placement}
use Rattle.machines.specs.Machines.{Meaning}
use Rattle.search.specs.Answers.{least_placed}
use Rattle.search.specs.Enough.{fits}
use Rattle.job.specs.declared.solution.Solution.{Solution}
use Rattle.job.specs.Answers.{least_set, solution, solve_answer}
use Rattle.job.specs.Checks.{declined, unless_refused}
use Rattle.job.specs.States.{Held, placement, open_places}

abbrev pub as_solution : Result Placement Reason → Result Solution Refusal
as_solution (Ok set) = Ok (solution set.mask)
as_solution (Err why) = Err (declined why)

by_cases : (b : Bool) (o : Option ℕ) → unless_refused ((TooFewRows, not b) ∷ (NoneEnough, is_none o) ∷ []) (solution (unwrap_or o 0)) ≡ as_solution (if b then ok_or (option_map placement o) NoneEnough else Err TooFewRows)
by_cases false o = refl
by_cases true None = refl
by_cases true (Some least) = refl

pub solve_is : {S : Type 0} (M : Program → Meaning S) (h : Held) (n : ℕ) → solve_answer M (Some h) n ≡ as_solution (least_placed h.program (M h.program) n (open_places h))
solve_is M h n = by_cases (fits (M h.program) n) (least_set M n h)

pub solved_as : {S : Type 0} (M : Program → Meaning S) (h : Held) (n : ℕ) (set : Placement) → least_placed h.program (M h.program) n (open_places h) ≡ Ok set
    → solve_answer M (Some h) n ≡ Ok (solution set.mask)
solved_as M h n set e = solve_is M h n ∙ ap as_solution e
