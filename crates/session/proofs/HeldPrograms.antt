-- Which program a job holds after a call. Nothing is assumed.
use Rattle.std.proofs.Common.{◌≡◌, true, min, length, Some, None, Ok, Err, Result, true≢false, refl, sym, ap, ◌∙◌}
use Rattle.std.specs.Result.{is_ok, result_ok}
use Rattle.listing.specs.declared.program.Program.{Program}
use Rattle.listing.specs.declared.refusal.Refusal.{Refusal}
use Rattle.machines.specs.Machines.{Meaning}
use Rattle.listing.specs.Reading.{told}
use Rattle.job.specs.declared.call.Answer.{Answer}
use Rattle.job.specs.declared.call.Answer.TheVariants as answer
use Rattle.job.specs.declared.call.Call.{Call}
use Rattle.job.specs.declared.call.Call.TheVariants.{Read, Bar, Free, Solve, Test, Show, Plain, Look, Report}
use Rattle.job.specs.Answers.{places_of, bar_answer, free_answer, solve_answer}
use Rattle.job.specs.Calls.{Lists, outcome}
use Rattle.job.specs.Histories.{changed, loaded}
use Rattle.job.specs.States.{Held as Holds, State, keeping}
use Rattle.session.specs.Held.{IsNoReading, program_held}

of_changed : {X : Type 0} (r : Result X Refusal) (change : X → Holds → Holds) → ((x : X) (h : Holds) → (change x h).program ≡ h.program) → (s : State) → program_held (changed r change s) ≡ program_held s
of_changed (Ok x) change same None = refl
of_changed (Ok x) change same (Some h) = ap Some (same x h)
of_changed (Err e) change same s = refl

pub same_program : {S : Type 0} (M : Program → Meaning S) (s : State) (c : Call) (l free : Lists S) → IsNoReading c → program_held (outcome M s c l free).state ≡ program_held s
same_program M s (Read text) l free none = absurd none
same_program M s (Bar q) l free none = of_changed (bar_answer s q) _ (λ x h. refl) s
same_program M s (Free q) l free none = of_changed (free_answer s q) _ (λ x h. refl) s
same_program M s Solve l free none = of_changed (solve_answer M s (min 65536 (min (length l.rows) (length l.notes)))) keeping (λ x h. refl) s
same_program M s (Test qs) l free none = refl
same_program M s (Show q) l free none = refl
same_program M s Plain l free none = refl
same_program M s Look l free none = refl
same_program M s Report l free none = refl

-- where a reading is granted, it is the program that the text reads as
pub read_program : (r : Result Program Refusal) (s : State) (a : Result Answer Refusal) → a ≡ told answer.Places (places_of r) → is_ok a ≡ true → program_held (loaded r s) ≡ result_ok r
read_program (Ok p) s a is ok = refl
read_program (Err e) s a is ok = absurd (true≢false (sym ok ∙ ap is_ok is))
