-- What the three calls print together. Nothing is assumed.
use Rattle.std.proofs.Common.{◌≡◌, ℕ, ◌≤◌, false, nat_lt, List, length, Some, None, option_map, Ok, Err, Result, refl, sym, ap, ◌∙◌}
use Rattle.std.proofs.lemmas.Bool.{le-ltb}
use Rattle.listing.specs.declared.program.Program.{Program}
use Rattle.listing.specs.declared.refusal.Reason.{Reason}
use Rattle.listing.specs.declared.refusal.Refusal.{Refusal}
use Rattle.listing.specs.Code.{places}
use Rattle.listing.specs.Reading.{told}
use Rattle.machines.specs.declared.placement.Placement.{Placement}
use Rattle.machines.specs.Buffered.{buffered}
use Rattle.machines.specs.Places.{first_places}
use Rattle.search.specs.Answers.{least_placed}
use Rattle.job.specs.declared.call.Answer.{Answer}
use Rattle.job.specs.declared.call.Answer.TheVariants as answer
use Rattle.job.specs.Answers.{places_of, report_answer, solution, solve_answer}
use Rattle.job.specs.Checks.{declined}
use Rattle.job.specs.Histories.{Solve, changed, loaded, next}
use Rattle.job.specs.Lent.{kept_text, text_left}
use Rattle.job.specs.States.{State, begun, keeping}
use Rattle.job.specs.Text.{report}
use Rattle.job.specs.Texts.{program_of}
use Rattle.job.proofs.Plainly.{with_no_bars}
use Rattle.job.proofs.Solving.{as_solution, solve_is}
use Rattle.console.specs.Prints.{report_or_refusal, reported}

-- where a reading is granted, there is a program
granted : (r : Result Program Refusal) (a : Answer) → Ok a ≡ told answer.Places (places_of r) → (p : Program) × (r ≡ Ok p)
granted (Ok p) a e = (p, refl)
granted (Err w) a e = let no : ⊥ = cc in absurd no

-- where a solving is refused, so is the search, for the same reason; where it is granted, there is a set
search_refused : (r : Result Placement Reason) (e : Refusal) → Err e ≡ told answer.Solved (as_solution r) → (why : Reason) × (r ≡ Err why) × (e ≡ declined why)
search_refused (Ok set) e is = let no : ⊥ = cc in absurd no
search_refused (Err why) e is = let same : e ≡ declined why = cc in (why, refl, same)

search_granted : (r : Result Placement Reason) (a : Answer) → Ok a ≡ told answer.Solved (as_solution r) → (set : Placement) × (r ≡ Ok set)
search_granted (Ok set) a e = (set, refl)
search_granted (Err why) a e = let no : ⊥ = cc in absurd no

by_number : {x y : ℕ} (r : Result Answer Refusal) → r ≡ Ok (answer.Reported x) → r ≡ Ok (answer.Reported y) → x ≡ y
by_number r e f = cc

module _ (text : List ℕ) (rows : ℕ) where
  abbrev searched : Program → Result Placement Reason
  searched p = least_placed p (buffered p) rows (first_places (places p))

  solve_of : (p : Program) → solve_answer buffered (Some (begun p)) rows ≡ as_solution (searched p)
  solve_of p = solve_is buffered (begun p) rows ∙ ap (λ u. as_solution (least_placed p (buffered p) rows u)) (with_no_bars (first_places (places p)))

  -- where the job keeps the least set
  by_set : (p : Program) (set : Placement) → program_of text ≡ Ok p → searched p ≡ Ok set → (then : State) {n : ℕ} {now : List ℕ} (out : List ℕ) → then ≡ Some (keeping (solution set.mask) (begun p)) → 512 ≤ length out
      → Ok (answer.Reported n) ≡ told answer.Reported (report_answer then (length out)) → now ≡ text_left (report_answer then (length out)) (kept_text then) out
      → (Ok n, now) ≡ reported (report_or_refusal text rows) out
  by_set p set is found then {n = n} out then_is long reporting now_is =
      let enough : nat_lt (length out) 512 ≡ false = le-ltb _ _ long in
      let report_is : report_answer then (length out) ≡ Ok (length (report p (solution set.mask))) = rw (then_is, enough) refl in
      let n_is : n ≡ length (report p (solution set.mask)) = by_number (told answer.Reported (report_answer then (length out))) (sym reporting) (ap (told answer.Reported) report_is) in
      rw (now_is, report_is, then_is, n_is, is, found) refl

  -- after a reading was granted
  module _ {a : Answer} {s : State} (read : Ok a ≡ told answer.Places (places_of (program_of text))) (held : s ≡ loaded (program_of text) None) where
    abbrev p : Program
    p = (granted (program_of text) a read).0

    is : program_of text ≡ Ok p
    is = (granted (program_of text) a read).1

    held_is : s ≡ Some (begun p)
    held_is = held ∙ ap (λ r. loaded r None) is

    answer_is : solve_answer buffered s rows ≡ as_solution (searched p)
    answer_is = ap (λ x. solve_answer buffered x rows) held_is ∙ solve_of p

    -- where the solving is refused
    pub refused : {e : Refusal} {r : Result ℕ Refusal} {out now : List ℕ} → Err e ≡ told answer.Solved (solve_answer buffered s rows) → r ≡ Err e → now ≡ out → (r, now) ≡ reported (report_or_refusal text rows) out
    refused {e = e} {out = out} solve r_is same =
        let why = search_refused (searched p) e (solve ∙ ap (told answer.Solved) answer_is) in
        rw (r_is, same, is, why.1) (ap (λ x. (Err x, out)) why.2)

    -- where it is granted, and the report is written
    pub written : {b : Answer} {then : State} {n : ℕ} {now : List ℕ} (out : List ℕ) → Ok b ≡ told answer.Solved (solve_answer buffered s rows) → then ≡ next buffered s (Solve rows) → 512 ≤ length out
        → Ok (answer.Reported n) ≡ told answer.Reported (report_answer then (length out)) → now ≡ text_left (report_answer then (length out)) (kept_text then) out
        → (Ok n, now) ≡ reported (report_or_refusal text rows) out
    written {b = b} {then = then} out solve kept long reporting now_is =
        let set = search_granted (searched p) b (solve ∙ ap (told answer.Solved) answer_is) in
        let k = solution set.0.mask in
        let ok : solve_answer buffered s rows ≡ Ok k = answer_is ∙ ap as_solution set.1 in
        let then_is : then ≡ Some (keeping k (begun p)) = kept ∙ (ap (λ r. changed r keeping s) ok ∙ ap (option_map (keeping k)) held_is) in
        by_set p set.0 is set.1 then out then_is long reporting now_is
