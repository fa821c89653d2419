-- What `solve` decides, where the rows suffice. Nothing is assumed.
use Rattle.std.proofs.Common.{◌≡◌, ◌↔◌, ℕ, Bool, true, false, not, true≢false, List, [], ◌∷◌, Some, None, Option, is_none, unwrap_or, Err, Result, refl, sym, ap, subst, ◌∙◌}
use Rattle.listing.specs.declared.program.Program.{Program}
use Rattle.listing.specs.declared.refusal.Refusal.{Refusal}
use Rattle.listing.specs.declared.refusal.Reason.TheVariants.{NoneEnough, TooFewRows}
use Rattle.listing.specs.Code.{places}
use Rattle.machines.specs.Laws.{Lawful}
use Rattle.machines.specs.Machines.{Meaning}
use Rattle.machines.specs.Places.{first_places, outside}
use Rattle.machines.specs.Unbuffered.{unbuffered}
use Rattle.search.specs.Enough.{fits}
use Rattle.search.specs.Faults.{FaultRun, TooMany}
use Rattle.search.proofs.Placing.{placing}
use Rattle.search.proofs.Rounding.{fitting}
use Rattle.job.specs.declared.solution.Solution.{Solution}
use Rattle.job.specs.Answers.{least_set, solution, solve_answer}
use Rattle.job.specs.Checks.{declined, unless_refused}
use Rattle.job.specs.Histories.{Solve, changed, next}
use Rattle.job.specs.Promises.{Breakable, Decided}
use Rattle.job.specs.States.{Held, State, keeping, open_places}
use Rattle.job.proofs.Keeping.{open_small}
use Rattle.job.proofs.Plainly.{plainly, with_no_bars}

module _ {S : Type 0} (M : Program → Meaning S) (h : Held) (l : Lawful h.program (M h.program)) (n : ℕ) where
  abbrev u : ℕ
  u = open_places h

  abbrev answer : Bool → Option ℕ → Result Solution Refusal
  answer b o = unless_refused ((TooFewRows, not b) ∷ (NoneEnough, is_none o) ∷ []) (solution (unwrap_or o 0))

  abbrev then : Bool → Option ℕ → State
  then b o = changed (answer b o) keeping (Some h)

  -- with nothing barred
  no_bars : (r : Result Solution Refusal) → (r ≡ Err (declined NoneEnough)) ↔ Breakable M h.program u → h.barred.mask ≡ 0
      → (r ≡ Err (declined NoneEnough)) ↔ ((ns : List ℕ) × FaultRun h.program (unbuffered h.program) ns)
  no_bars r both none =
      let all : u ≡ first_places (places h.program) = ap (outside (first_places (places h.program))) none ∙ with_no_bars _ in
      let plain = plainly h.program (M h.program) l in
      (λ e. plain.0 (subst (Breakable M h.program) all (both.0 e)), λ f. both.1 (subst (Breakable M h.program) (sym all) (plain.1 f)))

  of_cases : (b : Bool) (o : Option ℕ) → fits (M h.program) n ≡ b → least_set M n h ≡ o → b ≡ true → Decided M h (answer b o) (then b o)
  of_cases false o fit is b = absurd (true≢false (sym b))
  of_cases true None fit is b =
      let p = placing h.program l in
      let both : (answer true None ≡ Err (declined NoneEnough)) ↔ Breakable M h.program u = (λ e. (p.none n u fit (open_small h)).0 is, λ f. refl) in
      record { none = both; best = λ ne. absurd (ne refl); only = p.only u; without_bars = no_bars (answer true None) both }
  of_cases true (Some set) fit is b =
      let p = placing h.program l in
      let both : (answer true (Some set) ≡ Err (declined NoneEnough)) ↔ Breakable M h.program u =
      (λ e. let no : ⊥ = cc in absurd no, λ f. let none = (p.none n u fit (open_small h)).1 f in let no : ⊥ = cc in absurd no) in
      record {
        none = both;
        best = λ ne. (solution set, refl, (p.best n u set fit (open_small h)).0 is, refl, refl);
        only = p.only u;
        without_bars = no_bars (answer true (Some set)) both;
      }

  suffices : (b : Bool) → fits (M h.program) n ≡ b → (TooMany (M h.program) n → ⊥) → b ≡ true
  suffices true e few = refl
  suffices false e few = absurd (few (((fitting l).too_few n).0 e))

  pub decided : (TooMany (M h.program) n → ⊥) → Decided M h (solve_answer M (Some h) n) (next M (Some h) (Solve n))
  decided few = of_cases (fits (M h.program) n) (least_set M n h) refl refl (suffices _ refl few)
