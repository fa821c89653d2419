-- Each kept place is needed: some fault run keeps to the others. Nothing is assumed.
use Rattle.std.proofs.Common.{◌≡◌, ℕ, Bool, true, false, true≢false, nat_lt, Some, None, Option, is_none, IsSome, Ok, Err, if◌then◌else◌, refl, sym, ◌∙◌, arith, List}
use Rattle.std.proofs.lemmas.Bool.{and_parts}
use Rattle.listing.specs.declared.program.Program.{Program}
use Rattle.listing.specs.declared.refusal.Reason.TheVariants.{RunListTooShort, TooFewRows}
use Rattle.machines.specs.Laws.{Lawful}
use Rattle.machines.specs.Machines.{Meaning}
use Rattle.machines.specs.Places.{has, removing}
use Rattle.machines.proofs.Masks.{fewer_without}
use Rattle.machines.proofs.Sets.{set_laws}
use Rattle.search.specs.Answers.{tested}
use Rattle.search.specs.Enough.{fits, enough}
use Rattle.search.specs.Faults.{Enough, FaultRun, KeepsTo}
use Rattle.search.specs.Least.{Within}
use Rattle.search.proofs.Testing.{fault_found, testing}
use Rattle.job.specs.declared.solution.Solution.{Solution}
use Rattle.job.specs.States.{Held, open_places}
use Rattle.job.proofs.Keeping.{Solved, best}

part_within : (s q u : ℕ) → Within s u → Within (removing s q) u
part_within s q u within p held = within p (and_parts (has s p) _ (sym (set_laws.removing s q p) ∙ held)).0

module _ {S : Type 0} (M : Program → Meaning S) {h : Held} {k : Solution} (l : Lawful h.program (M h.program)) (s : Solved M h k) (q : ℕ) (is : has k.places.mask q ≡ true) where
  abbrev rest : ℕ
  rest = removing k.places.mask q

  -- else it would be a smaller rival
  pub not_enough : Enough h.program (M h.program) rest → ⊥
  not_enough e =
      let b = best M l s in
      omega (arith, b.fewest rest (part_within k.places.mask q (open_places h) b.is_open) e, fewer_without k.places.mask q is)

  pub breaks : (n : ℕ) → fits (M h.program) n ≡ true → enough h.program (M h.program) n rest ≡ false
  breaks n fit = of_test (enough h.program (M h.program) n rest) refl
    where
      of_test : (b : Bool) → enough h.program (M h.program) n rest ≡ b → enough h.program (M h.program) n rest ≡ false
      of_test true e = absurd (not_enough ((testing h.program l n rest fit).0 e))
      of_test false e = e

  pub run_past : (ns : List ℕ) × FaultRun h.program (M h.program) ns × KeepsTo (M h.program) ns rest
  run_past = fault_found h.program l s.rows rest (breaks s.rows s.fit)

  -- a test of the others never answers that they are enough
  pub written : (n long : ℕ) (run : Option ℕ) → Ok (is_none run) ≡ tested h.program (M h.program) n long rest → IsSome run
  written n long run e = of_cases (nat_lt long n) (fits (M h.program) n) (enough h.program (M h.program) n rest) (breaks n) e
    where
      of_cases : (short fit suffices : Bool) → (fit ≡ true → suffices ≡ false) → Ok (is_none run) ≡ (if short then Err RunListTooShort else (if fit then Ok suffices else Err TooFewRows)) → IsSome run
      of_cases true fit suffices b e = let no : ⊥ = cc in absurd no
      of_cases false false suffices b e = let no : ⊥ = cc in absurd no
      of_cases false true suffices b e = some run (let same : is_none run ≡ suffices = cc in same ∙ b refl)
        where
          some : (o : Option ℕ) → is_none o ≡ false → IsSome o
          some None e = absurd (true≢false e)
          some (Some x) e = refl
