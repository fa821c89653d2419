-- What `show` gives of a kept place. Nothing is assumed.
use Rattle.std.proofs.Common.{◌≡◌, inl, inr, ℕ, Bool, true, false, not, nat_lt, [], ◌∷◌, length, Some, refl, sym, subst, ◌∙◌}
use Rattle.std.proofs.lemmas.Bool.{and_parts}
use Rattle.listing.specs.declared.program.Program.{Program}
use Rattle.listing.specs.declared.refusal.Reason.TheVariants.{PlaceMissing, RunListTooShort, NoPlacement, PlaceNotKept, TooFewRows}
use Rattle.listing.specs.Code.{places}
use Rattle.listing.specs.Reading.{told}
use Rattle.machines.specs.Laws.{Lawful}
use Rattle.machines.specs.Machines.{Meaning}
use Rattle.machines.specs.Places.{has, first_places, removing}
use Rattle.machines.proofs.Sets.{set_laws}
use Rattle.search.specs.Answers.{Breaks}
use Rattle.search.specs.Enough.{fits, rows_lent}
use Rattle.job.specs.declared.solution.Solution.{Solution}
use Rattle.job.specs.Answers.{Verdict, RunIs, show_verdict, others}
use Rattle.job.specs.Checks.{unless_refused}
use Rattle.job.specs.Lent.{Lent, search_left}
use Rattle.job.specs.Promises.{Reveals, Shown}
use Rattle.job.specs.States.{Held}
use Rattle.job.proofs.Keeping.{Solved, best}
use Rattle.job.proofs.Needed.{run_past}

module _ {S : Type 0} (M : Program → Meaning S) {h : Held} {k : Solution} (l : Lawful h.program (M h.program)) (s : Solved M h k) (kept : h.kept ≡ Some k) (q : ℕ) (is : has k.places.mask q ≡ true) where
  abbrev rest : ℕ
  rest = removing k.places.mask q

  -- a kept place is open, so it is one of the program's
  there : nat_lt q (places h.program) ≡ true
  there =
      let in_open = (best M l s).is_open q is in
      sym (set_laws.first (places h.program) q) ∙ (and_parts (has (first_places (places h.program)) q) _ (sym (set_laws.outside (first_places (places h.program)) h.barred.mask q) ∙ in_open)).0

  abbrev verdict : Bool → Bool → Verdict
  verdict short fit = unless_refused ((PlaceMissing, false) ∷ (RunListTooShort, short) ∷ (NoPlacement, false) ∷ (PlaceNotKept, false) ∷ (TooFewRows, not fit) ∷ []) false

  verdict_is : (n long : ℕ) → show_verdict M (Some h) q n long ≡ verdict (nat_lt long n) (fits (M h.program) n)
  verdict_is n long = rw (there, kept, is) refl

  given_by : (n : ℕ) (short fit : Bool) (old free : Lent S) → RunIs (verdict short fit) (Some h) M n (λ x. others x.kept q) free.run
      → Reveals M h rest old.run free.run (told (λ _. length free.run) (verdict short fit), Some h, search_left (verdict short fit) old free)
  given_by n true fit old free run = inl refl
  given_by n false false old free run = inr (inl refl)
  given_by n false true old free run =
      let b : Breaks h.program (M h.program) n rest free.run = subst (λ o. Breaks h.program (M h.program) n (others o q) free.run) kept (run refl) in
      inr (inr (b.fault, b.keeps, refl, refl))

  pub shown : Shown M (Some h) h k q
  shown = record {
    needed = run_past M l s q is;
    given = λ old free run.
        let n = rows_lent old.rows old.notes in
        let e = verdict_is n (length old.run) in
        subst (λ v. Reveals M h rest old.run free.run (told (λ _. length free.run) v, Some h, search_left v old free)) (sym e)
        (given_by n (nat_lt (length old.run) n) (fits (M h.program) n) old free (subst (λ v. RunIs v (Some h) M n (λ x. others x.kept q) free.run) e run));
  }
