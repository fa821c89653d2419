-- What the answers of `test` and `plain` mean. Nothing is assumed.
use Rattle.std.proofs.Common.{◌≡◌, ℕ, Bool, true, false, true≢false, not, nat_lt, List, [], ◌∷◌, Some, None, Option, is_none, unwrap_or, Ok, refl, sym, subst, ◌∙◌}
use Rattle.listing.specs.declared.program.Program.{Program}
use Rattle.listing.specs.declared.refusal.Reason.TheVariants.{PlaceMissing, RunListTooShort, TooFewRows}
use Rattle.machines.specs.Laws.{Lawful}
use Rattle.machines.specs.Machines.{Meaning}
use Rattle.machines.specs.Places.{has}
use Rattle.machines.specs.Unbuffered.{unbuffered}
use Rattle.machines.specs.lawful.Machines.{unbuffered_is_lawful}
use Rattle.machines.proofs.Sets.{set_laws}
use Rattle.search.specs.Enough.{fits, enough}
use Rattle.search.specs.Faults.{FaultRun}
use Rattle.search.proofs.Testing.{fault_found, testing}
use Rattle.job.specs.Answers.{test_verdict, plain_verdict}
use Rattle.job.specs.Checks.{set_of, unless_refused}
use Rattle.job.specs.States.{Held, State}
use Rattle.job.specs.Verdicts.{CrossesNone, Verdicts}
use Rattle.job.proofs.Listed.{has_these}

-- a verdict that is given comes of a set, where the rows suffice
pub granted : (o : Option ℕ) (short fit : Bool) (verdict : ℕ → Bool) (b : Bool) → unless_refused ((PlaceMissing, is_none o) ∷ (RunListTooShort, short) ∷ (TooFewRows, not fit) ∷ []) (verdict (unwrap_or o 0)) ≡ Ok b
    → (set : ℕ) × (o ≡ Some set) × (fit ≡ true) × (verdict set ≡ b)
granted None short fit verdict b e = let no : ⊥ = cc in absurd no
granted (Some set) true fit verdict b e = let no : ⊥ = cc in absurd no
granted (Some set) false false verdict b e = let no : ⊥ = cc in absurd no
granted (Some set) false true verdict b e = let same : verdict set ≡ b = cc in (set, refl, refl, same)

plainly : (short fit b c : Bool) → unless_refused ((RunListTooShort, short) ∷ (TooFewRows, not fit) ∷ []) c ≡ Ok b → (fit ≡ true) × (c ≡ b)
plainly true fit b c e = let no : ⊥ = cc in absurd no
plainly false false b c e = let no : ⊥ = cc in absurd no
plainly false true b c e = let same : c ≡ b = cc in (refl, same)

not_held : (b : Bool) → (b ≡ true → ⊥) → b ≡ false
not_held true none = absurd (none refl)
not_held false none = refl

module _ {S : Type 0} (M : Program → Meaning S) (lawful : (p : Program) → Lawful p (M p)) (h : Held) where
  abbrev p : Program
  p = h.program

  enough_of : (qs : List ℕ) (rows run : ℕ) → test_verdict M (Some h) qs rows run ≡ Ok true → (ns : List ℕ) → FaultRun p (M p) ns → CrossesNone (M p) ns qs → ⊥
  enough_of qs rows run e ns fault none =
      let g = granted (set_of p qs) (nat_lt run rows) (fits (M p) rows) (enough p (M p) rows) true e in
      (testing p (lawful p) rows g.0 g.2).0 g.3 ns fault (λ q crossed. not_held (has g.0 q) (λ is. none q crossed ((has_these p qs g.0 g.1 q).0 is)))

  breaks_of : (qs : List ℕ) (rows run : ℕ) → test_verdict M (Some h) qs rows run ≡ Ok false → (ns : List ℕ) × FaultRun p (M p) ns × CrossesNone (M p) ns qs
  breaks_of qs rows run e =
      let g = granted (set_of p qs) (nat_lt run rows) (fits (M p) rows) (enough p (M p) rows) false e in
      let found = fault_found p (lawful p) rows g.0 g.3 in
      (found.0, found.1, λ q crossed listed. true≢false (sym ((has_these p qs g.0 g.1 q).1 listed) ∙ found.2 q crossed))

  free_of : (rows run : ℕ) → plain_verdict (Some h) rows run ≡ Ok true → (ns : List ℕ) → FaultRun p (unbuffered p) ns → ⊥
  free_of rows run e ns fault =
      let g = plainly (nat_lt run rows) (fits (unbuffered p) rows) true (enough p (unbuffered p) rows 0) e in
      (testing p (unbuffered_is_lawful p) rows 0 g.0).0 g.1 ns fault (λ q crossed. set_laws.empty q)

  faulty_of : (rows run : ℕ) → plain_verdict (Some h) rows run ≡ Ok false → (ns : List ℕ) × FaultRun p (unbuffered p) ns
  faulty_of rows run e =
      let g = plainly (nat_lt run rows) (fits (unbuffered p) rows) false (enough p (unbuffered p) rows 0) e in
      let found = fault_found p (unbuffered_is_lawful p) rows 0 g.1 in
      (found.0, found.1)

pub verdicts : {S : Type 0} (M : Program → Meaning S) → ((p : Program) → Lawful p (M p)) → (s : State) → Verdicts M s
verdicts M lawful s = record {
  enough = λ h qs rows run is e. enough_of M lawful h qs rows run (subst (λ x. test_verdict M x qs rows run ≡ Ok true) is e);
  breaks = λ h qs rows run is e. breaks_of M lawful h qs rows run (subst (λ x. test_verdict M x qs rows run ≡ Ok false) is e);
  plain_free = λ h rows run is e. free_of M lawful h rows run (subst (λ x. plain_verdict x rows run ≡ Ok true) is e);
  plain_faulty = λ h rows run is e. faulty_of M lawful h rows run (subst (λ x. plain_verdict x rows run ≡ Ok false) is e);
}
