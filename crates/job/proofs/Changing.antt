-- What each call changes. Nothing is assumed.
use Rattle.std.proofs.Common.{◌≡◌, ◌≢◌, ◌↔◌, inl, inr, ⊎_elim, ℕ, Bool, true, false, true≢false, not, eqb, Some, option_map, Ok, Err, Result, refl, sym, ap, ◌∙◌}
use Rattle.std.proofs.lemmas.Bool.{and_parts, and_from, eqb-true, eq-eqb, ltb-true, lt-ltb}
use Rattle.listing.specs.declared.program.Program.{Program}
use Rattle.listing.specs.declared.refusal.Refusal.{Refusal}
use Rattle.listing.specs.Code.{places}
use Rattle.machines.specs.Machines.{Meaning}
use Rattle.machines.specs.Places.{has, adding, removing, first_places}
use Rattle.machines.proofs.Sets.{set_laws}
use Rattle.job.specs.Answers.{bar_answer, free_answer, solve_answer}
use Rattle.job.specs.Changes.{Changes, OpenPlaces, Seen}
use Rattle.job.specs.Histories.{changed, loaded}
use Rattle.job.specs.States.{Held, State, barring, begun, keeping}
use Rattle.job.proofs.Listed.{more}

not_true : (b : Bool) → not b ≡ true → b ≡ false
not_true true e = absurd (true≢false (sym e))
not_true false e = refl

pub opened : OpenPlaces
opened h q =
    let all = first_places (places h.program) in
    let in_all = set_laws.first (places h.program) q in
    let out = set_laws.outside all h.barred.mask q in (
      λ is. let parts = and_parts (has all q) (not (has h.barred.mask q)) (sym out ∙ is) in (ltb-true _ _ (sym in_all ∙ parts.0), not_true _ parts.1),
      λ is. out ∙ and_from (has all q) (not (has h.barred.mask q)) (in_all ∙ lt-ltb _ _ is.0) (ap not is.1),
    )

pub seen : Seen
seen = record { barred = λ h q. refl; kept = λ h. refl; nothing_barred = set_laws.empty; nothing_kept = refl }

-- what is in a set with one place less
less : (s p q : ℕ) → (has (removing s p) q ≡ true) ↔ ((has s q ≡ true) × (q ≢ p))
less s p q = (
  λ h. let parts = and_parts (has s q) (not (eqb p q)) (sym (set_laws.removing s p q) ∙ h) in
      (parts.0, λ same. true≢false (sym (eq-eqb p q (sym same)) ∙ not_true _ parts.1)),
  λ h. set_laws.removing s p q ∙ and_from (has s q) (not (eqb p q)) h.0 (ap not (other (eqb p q) (eqb-true p q) h.1)),
)
  where
    other : (b : Bool) → (b ≡ true → p ≡ q) → q ≢ p → b ≡ false
    other true same ne = absurd (ne (sym (same refl)))
    other false same ne = refl

module _ {S : Type 0} (M : Program → Meaning S) where
  of_change : {X : Type 0} (r : Result X Refusal) (x : X) (change : X → Held → Held) (s : State) (h : Held) → s ≡ Some h → r ≡ Ok x → changed r change s ≡ Some (change x h)
  of_change r x change s h is ok = ap (λ y. changed y change s) ok ∙ ap (option_map (change x)) is

  of_refusal : {X : Type 0} (r : Result X Refusal) (e : Refusal) (change : X → Held → Held) (s : State) → r ≡ Err e → changed r change s ≡ s
  of_refusal r e change s wrong = ap (λ y. changed y change s) wrong

  pub changes : (s : State) → Changes M s
  changes s = record {
    read = λ text p is. record { held = begun p; is = ap (λ r. loaded r s) is; program = refl; none_barred = set_laws.empty; none_kept = refl };
    bar = λ h q is ok. record {
      held = barring (adding h.barred.mask q) h;
      is = of_change (bar_answer s q) tt _ s h is ok;
      program = refl;
      barred = λ x. (λ b. ⊎_elim (λ old. inl old) (λ same. inr (sym same)) ((more h.barred.mask q x).0 b), λ b. (more h.barred.mask q x).1 (⊎_elim (λ old. inl old) (λ same. inr (sym same)) b));
      none_kept = refl;
    };
    free = λ h q is ok. record {
      held = barring (removing h.barred.mask q) h;
      is = of_change (free_answer s q) tt _ s h is ok;
      program = refl;
      barred = less h.barred.mask q;
      none_kept = refl;
    };
    solve = λ h rows k is ok. record { held = keeping k h; is = of_change (solve_answer M s rows) k keeping s h is ok; program = refl; barred = λ q. refl; kept = refl };
    read_refused = λ text e wrong. ap (λ r. loaded r s) wrong;
    bar_refused = λ q e wrong. of_refusal (bar_answer s q) e _ s wrong;
    free_refused = λ q e wrong. of_refusal (free_answer s q) e _ s wrong;
    solve_refused = λ rows e wrong. of_refusal (solve_answer M s rows) e keeping s wrong;
    test = λ qs rows run. refl;
    show = λ q rows run. refl;
    plain = λ rows run. refl;
  }
