-- A call that is refused by the first of its checks that applies is refused by the lowest number that applies, where its checks stand
-- in the order of the numbers. Nothing is assumed.
use Rattle.std.proofs.Common.{◌≡◌, ◌↔◌, ◌⊎◌, inl, inr, ⊎_elim, ℕ, ◌<◌, ◌≤◌, Bool, true, false, true≢false, ◌&&◌, nat_lt, cond, eqb, List, [], ◌∷◌, Ok, Err, Result, refl, sym, ap, subst, ◌∙◌, arith}
use Rattle.std.proofs.lemmas.Bool.{and_parts, ltb-true}
use Rattle.listing.specs.declared.refusal.Reason.{Reason}
use Rattle.listing.specs.declared.refusal.Reason.TheVariants.{TextTooLong, ByteNotPermitted, NoForm, NumberOutOfRange, TooMany, Missing, TargetMissing, NoProgram, PlaceMissing, AlreadySo, RunListTooShort, NoPlacement, PlaceNotKept, TooFewRows, NoneEnough, BufferTooShort}
use Rattle.listing.specs.declared.refusal.Refusal.{Refusal}
use Rattle.listing.specs.Reasons.{number_of}
use Rattle.job.specs.Checks.{Checks, declined, unless_refused}
use Rattle.job.proofs.Applying.{ByReason}

-- the reason of a number
reason_in : List Reason → ℕ → Reason
reason_in [] n = BufferTooShort
reason_in (r ∷ rs) n = cond (eqb (number_of r) n) r (reason_in rs n)

abbrev all_reasons : List Reason
all_reasons = TextTooLong ∷ ByteNotPermitted ∷ NoForm ∷ NumberOutOfRange ∷ TooMany ∷ Missing ∷ TargetMissing ∷ NoProgram ∷ PlaceMissing ∷ AlreadySo ∷ RunListTooShort ∷ NoPlacement ∷ PlaceNotKept ∷ TooFewRows ∷ NoneEnough ∷ []

back : (r : Reason) → reason_in all_reasons (number_of r) ≡ r
unfolding reason_in
back TextTooLong = refl
back ByteNotPermitted = refl
back NoForm = refl
back NumberOutOfRange = refl
back TooMany = refl
back Missing = refl
back TargetMissing = refl
back NoProgram = refl
back PlaceMissing = refl
back AlreadySo = refl
back RunListTooShort = refl
back NoPlacement = refl
back PlaceNotKept = refl
back TooFewRows = refl
back NoneEnough = refl
back BufferTooShort = refl

-- reasons of one number are the same
pub same_reason : (a b : Reason) → number_of a ≡ number_of b → a ≡ b
same_reason a b e = sym (back a) ∙ (ap (reason_in all_reasons) e ∙ back b)

module _ {X : Type 0} where
  why_of : Reason → Result X Refusal → Reason
  why_of other (Ok x) = other
  why_of other (Err e) = e.reason

  declined_same : (a b : Reason) (r : Result X Refusal) → r ≡ Err (declined a) → r ≡ Err (declined b) → a ≡ b
  unfolding why_of
  declined_same a b r is e = ap (why_of a) (sym is ∙ e)

module _ {X : Type 0} (Applies : Reason → Type 0) where
  pub refused_by : (r : Reason) (answer : Result X Refusal) → answer ≡ Err (declined r) → Applies r → ((other : Reason) → Applies other → number_of r ≤ number_of other) → ByReason Applies answer
  refused_by r answer is applies lowest = record {
    refused = λ why. (
      λ e. let same : r ≡ why = declined_same r why answer is e in subst (λ x. Applies x × ((other : Reason) → Applies other → number_of x ≤ number_of other)) same (applies, lowest),
      λ a. is ∙ ap (λ x. Err (declined x)) (same_reason r why (omega (arith, lowest why a.0, a.1 r applies))),
    );
    granted = (λ g. let no : ⊥ = cc in absurd no, λ none. absurd (none r applies));
  }

  pub granted_by : (x : X) (answer : Result X Refusal) → answer ≡ Ok x → ((why : Reason) → Applies why → ⊥) → ByReason Applies answer
  granted_by x answer is none = record {
    refused = λ why. (λ e. let no : ⊥ = cc in absurd no, λ a. absurd (none why a.0));
    granted = (λ g. none, λ h. (x, is));
  }

-- a check for this reason applies
abbrev pub Raised : Checks → Reason → Type 0
Raised [] why = ⊥
Raised ((r, b) ∷ cs) why = ((r ≡ why) × (b ≡ true)) ⊎ Raised cs why

abbrev above : ℕ → Checks → Bool
above n [] = true
above n ((r, b) ∷ cs) = nat_lt n (number_of r) && above n cs

-- the checks stand in the order of their numbers
abbrev pub rising : Checks → Bool
rising [] = true
rising ((r, b) ∷ cs) = above (number_of r) cs && rising cs

later : (n : ℕ) (cs : Checks) (why : Reason) → above n cs ≡ true → Raised cs why → n < number_of why
later n [] why up raised = absurd raised
later n ((r, b) ∷ cs) why up raised =
    let parts = and_parts (nat_lt n (number_of r)) (above n cs) up in
    ⊎_elim (λ here. subst (λ x. n < number_of x) here.0 (ltb-true _ _ parts.0)) (λ more. later n cs why parts.1 more) raised

-- what applies may be said in other words
pub moved : {X : Type 0} (A B : Reason → Type 0) {answer : Result X Refusal} → ((why : Reason) → A why ↔ B why) → ByReason A answer → ByReason B answer
moved A B both l = record {
  refused = λ why. (
    λ e. let a = (l.refused why).0 e in ((both why).0 a.0, λ other b. a.1 other ((both other).1 b)),
    λ b. (l.refused why).1 ((both why).1 b.0, λ other a. b.1 other ((both other).0 a)),
  );
  granted = (λ g why b. (l.granted).0 g why ((both why).1 b), λ none. (l.granted).1 (λ why a. none why ((both why).0 a)));
}

by_lowest : {X : Type 0} (cs : Checks) (x : X) → rising cs ≡ true → ByReason (Raised cs) (unless_refused cs x)
by_lowest [] x up = granted_by (Raised []) x (Ok x) refl (λ why h. h)
by_lowest ((r, true) ∷ cs) x up =
    let parts = and_parts (above (number_of r) cs) (rising cs) up in
    refused_by (Raised ((r, true) ∷ cs)) r (Err (declined r)) refl (inl (refl, refl))
    (λ other raised. ⊎_elim (λ here. subst (λ y. number_of r ≤ number_of y) here.0 (omega arith)) (λ more. omega (arith, later (number_of r) cs other parts.0 more)) raised)
by_lowest ((r, false) ∷ cs) x up =
    let parts = and_parts (above (number_of r) cs) (rising cs) up in
    moved (Raised cs) (Raised ((r, false) ∷ cs)) (λ why. (λ h. inr h, λ h. ⊎_elim (λ here. absurd (true≢false (sym here.1))) (λ more. more) h)) (by_lowest cs x parts.1)

-- each check applies where its rule does, and each rule that applies has a check
pub lowest : {X : Type 0} (Applies : Reason → Type 0) (cs : Checks) (x : X) → rising cs ≡ true → ((why : Reason) → Raised cs why → Applies why) → ((why : Reason) → Applies why → Raised cs why)
    → ByReason Applies (unless_refused cs x)
lowest Applies cs x up sound complete = moved (Raised cs) Applies (λ why. (sound why, complete why)) (by_lowest cs x up)
