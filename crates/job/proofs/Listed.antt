-- The set of some places has these and no others. Nothing is assumed.
use Rattle.std.proofs.Common.{◌≡◌, ◌↔◌, ◌⊎◌, inl, inr, ⊎_elim, ℕ, zero, suc, Bool, true, false, true≢false, ◌||◌, eqb, nat_lt, List, [], ◌∷◌, Contains, Some, None, if◌then◌else◌, refl, sym, ap, ◌∙◌, arith}
use Rattle.std.proofs.lemmas.Bool.{eqb-true, eq-eqb}
use Rattle.listing.specs.Code.{places}
use Rattle.machines.specs.Places.{has, adding}
use Rattle.machines.proofs.Sets.{set_laws}
use Rattle.job.specs.Checks.{HasThese, set_within}

-- an element of a list with one more in front
pub in_front : (x : ℕ) (xs : List ℕ) (q : ℕ) → Contains (x ∷ xs) q → (x ≡ q) ⊎ Contains xs q
in_front x xs q (zero, lt, is) = inl is
in_front x xs q (suc k, lt, is) = inr (k, omega arith, is)

pub behind : (x : ℕ) (xs : List ℕ) (q : ℕ) → Contains xs q → Contains (x ∷ xs) q
behind x xs q (k, lt, is) = (suc k, omega arith, is)

-- what is in a set with one place more
pub more : (s p q : ℕ) → (has (adding s p) q ≡ true) ↔ ((has s q ≡ true) ⊎ (p ≡ q))
more s p q = (λ h. parts (has s q) (eqb p q) (eqb-true p q) (sym (set_laws.adding s p q) ∙ h), λ h. set_laws.adding s p q ∙ either (has s q) (eqb p q) (eq-eqb p q) h)
  where
    parts : (a b : Bool) → (b ≡ true → p ≡ q) → (a || b) ≡ true → (a ≡ true) ⊎ (p ≡ q)
    parts true b same h = inl refl
    parts false b same h = inr (same h)

    either : (a b : Bool) → (p ≡ q → b ≡ true) → (a ≡ true) ⊎ (p ≡ q) → (a || b) ≡ true
    either true b same h = refl
    either false b same (inl h) = absurd (true≢false (sym h))
    either false b same (inr h) = same h

module _ (n q : ℕ) where
  abbrev Held : ℕ → List ℕ → Type 0
  Held s qs = (has s q ≡ true) ⊎ Contains qs q

  of_first : (s p set : ℕ) (qs : List ℕ) (b : Bool) → (set_within n (adding s p) qs ≡ Some set → (has set q ≡ true) ↔ Held (adding s p) qs)
      → (if b then set_within n (adding s p) qs else None) ≡ Some set → (has set q ≡ true) ↔ Held s (p ∷ qs)
  of_first s p set qs false rest e = let no : ⊥ = cc in absurd no
  of_first s p set qs true rest e =
      let both = rest e in (
        λ h. ⊎_elim (λ here. ⊎_elim (λ old. inl old) (λ same. inr (0, omega arith, same)) ((more s p q).0 here)) (λ later. inr (behind p qs q later)) (both.0 h),
        λ h. both.1 (⊎_elim (λ old. inl ((more s p q).1 (inl old))) (λ listed. ⊎_elim (λ same. inl ((more s p q).1 (inr same))) (λ later. inr later) (in_front p qs q listed)) h),
      )

  within : (s set : ℕ) (qs : List ℕ) → set_within n s qs ≡ Some set → (has set q ≡ true) ↔ Held s qs
  within s set [] e = let same : s ≡ set = cc in (λ h. inl (ap (λ t. has t q) same ∙ h), λ h. ⊎_elim (λ old. ap (λ t. has t q) (sym same) ∙ old) (λ none. absurd (omega (arith, none.1))) h)
  within s set (p ∷ qs) e = of_first s p set qs (nat_lt p n) (within (adding s p) set qs) e

pub has_these : HasThese
has_these p qs set e q =
    let both = within (places p) q 0 set qs e in
    (λ h. ⊎_elim (λ old. absurd (true≢false (sym old ∙ set_laws.empty q))) (λ listed. listed) (both.0 h), λ listed. both.1 (inr listed))
