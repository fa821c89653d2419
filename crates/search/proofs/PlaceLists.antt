-- The list of the places of a set rises, it holds just those, and what it begins with is the lowest. Nothing is assumed.
use Rattle.std.proofs.Common.{◌≡◌, ℕ, zero, suc, ◌+◌, ◌^◌, ◌<◌, ◌≤◌, Bool, true, false, [], ◌∷◌, Contains, AllPairs, filter, cond, eqb, Some, None, refl, sym, ap, ap₂, ◌∙◌, ⊎_elim, div-one, div-mul-le_self, arith}
use Rattle.std.proofs.lemmas.Bool.{cond-true, cond-false, cases_eq, eqb-true}
use Rattle.std.proofs.lemmas.Bool.Decides.{nat_tests}
use Rattle.std.proofs.lemmas.List.Elements.{All-contains, filter_passes}
use Rattle.std.proofs.lemmas.List.FromFn.{length-range_with_len, get_or-range_with_len}
use Rattle.std.proofs.lemmas.List.Kept.{AllPairs-filter}
use lib.Count.{count_trailing_zeros}
use Rattle.std.specs.List.{range_with_len}
use Rattle.machines.proofs.Masks.{has_low}
use Rattle.machines.proofs.Sets.{set_laws}
use Rattle.machines.specs.Places.{has, from_place, lowest, places_in}
use Rattle.search.proofs.Lists.{kept}

pub places_rise : (u n : ℕ) → AllPairs ◌<◌ (places_in u n)
unfolding places_in
places_rise u n =
    AllPairs-filter ◌<◌ (has u) (range_with_len 0 n)
    (λ i j d lt under. omega (arith, length-range_with_len 0 n, get_or-range_with_len 0 n i d, get_or-range_with_len 0 n j d))

pub place_of : (u n q : ℕ) → Contains (places_in u n) q → has u q ≡ true
unfolding places_in
place_of u n q c = All-contains (λ p. has u p ≡ true) _ q (filter_passes (has u) (range_with_len 0 n)) c

pub of_place : (u q : ℕ) → u < 2 ^ 32 → has u q ≡ true → Contains (places_in u 32) q
unfolding places_in
of_place u q small h =
    let low = has_low u q small h in
    kept (has u) (range_with_len 0 32) q (q, omega (arith, low, length-range_with_len 0 32), get_or-range_with_len 0 32 q q low ∙ omega arith) h

pub from_first : (u : ℕ) → from_place u 0 ≡ u
from_first u = omega (arith, div-one u)

pub no_place : (u : ℕ) → lowest u ≡ None → places_in u 32 ≡ []
unfolding places_in
no_place u e = by (eqb u 0) refl e
  where
    by : (b : Bool) → eqb u 0 ≡ b → cond b None (Some (count_trailing_zeros 32 u)) ≡ None → filter (has u) (range_with_len 0 32) ≡ []
    by true h e = ap (λ s. filter (has s) (range_with_len 0 32)) (eqb-true u 0 h)
    by false h e = absurd (cc)

-- what two tests keep that agree past p: the same of what is past it, and p itself by the one that it is the first to pass
module _ (f g : ℕ → Bool) (p : ℕ) (past : (q : ℕ) → p < q → f q ≡ g q) where
  same_past : (n a : ℕ) → p < a → filter f (range_with_len a n) ≡ filter g (range_with_len a n)
  same_past zero a l = refl
  same_past (suc n) a l = rw (past a l, same_past n (a + 1) (omega arith)) refl

  first_kept : f p ≡ true → ((q : ℕ) → q < p → f q ≡ false) → ((q : ℕ) → q ≤ p → g q ≡ false)
      → (n a : ℕ) → a ≤ p → p < a + n → filter f (range_with_len a n) ≡ p ∷ filter g (range_with_len a n)
  first_kept here before none zero a low high = absurd (omega arith)
  first_kept here before none (suc n) a low high =
      ⊎_elim
      (λ e. cond-true (f a) _ _ (ap f e ∙ here) ∙ ap₂ (λ x l. x ∷ l) e (same_past n (a + 1) (omega arith)))
      (λ other. cond-false (f a) _ _ (before a (omega (arith, other))) ∙ first_kept here before none n (a + 1) (omega (arith, other)) (omega arith))
      (cases_eq a p)
      ∙ ap (λ l. p ∷ l) (sym (cond-false (g a) _ _ (none a low)))

pub next_place : (u n p : ℕ) → u < 2 ^ 32 → lowest (from_place u n) ≡ Some p → places_in (from_place u n) 32 ≡ p ∷ places_in (from_place u (p + 1)) 32
unfolding places_in
next_place u n p small e =
    let rest = from_place u n in
    let under : rest < 2 ^ 32 = omega (arith, div-mul-le_self u (2 ^ n)) in
    let low = (set_laws.lowest rest p under).0 e in
    first_kept (has rest) (has (from_place u (p + 1))) p
    (λ q l. grind (arith, nat_tests, set_laws.from u n p, set_laws.from u n q, set_laws.from u (p + 1) q, low.0)) low.0 low.1
    (λ q l. grind (arith, nat_tests, set_laws.from u (p + 1) q)) 32 0 (omega arith) (has_low rest p under low.0)
