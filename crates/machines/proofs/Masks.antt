-- Which places a mask can hold. Nothing is assumed.
use Rattle.std.proofs.Common.{◌≡◌, ℕ, zero, suc, ◌+◌, ◌-◌, ◌*◌, ◌/◌, ◌%◌, ◌^◌, ◌<◌, ◌≤◌, Bool, true, false, cond, eqb, IfSome, Some, None, Option, sym, ⊎_elim, arith, bit_and, bit_xor, count_ones, ap, ◌∙◌, add-zero, eq-eqb, refl}
use native.Mathlib.Nat.{div-add-mod', pow-suc}
use lib.Bits.{and_mask, and_self, xor_add_and}
use lib.Count.{count_trailing_zeros, under, ones_step}
use Rattle.std.proofs.lemmas.Bool.{eqb-true, ne_eqb, cond-true, cond_both, both_ways, cases_lt}
use Rattle.std.proofs.lemmas.Nat.{and_assoc}
use Rattle.std.proofs.lemmas.Nat.Bits.{bit_at_lowest, bit_at-suc, bit_at-zero, bit_at_above, bit_at_cat_low}
use Rattle.std.specs.Int.{bit_at}
use Rattle.machines.specs.Places.{has, removing, from_place, lowest}

pub past_none : (s p : ℕ) → s < 2 ^ 32 → 32 ≤ p → has s p ≡ false
past_none s p small far = ne_eqb _ _ (λ e. omega (arith, bit_at_above s 32 p small far))

pub has_low : (s p : ℕ) → s < 2 ^ 32 → has s p ≡ true → p < 32
has_low s p small h = ⊎_elim (λ lt. lt) (λ far. absurd (both_ways (has s p) (past_none s p small far) h)) (cases_lt p 32)

pub has_within : (s p : ℕ) → has s p ≡ true → 2 ^ p ≤ s
has_within s p h = ⊎_elim (λ small. absurd (omega (arith, bit_at_above s p p small (omega arith), eqb-true _ _ h))) (λ le. le) (cases_lt s (2 ^ p))

-- what is left of a set without the places below n
pub past_below : (s n : ℕ) → bit_xor s (bit_and s (2 ^ n - 1)) ≡ from_place s n
past_below s n =
    let below = bit_and s (2 ^ n - 1) in
    let inside : bit_and s below ≡ below = sym (and_assoc (2 ^ n - 1) s s) ∙ ap (λ m. bit_and m (2 ^ n - 1)) (and_self s) in
    omega (arith, xor_add_and s below, inside, and_mask s n, div-add-mod' s (2 ^ n))

-- a set without one of its places has one less
fewer : (p s : ℕ) → s / 2 ^ p % 2 ≡ 1 → count_ones (s - 2 ^ p) + 1 ≡ count_ones s
fewer zero s h =
    let odd : s % 2 ≡ 1 = omega (arith, h) in
    let half : (s - 1) / 2 ≡ s / 2 = omega arith in
    omega (arith, ones_step s, ones_step (s - 1), ap count_ones half)
fewer (suc p) s h =
    let same : bit_at s (suc p) ≡ bit_at (s / 2) p = bit_at-suc s p in
    let within : 2 ^ suc p ≤ s = has_within s (suc p) (eq-eqb _ _ h) in
    let twice : 2 ^ suc p ≡ 2 ^ p * 2 = pow-suc 2 p in
    let half : (s - 2 ^ suc p) / 2 ≡ s / 2 - 2 ^ p = omega arith in
    omega (arith, ones_step s, ones_step (s - 2 ^ suc p), ap count_ones half, fewer p (s / 2) (sym same ∙ h))

pub removing_within : (s p : ℕ) → removing s p ≤ s
removing_within s p = cond_both (has s p) (s - 2 ^ p) s (λ t. t ≤ s) (λ _. omega arith) (λ _. omega arith)

pub fewer_without : (s p : ℕ) → has s p ≡ true → count_ones (removing s p) + 1 ≡ count_ones s
fewer_without s p h = ap (λ m. count_ones m + 1) (cond-true _ _ _ h) ∙ fewer p s (eqb-true _ _ h)

-- where zeros end below the top, a one stands
trailing_set : (k n : ℕ) → count_trailing_zeros k n < k → bit_at n (count_trailing_zeros k n) ≡ 1
unfolding count_trailing_zeros
trailing_set zero n h = absurd (omega arith)
trailing_set (suc k) n h = from (trailing_set k (n / 2)) (n % 2) refl h
  where
    from : (count_trailing_zeros k (n / 2) < k → bit_at (n / 2) (count_trailing_zeros k (n / 2)) ≡ 1)
        → (d : ℕ) → n % 2 ≡ d → under d (count_trailing_zeros k (n / 2)) < suc k → bit_at n (under d (count_trailing_zeros k (n / 2))) ≡ 1
    from rest zero e h = bit_at-suc n (count_trailing_zeros k (n / 2)) ∙ rest (omega arith)
    from rest (suc d) e h = bit_at_lowest n ∙ omega arith

pub has_lowest : (s p : ℕ) → p < 32 → Some p ≡ lowest s → has s p ≡ true
has_lowest s p low e = here (eqb s 0) e
  where
    here : (b : Bool) → Some p ≡ cond b None (Some (count_trailing_zeros 32 s)) → has s p ≡ true
    here true e = absurd (cc)
    here false e =
        let same : p ≡ count_trailing_zeros 32 s = cc in
        eq-eqb _ _ (ap (bit_at s) same ∙ trailing_set 32 s (omega arith))

-- the lowest place from n on is not below n
pub lowest_from : (s n : ℕ) (r : Option ℕ) → r ≡ lowest (from_place s n) → IfSome r (λ p. p < 32) → IfSome r (λ p. (n ≤ p) × (p < 32))
lowest_from s n None e under = tt
lowest_from s n (Some p) e under = (⊎_elim (λ lt. absurd (omega (arith, below lt, eqb-true _ 1 there))) (λ le. le) (cases_lt p n), under)
  where
    there : has (from_place s n) p ≡ true
    there = has_lowest (from_place s n) p under e

    below : p < n → bit_at (from_place s n) p ≡ 0
    below lt = ap (λ m. bit_at m p) (sym (add-zero _)) ∙ bit_at_cat_low (s / 2 ^ n) n 0 p lt ∙ bit_at-zero p
