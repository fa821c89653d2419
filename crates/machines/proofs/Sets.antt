-- What the operations on sets of places do, by what is in the set after them. Nothing is assumed.
use Rattle.std.proofs.Common.{◌≡◌, ◌↔◌, ℕ, zero, suc, ◌+◌, ◌-◌, ◌/◌, ◌^◌, ◌<◌, true, false, not, ◌&&◌, ◌||◌, cond, eqb, nat_lt, nat_le, ◌∷◌, length, Some, None, sym, arith, bit_and, bit_xor, count_ones, ap, ◌∙◌, eq-eqb, subst}
use native.Mathlib.Nat.{div-one, pow-suc}
use lib.Bits.{xor_add_and}
use lib.Count.{count_trailing_zeros, ones_step}
use Rattle.std.proofs.lemmas.Bool.{eqb-true, eqb-false, ne_eqb, cond_both, both_ways}
use Rattle.std.proofs.lemmas.Bool.Decides.{nat_tests}
use Rattle.std.proofs.lemmas.Nat.{shr-shr, ones_le_self}
use Rattle.std.proofs.lemmas.Nat.Bits.{bit_at-zero, bit_at_and, bit_at_or, bit_at_xor, bit_at-lt, and_pow, bit_at-pow_same, bit_at-pow_other, bit_at_ones, bit_at_ones_above, bit_at-trailing_zeros, same_from_bits}
use Rattle.std.specs.Int.{bit_at, w32}
use Rattle.std.specs.List.{filter, range_with_len}
use Rattle.machines.proofs.Masks.{past_below}
use Rattle.machines.specs.Places.{has, adding, removing, first_places, from_place, outside, common, lowest, places_in, SetLaws}

of_empty : (q : ℕ) → has 0 q ≡ false
of_empty q = ne_eqb _ _ (λ e. omega (arith, bit_at-zero q))

-- the place alone
alone : (p q : ℕ) → bit_at (2 ^ p) q ≡ cond (eqb p q) 1 0
alone p q = grind (arith, nat_tests, bit_at-pow_same p, bit_at-pow_other p q)

of_adding : (s p q : ℕ) → has (adding s p) q ≡ (has s q || eqb p q)
of_adding s p q = grind (arith, nat_tests, alone p q, bit_at_or s (2 ^ p) q, bit_at-lt s q)

-- to take a place from a set that has it is to turn its digit
taken : (s p : ℕ) → has s p ≡ true → s - 2 ^ p ≡ bit_xor s (2 ^ p)
taken s p h = omega (arith, xor_add_and s (2 ^ p), rw (eqb-true _ _ h) at (and_pow s p))

of_removing : (s p q : ℕ) → has (removing s p) q ≡ (has s q && not (eqb p q))
of_removing s p q =
    cond_both (has s p) (s - 2 ^ p) s (λ t. has t q ≡ (has s q && not (eqb p q)))
    (λ h. ap (λ t. has t q) (taken s p h) ∙ grind (arith, nat_tests, alone p q, bit_at_xor s (2 ^ p) q, bit_at-lt s q))
    (λ h. grind (arith, nat_tests, h))

of_first : (n q : ℕ) → has (first_places n) q ≡ nat_lt q n
of_first n q = grind (arith, nat_tests, bit_at_ones n q, bit_at_ones_above n q)

of_outside : (s o q : ℕ) → has (outside s o) q ≡ (has s q && not (has o q))
of_outside s o q = grind (arith, nat_tests, bit_at_xor s (bit_and s o) q, bit_at_and s o q, bit_at-lt s q, bit_at-lt o q)

of_from : (s n q : ℕ) → has (from_place s n) q ≡ (has s q && nat_le n q)
of_from s n q = ap (λ t. has t q) (sym (past_below s n)) ∙ of_outside s (first_places n) q ∙ grind (arith, nat_tests, of_first n q)

of_common : (s o q : ℕ) → has (common s o) q ≡ (has s q && has o q)
of_common s o q = grind (arith, nat_tests, bit_at_and s o q, bit_at-lt s q, bit_at-lt o q)

abbrev IsLowest : ℕ → ℕ → Type 0
IsLowest s p = (has s p ≡ true) × ((q : ℕ) → q < p → has s q ≡ false)

-- a set has one lowest place
only : (s p r : ℕ) → IsLowest s p → IsLowest s r → p ≡ r
only s p r a b = grind (arith, a.0, b.0, a.1 r, b.1 p)

of_lowest : (s p : ℕ) → s < 2 ^ 32 → lowest s ≡ Some p ↔ IsLowest s p
of_lowest s p small =
    cond_both (eqb s 0) None (Some first) (λ r. r ≡ Some p ↔ IsLowest s p)
    (λ h. (λ e. cc, λ l. absurd (both_ways (has s p) (ap (λ t. has t p) (eqb-true _ _ h) ∙ of_empty p) l.0)))
    (λ h. let l = found (eqb-false _ _ h) in (λ e. let same : first ≡ p = cc in subst (IsLowest s) same l, λ m. ap Some (only s first p l m)))
  where
    first : ℕ
    first = count_trailing_zeros 32 s

    found : (s ≡ 0 → ⊥) → IsLowest s first
    found some =
        let low = bit_at-trailing_zeros w32 s (omega arith) small in
        (eq-eqb _ _ low.1, λ q l. ne_eqb _ _ (λ e. omega (arith, low.2 q l)))

of_known : (s o : ℕ) → ((q : ℕ) → has s q ≡ has o q) → s ≡ o
of_known s o same = same_from_bits s o (λ q. grind (arith, nat_tests, same q, bit_at-lt s q, bit_at-lt o q))

-- the places from a on, of which there are at most n
counted : (n s a : ℕ) → s / 2 ^ a < 2 ^ n → count_ones (s / 2 ^ a) ≡ length (filter (has s) (range_with_len a n))
counted zero s a small = omega (arith, ones_le_self (s / 2 ^ a))
counted (suc n) s a small =
    let half : s / 2 ^ a / 2 ≡ s / 2 ^ (a + 1) = shr-shr s a 1 in
    let rest = counted n s (a + 1) (omega (arith, half, pow-suc 2 n)) in
    let ps = filter (has s) (range_with_len (a + 1) n) in
    cond_both (has s a) (a ∷ ps) ps (λ qs. count_ones (s / 2 ^ a) ≡ length qs)
    (λ h. omega (arith, ones_step (s / 2 ^ a), ap count_ones half, rest, eqb-true _ _ h))
    (λ h. omega (arith, ones_step (s / 2 ^ a), ap count_ones half, rest, eqb-false _ _ h))

of_count : (s : ℕ) → s < 2 ^ 32 → count_ones s ≡ length (places_in s 32)
unfolding places_in
of_count s small = ap count_ones (sym (div-one s)) ∙ counted 32 s 0 (omega (arith, div-one s))

pub set_laws : SetLaws
set_laws = record {
  empty = of_empty;
  adding = of_adding;
  removing = of_removing;
  first = of_first;
  from = of_from;
  outside = of_outside;
  common = of_common;
  lowest = of_lowest;
  known = of_known;
  count = of_count;
}
